-- What a reading gives: the thing read, or why it is refused. Definitions only.
use Rattle.std.specs.Prelude.{ℕ, Bool, true, false, List, None, Some}
use Rattle.basics.specs.Buffers.{front}
use Rattle.zvt_rules.specs.declared.Refusal.{Refusal}

pub data Reading (A : Type 0) : Type 0 where
  got : A → Reading A
  refused : Refusal → Reading A

-- R46: "Every refusal of a body names a place, counted from 0 at the message's start": a number, and that place
abbrev pub fault_at : ℕ → ℕ → Refusal
fault_at number at = record { number = number; place = Some at }

-- R46: "No other refusal names one"
abbrev pub unplaced : ℕ → Refusal
unplaced number = record { number = number; place = None }

-- refused where the test holds, else as what follows says
unfoldable pub unless : {A : Type 0} → Bool → Refusal → Reading A → Reading A
unless true r x = refused r
unless false r x = x

-- what follows uses what was read. R40: "the first refusal is the answer"
unfoldable pub and_then : {A B : Type 0} → Reading A → (A → Reading B) → Reading B
and_then (got a) f = f a
and_then (refused r) f = refused r

-- what is left in a buffer that is lent for what was read. R32: "A refusal leaves the desk and all lent buffers as they were." R33:
-- "Success leaves the bytes of a lent buffer behind those written as they were."
unfoldable pub written_leaves : Reading (List ℕ) → List ℕ → List ℕ
written_leaves (got w) out = front w out
written_leaves (refused r) out = out
