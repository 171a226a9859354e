-- What is printed at the start of a buffer, and texts that are put together. Assumes nothing.
use mathlib.Core.Path.{◌≡◌, refl, ap, ◌∙◌}
use mathlib.Core.List.{List, [], ◌∷◌, ◌++◌, append_assoc}
use Prim.Native.Nat.{ℕ, ◌≤◌, min}
use native.Mathlib.Omega.{arith}
use lib.ListN.{length, take}
use lib.Seq.{take_all}
use lib.Dec.{leb}
use borrow.Author.Tests.{leb-true, leb-false}
use Rattle.std.proofs.Common.{Ok, Some}
use Rattle.basics.specs.Text.{Text, text, add_all, bytes_text, decimal_text}
use Rattle.basics.specs.believed.Text.{ascii}
use Rattle.basics.proofs.Tests.{by-test}
use Rattle.buffers.proofs.TextLaws.{both, stands}
use Rattle.basics.specs.Lists.{part}
use Rattle.zvt_rules.specs.Listed.{field_answer, handed_bytes}
use Rattle.zvt_rules.specs.declared.Span.{Span}
use Rattle.desk_rules.specs.declared.Lane.{Lane}
use Rattle.printing.specs.Answers.{Printed, line, ok_text}
use Rattle.printing.specs.Desks.{kind_text, payment_text}

pub printed : (room : ℕ) (w entry : List ℕ) {end : ℕ} {exit : List ℕ} → length w ≤ room → text end exit ≡ add_all w (text 0 entry)
    → Printed room w end entry exit
printed room w entry {end} {exit} long e =
    let (whole, inside) = stands room w entry end exit long e in
    record { added = e; whole = whole; inside = inside }

-- a text said otherwise
pub alike : (v w : List ℕ) (t : Text) {x : Text} → v ≡ w → x ≡ add_all v t → x ≡ add_all w t
alike v w t e f = f ∙ ap (λ (u : List ℕ). add_all u t) e

-- with more room
pub roomier : {few room : ℕ} {w : List ℕ} {end : ℕ} {entry exit : List ℕ} → few ≤ room → Printed few w end entry exit
    → Printed room w end entry exit
roomier h p = record { added = p.added; whole = λ k. p.whole (omega arith); inside = p.inside }

pub ok-none : (v : List ℕ) → length v ≡ 0 → ok_text v ≡ line (ascii "ok" ∷ [])
unfolding ok_text
ok-none [] h = refl
ok-none (b ∷ v) h = absurd (omega arith)

pub ok-some : (v : List ℕ) → (length v ≡ 0 → ⊥) → ok_text v ≡ line (ascii "ok" ∷ bytes_text v ∷ [])
unfolding ok_text
ok-some [] h = absurd (h refl)
ok-some (b ∷ v) h = refl

pub take-upto : (n : ℕ) (s : List ℕ) → take (min n (length s)) s ≡ take n s
take-upto n s =
    by-test (leb n (length s)) (λ t. let k = leb-true n (length s) t in let e : min n (length s) ≡ n = omega arith in rw e)
    (λ t.
    let k = leb-false n (length s) t in
    let e : min n (length s) ≡ length s = omega arith in
    rw (e, take_all (length s) s (omega arith), take_all n s (omega arith)))

-- a payment, and what stands behind it
pub payment : (l : Lane) (rest : List ℕ) (t : Text) {u x : Text} → u ≡ add_all (payment_text l) t → x ≡ add_all rest u
    → x ≡ add_all (32 ∷ (kind_text l.kind ++ (32 ∷ (decimal_text l.asked ++ (32 ∷ (decimal_text l.named ++ rest)))))) t
payment l rest t e f = simp append_assoc at (both (payment_text l) rest t e f)

-- the bytes of a field that is there
pub handed-value : (id : ℕ) (s other : List ℕ) (p : Span) → field_answer id s ≡ Ok (Some p)
    → handed_bytes s other (field_answer id s) ≡ part p.from p.to s
unfolding handed_bytes
handed-value id s other p e = rw e
