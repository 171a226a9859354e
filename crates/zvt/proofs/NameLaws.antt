-- The card name: the bytes of field 8B up to the first zero byte, and where they lie. Assumes nothing.
use mathlib.Core.Path.{◌≡◌, refl, ap, ◌∙◌}
use mathlib.Core.Bool.{true, false}
use mathlib.Core.List.{List, [], ◌∷◌}
use Prim.Native.Nat.{ℕ, ◌+◌, ◌≤◌}
use native.Mathlib.Omega.{arith}
use lib.ListN.{length}
use lib.Dec.{eqb}
use borrow.Author.Tests.{ne_eqb}
use Rattle.std.proofs.Common.{Err, None, Ok, Some}
use Rattle.basics.specs.Lists.{part, index_of}
use Rattle.zvt_rules.specs.Reading.{Reading, got, refused}
use Rattle.basics.specs.Choice.{pick}
use Rattle.basics.proofs.Tests.{pick-test}
use Rattle.zvt_rules.proofs.ObjectReading.{part_length}
use Rattle.zvt_rules.specs.declared.Refusal.{Refusal}
use Rattle.zvt_rules.specs.declared.Span.{Span}
use Rattle.zvt_rules.specs.Message.{Message, read_of}
use Rattle.zvt_rules.specs.Listed.{asked_of, field_answer}
use Rattle.zvt_rules.specs.Name.{up_to_zero, own, between, sized_name, name_in, name_of, name_at, name_bytes, card_name, name_place}
use Rattle.basics.specs.believed.Lists.{Bytes}
use Rattle.zvt.specs.ValueSteps.{status_pair}
use Rattle.zvt.proofs.ValueLaws.{pair-is}

-- ---- the bytes before the first zero end where that stands
pub name-size : (s : List ℕ) → index_of 0 s ≡ length (up_to_zero s)
unfolding index_of up_to_zero
name-size [] = refl
name-size (b ∷ s) = pick-test (λ (n : ℕ). n ≡ length (pick (eqb b 0) [] (b ∷ up_to_zero s))) (eqb b 0) (λ t. rw t) (λ t. rw (t, name-size s))

-- ---- they are no more than the value has
name-short : (s : List ℕ) → length (up_to_zero s) ≤ length s
unfolding up_to_zero
name-short [] = omega arith
name-short (b ∷ s) = pick-test (λ (w : List ℕ). length w ≤ length (b ∷ s)) (eqb b 0) (λ _. omega arith) (λ _. omega (arith, name-short s))

-- ---- what the name is, and where it lies
module _ (s till : List ℕ) (p q : ℕ × ℕ) where
  pub own_name : name_at s ≡ own → (till ≡ card_name s till) × (q ≡ name_place p q (name_at s))
  unfolding card_name name_bytes name_place
  own_name e = rw e (refl, refl)

  pub part-name : (a e : ℕ) → name_at s ≡ between a e → (part a e s ≡ card_name s till) × ((p.0, a + p.1) ≡ name_place p q (name_at s))
  unfolding card_name name_bytes name_place
  part-name a e h = rw h (refl, refl)

module _ (s : List ℕ) (b : Bytes s) where
  -- no status information has the till's own
  pub name-other : status_pair s ≡ false → name_at s ≡ own
  unfolding name_at name_of
  name-other t = go (read_of s) refl
    where
      go : (x : Reading Message) → read_of s ≡ x → name_of s x ≡ own
      go (got m) e = rw (pair-is s m b e ∙ t)
      go (refused r) e = refl

  name_by : status_pair s ≡ true → name_at s ≡ name_in s (field_answer 0x8B s)
  unfolding name_at name_of name_in field_answer asked_of
  name_by t = go (read_of s) refl
    where
      go : (x : Reading Message) → read_of s ≡ x → name_of s x ≡ name_in s (asked_of 0x8B x)
      go (got m) e = rw (pair-is s m b e ∙ t)
      go (refused r) e = refl

  module _ (t : status_pair s ≡ true) where
    pub name-absent : field_answer 0x8B s ≡ Ok None → name_at s ≡ own
    unfolding name_in
    name-absent e = name_by t ∙ ap (name_in s) e

    pub name-refused : (r : Refusal) → field_answer 0x8B s ≡ Err r → name_at s ≡ own
    unfolding name_in
    name-refused r e = name_by t ∙ ap (name_in s) e

    module _ (l : Span) (e : field_answer 0x8B s ≡ Ok (Some l)) (k : ℕ) (size : k ≡ length (up_to_zero (part l.from l.to s))) where
      pub name-empty : k ≡ 0 → name_at s ≡ own
      unfolding name_in sized_name
      name-empty z = name_by t ∙ ap (name_in s) e ∙ rw (← size, z)

      pub name-found : (k ≡ 0 → ⊥) → name_at s ≡ between l.from (l.from + k)
      unfolding name_in sized_name
      name-found n = name_by t ∙ ap (name_in s) e ∙ rw (← size, ne_eqb k 0 n)

      -- it is no longer than the field's value
      pub name-inside : l.from ≤ l.to → l.to ≤ length s → l.from + k ≤ l.to
      name-inside o i = let v = part l.from l.to s in omega (arith, size, name-short v, part_length s l.from l.to o i)
