-- What the readers of a field's bounds and of plain values answer, case by case. Assumes nothing.
use mathlib.Core.Path.{◌≡◌, refl, sym, ap, ◌∙◌}
use mathlib.Core.Bool.{Bool, true, false, not}
use mathlib.Core.List.{List, [], ◌∷◌}
use Prim.Native.Nat.{ℕ, ◌+◌, ◌<◌, ◌≤◌}
use native.Mathlib.Omega.{arith}
use lib.ListN.{length, get_or, drop, length-drop}
use lib.Dec.{leb}
use borrow.Author.Tests.{leb-true}
use Rattle.std.proofs.Common.{Err, Ok}
use Rattle.zvt_rules.specs.declared.Refusal.{Refusal}
use Rattle.zvt_rules.specs.declared.Format.{Format}
use Rattle.zvt_rules.specs.declared.Format.TheVariants.{Unknown, Fixed, Digits, Container}
use Rattle.basics.specs.Lists.{among, part}
use Rattle.zvt_rules.specs.Reading.{Reading, got, refused, fault_at, unless, and_then}
use Rattle.zvt_rules.specs.Fields.{format_of, decimal, unless_undecimal, holds_digits, digits_in, plain}
use Rattle.zvt_rules.specs.Shortest.{short_field}
use Rattle.basics.proofs.Tests.{pick_true, pick-false, all_from, at_from, never}
use Rattle.zvt_rules.proofs.Readings.{then-on, then-stop, unless-then}
use Rattle.zvt_rules.proofs.ObjectReading.{len-in}
use Rattle.zvt_rules.proofs.FieldReading.{digits-in}
use Rattle.zvt.specs.declared.objects.Bounds.{Bounds}
use Rattle.zvt.specs.declared.objects.Tally.{Tally}
use Rattle.zvt.specs.ObjectSteps.{as_bounds, as_part, len_answer, within}
use Rattle.zvt.specs.FieldSteps.{as_digits, digits_answer, as_decimals, decimals_answer, bounds_by, field_bounds, spare_field, field_tally, plain_answer}
use Rattle.zvt.proofs.ObjectLaws.{len-got, len-stopped}

-- ---- decimal digits, whatever follows them
pub decimals-then : {A : Type 0} (at : ℕ) (s t : List ℕ) (x : Reading A)
    → unless_undecimal at s x ≡ and_then (unless_undecimal at s (got t)) (λ u. x)
unfolding unless_undecimal and_then
decimals-then at [] t x = refl
decimals-then at (b ∷ s) t x = ap (unless (not (decimal b)) (fault_at 6 at)) (decimals-then (at + 1) s t x) ∙ sym (unless-then _ _ _ _)

pub decimals-got : (x : Reading (List ℕ)) → as_decimals x ≡ Ok tt → (t : List ℕ) × (x ≡ got t)
unfolding as_decimals
decimals-got (got t) e = (t, refl)
decimals-got (refused r) e = never cc

pub decimals-stopped : (x : Reading (List ℕ)) (r : Refusal) → as_decimals x ≡ Err r → x ≡ refused r
unfolding as_decimals
decimals-stopped (got t) r e = never cc
decimals-stopped (refused q) r e = cc

-- ---- a plain value
plain-spare : (id : ℕ) (value : List ℕ) → spare_field (plain id value) ≡ 0
unfolding spare_field short_field
plain-spare id value = omega arith

module _ (n at : ℕ) (b : Bounds) (s : List ℕ) where
  abbrev whole : Tally
  whole = record { size = b.to; objects = n; spare = 0 }

  abbrev value : List ℕ
  value = part b.from b.to s

  pub plain-bytes : holds_digits (get_or s 0 0) ≡ false → plain_answer n at b s ≡ Ok whole
  unfolding plain_answer digits_in as_part field_tally
  plain-bytes e = ap (as_part field_tally) (pick-false _ _ e) ∙ rw plain-spare

  pub plain-digits : holds_digits (get_or s 0 0) ≡ true → decimals_answer (at + b.from) value ≡ Ok tt → plain_answer n at b s ≡ Ok whole
  unfolding plain_answer digits_in as_part field_tally decimals_answer
  plain-digits e f =
      let g = decimals-got _ f in
      ap (as_part field_tally) (pick_true _ _ e ∙ decimals-then _ value value _ ∙ then-on _ g.0 g.1) ∙ rw plain-spare

  pub plain-stopped : (r : Refusal) → holds_digits (get_or s 0 0) ≡ true → decimals_answer (at + b.from) value ≡ Err r
      → plain_answer n at b s ≡ Err r
  unfolding plain_answer digits_in as_part decimals_answer
  plain-stopped r e f = ap (as_part field_tally) (pick_true _ _ e ∙ decimals-then _ value value _ ∙ then-stop _ r (decimals-stopped _ r f))

-- ---- where a field's value lies, by the format of its id
-- no more than three length digits
few : Format → Bool
few Unknown = true
few (Fixed k) = true
few (Digits d) = leb d 3
few Container = true

pub digits-few : (id d : ℕ) → id < 256 → format_of id ≡ Digits d → d ≤ 3
unfolding few all_from format_of among
digits-few id d h e = leb-true d 3 (ap few (sym e) ∙ at_from (λ k. few (format_of k)) 0 256 refl id (omega arith) h)

digits-got : (x : Reading ℕ) (v : ℕ) → as_digits x ≡ Ok v → x ≡ got v
unfolding as_digits
digits-got (got w) v e = cc
digits-got (refused r) v e = never cc

digits-stopped : (x : Reading ℕ) (r : Refusal) → as_digits x ≡ Err r → x ≡ refused r
unfolding as_digits
digits-stopped (got w) r e = never cc
digits-stopped (refused q) r e = cc

-- a value that begins at a: all else is a matter of where it ends
abbrev pub Begins : ℕ → List ℕ → ℕ → ℕ → Bool → Type 0
Begins at s a v run = (a ≤ length s) × (field_bounds at s ≡ within at 1 a v run s)

module _ (at : ℕ) (s : List ℕ) where
  by-format : (f : Format) → format_of (get_or s 0 0) ≡ f → field_bounds at s ≡ as_bounds (bounds_by at s f)
  unfolding field_bounds
  by-format f e = rw e

  pub bounds-unknown : format_of (get_or s 0 0) ≡ Unknown → field_bounds at s ≡ Err (fault_at 5 at)
  unfolding bounds_by as_bounds
  bounds-unknown e = by-format Unknown e

  pub bounds-fixed : (k : ℕ) → format_of (get_or s 0 0) ≡ Fixed k → field_bounds at s ≡ within at 1 1 k false s
  unfolding bounds_by within
  bounds-fixed k e = by-format (Fixed k) e

  module _ (d : ℕ) (f : format_of (get_or s 0 0) ≡ Digits d) where
    pub bounds-no-digits : (r : Refusal) → digits_answer d (at + 1) (drop 1 s) ≡ Err r → field_bounds at s ≡ Err r
    unfolding bounds_by as_bounds digits_answer
    bounds-no-digits r e = by-format (Digits d) f ∙ ap as_bounds (then-stop _ r (digits-stopped _ r e))

    pub bounds-digits : 0 < length s → (v : ℕ) → digits_answer d (at + 1) (drop 1 s) ≡ Ok v → Begins at s (1 + d) v false
    unfolding bounds_by within digits_answer
    bounds-digits l v e =
        let g = digits-got _ v e in (
          omega (arith, digits-in d 0 (at + 1) (drop 1 s) v g, length-drop 1 s),
          by-format (Digits d) f ∙ ap as_bounds (then-on _ v g),
        )

  module _ (f : format_of (get_or s 0 0) ≡ Container) where
    pub bounds-no-length : (r : Refusal) → len_answer (at + 1) (drop 1 s) ≡ Err r → field_bounds at s ≡ Err r
    unfolding bounds_by as_bounds len_answer
    bounds-no-length r e = by-format Container f ∙ ap as_bounds (then-stop _ r (len-stopped _ r e))

    pub bounds-length : 0 < length s → (size v : ℕ) → len_answer (at + 1) (drop 1 s) ≡ Ok (size, v) → Begins at s (1 + size) v true
    unfolding bounds_by within len_answer
    bounds-length l size v e =
        let g = len-got _ size v e in (
          omega (arith, len-in (at + 1) (drop 1 s) g.0 g.1, g.2, length-drop 1 s),
          by-format Container f ∙ ap as_bounds (then-on _ g.0 g.1) ∙ rw (g.2, g.3),
        )
