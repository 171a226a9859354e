-- A table that code decides by single numbers and by ranges, checked by one computed test for each. Assumes nothing.
use mathlib.Core.Path.{◌≡◌, refl, sym, ap, ◌∙◌}
use mathlib.Core.Bool.{Bool, true, false, ◌&&◌, ◌||◌, and-eq-true_iff}
use mathlib.Core.List.{List, [], ◌∷◌}
use mathlib.Core.Logic.{inl, inr}
use Prim.Native.Nat.{ℕ, ◌+◌, ◌<◌, ◌≤◌}
use lib.Dec.{eqb}
use borrow.Author.Tests.{eqb-true}
use mir.Val.{has_key}
use types.Run.{OneOf, hit}
use Rattle.basics.proofs.Tests.{by-test, all_from, at_from}

-- a test holds of every number of a list
unfoldable pub all_in : (ℕ → Bool) → List ℕ → Bool
all_in p [] = true
all_in p (k ∷ ks) = p k && all_in p ks

pub at_key : (p : ℕ → Bool) (ks : List ℕ) → all_in p ks ≡ true → (x : ℕ) → OneOf ks x → p x ≡ true
unfolding all_in
at_key p [] t x h = absurd h
at_key p (k ∷ []) t x h = rw h ((and-eq-true_iff (p k) true).0 t).0
at_key p (k ∷ (j ∷ ks)) t x (inl h) = rw h ((and-eq-true_iff (p k) (all_in p (j ∷ ks))).0 t).0
at_key p (k ∷ (j ∷ ks)) t x (inr h) = at_key p (j ∷ ks) ((and-eq-true_iff (p k) (all_in p (j ∷ ks))).0 t).1 x h

-- none of the numbers of a `match`'s arms, the last arm's first
abbrev pub NoneOf : List (List ℕ) → ℕ → Type 0
NoneOf [] x = Unit {0}
NoneOf (ks ∷ kss) x = NoneOf kss x × (OneOf ks x → ⊥)

unfoldable pub any_of : List (List ℕ) → ℕ → Bool
any_of [] x = false
any_of (ks ∷ kss) x = has_key ks x || any_of kss x

pub not-any : (kss : List (List ℕ)) (x : ℕ) → NoneOf kss x → any_of kss x ≡ false
unfolding any_of
not-any [] x n = refl
not-any (ks ∷ kss) x n = by-test (has_key ks x) (λ e. absurd (n.1 (hit ks x (rw e tt)))) (λ e. rw e (not-any kss x n.0))

-- what each number has; what it has goes by a number too, and back
pub record Table (A : Type 0) : Type 0 where
  pub at : ℕ → A
  pub code : A → ℕ
  pub back : ℕ → A
  pub same : (a : A) → back (code a) ≡ a

module _ {A : Type 0} (t : Table A) where
  abbrev is : A → ℕ → Bool
  is y k = eqb (t.code y) (t.code (t.at k))

  is-it : (y : A) (x : ℕ) → is y x ≡ true → y ≡ t.at x
  is-it y x e = sym (t.same y) ∙ ap t.back (eqb-true (t.code y) (t.code (t.at x)) e) ∙ t.same (t.at x)

  pub keyed : (y : A) (ks : List ℕ) (x : ℕ) → all_in (λ k. is y k) ks ≡ true → OneOf ks x → y ≡ t.at x
  keyed y ks x e h = is-it y x (at_key (λ k. is y k) ks e x h)

  -- a range, less the single numbers
  pub ranged : (kss : List (List ℕ)) (y : A) (a n x : ℕ) → all_from (λ k. any_of kss k || is y k) a n ≡ true
      → NoneOf kss x → (a ≤ x) × (x < a + n) → y ≡ t.at x
  ranged kss y a n x e none h =
      let k = at_from (λ k. any_of kss k || is y k) a n e x h.0 h.1 in is-it y x (rw (not-any kss x none) at k)
