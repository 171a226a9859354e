-- Tests: what a Boolean says, what two say together, and what is chosen by one. Assumes nothing.
use mathlib.Core.Path.{◌≡◌, refl, sym, ◌∙◌}
use mathlib.Core.Bool.{Bool, true, false, ◌&&◌, ◌||◌, and-eq-true_iff, false≢true}
use mathlib.Core.Logic.{◌↔◌, ◌⊎◌, inl, inr, ⊎_elim}
use Prim.Native.Nat.{ℕ, zero, suc, ◌+◌, ◌<◌, ◌≤◌}
use native.Mathlib.Nat.{eq-or-lt_of_le}
use native.Mathlib.Omega.{arith}
use lib.Dec.{leb, eqb}
use borrow.Author.Tests.{leb-true, le-leb, leb-false, lt-leb, eqb-true, eq-eqb}
use Rattle.basics.specs.Choice.{pick}

-- ---- a test holds or fails, and never both
pub by-test : {X : Type 0} (t : Bool) → (t ≡ true → X) → (t ≡ false → X) → X
by-test true p q = p refl
by-test false p q = q refl

pub true-false : {t : Bool} → t ≡ true → t ≡ false → ⊥
true-false e f = false≢true (sym f ∙ e)

-- what is built in two ways is not the same: `cc` finds the two in what is given
pub never : {X : Type 0} → ◌≡◌ {A = ℕ} 0 1 → X
never e = absurd (omega (arith, e))

-- ---- a choice, by its test
pub pick_true : {A : Type 0} {t : Bool} (x y : A) → t ≡ true → pick t x y ≡ x
pick_true x y e = rw e

pub pick-false : {A : Type 0} {t : Bool} (x y : A) → t ≡ false → pick t x y ≡ y
pick-false x y e = rw e

-- what holds of both sides, each with its test, holds of the choice
pub pick-test : {A : Type 0} (P : A → Type 0) (t : Bool) {x y : A} → (t ≡ true → P x) → (t ≡ false → P y) → P (pick t x y)
pick-test P true p q = p refl
pick-test P false p q = q refl

pub pick-alike : {A : Type 0} (t : Bool) {x y u v : A} → (t ≡ true → x ≡ u) → (t ≡ false → y ≡ v) → pick t x y ≡ pick t u v
pick-alike true p q = p refl
pick-alike false p q = q refl

pub pick_same : {A : Type 0} (t : Bool) {x y : A} → x ≡ y → pick t x y ≡ y
pick_same true e = e
pick_same false e = refl

pub pick_under : {A B : Type 0} (f : A → B) (t : Bool) (x y : A) → f (pick t x y) ≡ pick t (f x) (f y)
pick_under f true x y = refl
pick_under f false x y = refl

-- ---- a test and what it tests
pub leb-test : (m n : ℕ) → (leb m n ≡ true) ↔ (m ≤ n)
leb-test m n = (leb-true m n, le-leb m n)

pub leb-fails : (m n : ℕ) → (leb m n ≡ false) ↔ (n < m)
leb-fails m n = (leb-false m n, lt-leb m n)

pub eqb-test : (m n : ℕ) → (eqb m n ≡ true) ↔ (m ≡ n)
eqb-test m n = (eqb-true m n, eq-eqb m n)

pub and-test : {A B : Type 0} {t u : Bool} → ((t ≡ true) ↔ A) → ((u ≡ true) ↔ B) → (t && u ≡ true) ↔ (A × B)
and-test {t = true} r q = (λ e. (r.0 refl, q.0 e), λ k. q.1 k.1)
and-test {t = false} r q = (λ e. absurd (false≢true e), λ k. r.1 k.0)

pub or-test : {A B : Type 0} {t u : Bool} → ((t ≡ true) ↔ A) → ((u ≡ true) ↔ B) → (t || u ≡ true) ↔ (A ⊎ B)
or-test {t = true} r q = (λ e. inl (r.0 refl), λ k. refl)
or-test {t = false} r q = (λ e. inr (q.0 e), ⊎_elim (λ a. absurd (false≢true (r.1 a))) q.1)

-- two together fail where one of them does
pub nand-test : {A B : Type 0} {t u : Bool} → ((t ≡ false) ↔ A) → ((u ≡ false) ↔ B) → (t && u ≡ false) ↔ (A ⊎ B)
nand-test {t = true} r q = (λ e. inr (q.0 e), ⊎_elim (λ a. absurd (false≢true (sym (r.1 a)))) q.1)
nand-test {t = false} r q = (λ e. inl (r.0 refl), λ k. refl)

pub between : (n top : ℕ) → (leb 1 n && leb n top ≡ true) ↔ ((1 ≤ n) × (n ≤ top))
between n top = and-test (leb-test 1 n) (leb-test n top)

pub case : {A X : Type 0} {t : Bool} → ((t ≡ true) ↔ A) → (A → X) → ((A → ⊥) → X) → X
case {t} r h k = by-test t (λ e. h (r.0 e)) (λ f. k λ a. true-false (r.1 a) f)

pub no-for : {A : Type 0} {t : Bool} → ((t ≡ true) ↔ A) → (A → ⊥) → t ≡ false
no-for {t} r n = by-test t (λ e. absurd (n (r.0 e))) (λ f. f)

pub fails : {A : Type 0} {t : Bool} → ((t ≡ true) ↔ A) → (t ≡ false) ↔ (A → ⊥)
fails r = (λ f a. true-false (r.1 a) f, no-for r)

-- two tests of the same thing
pub same_test : {A : Type 0} {t u : Bool} → ((t ≡ true) ↔ A) → ((u ≡ true) ↔ A) → t ≡ u
same_test {t = true} {u} r q = sym (q.1 (r.0 refl))
same_test {t = false} {u} r q = sym (no-for q λ a. false≢true (r.1 a))

-- ---- one of two, and neither
pub either : (t u : Bool) → (t || u) ≡ true → (t ≡ true) ⊎ (u ≡ true)
either true u e = inl refl
either false u e = inr e

pub neither : (t u : Bool) → (t || u) ≡ false → (t ≡ false) × (u ≡ false)
neither true u e = absurd (false≢true (sym e))
neither false u e = (refl, e)

-- ---- a test that holds of n numbers from a on, which antt computes
unfoldable pub all_from : (ℕ → Bool) → ℕ → ℕ → Bool
all_from p a zero = true
all_from p a (suc n) = p a && all_from p (suc a) n

pub at_from : (p : ℕ → Bool) (a n : ℕ) → all_from p a n ≡ true → (x : ℕ) → a ≤ x → x < a + n → p x ≡ true
unfolding all_from
at_from p a zero t x l h = absurd (omega arith)
at_from p a (suc n) t x l h =
    let k = (and-eq-true_iff (p a) (all_from p (suc a) n)).0 t in
    ⊎_elim (λ e. rw e at k.0) (λ m. at_from p (suc a) n k.1 x m (omega arith)) (eq-or-lt_of_le l)
