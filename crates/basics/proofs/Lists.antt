-- What stands in a list: found by taking it apart, in two lists together, and by the test `among`. Assumes nothing.
use mathlib.Core.Path.{◌≡◌, sym, ap, ◌∙◌}
use mathlib.Core.Bool.{true, false≢true}
use mathlib.Core.Logic.{◌↔◌, ◌⊎◌, inl, inr, ⊎_elim}
use mathlib.Core.List.{List, [], ◌∷◌, ◌++◌, append_assoc}
use Prim.Native.Nat.{ℕ, suc, ◌+◌, ◌≤◌, ◌<◌}
use native.Mathlib.Numerals.{add-one}
use native.Mathlib.Omega.{arith}
use lib.ListN.{length, get_or, drop, drop_of_length-le}
use lib.Seq.{drop-cons}
use borrow.Author.Tests.{eqb-true, eq-eqb, ne_eqb}
use Rattle.basics.specs.Lists.{among, index_of}
use Rattle.basics.specs.believed.Lists.{In}
use Rattle.basics.proofs.Tests.{or-test}

-- nothing stands in the empty list; what stands in another is its first element or stands behind it
pub in-none : {A X : Type 0} {x : A} → In x [] → X
in-none ([], after, e) = absurd (omega (arith, ap length e))
in-none (y ∷ before, after, e) = absurd (omega (arith, ap length e))

pub in-first : {A : Type 0} {x y : A} {xs : List A} → In x (y ∷ xs) → (x ≡ y) ⊎ In x xs
in-first ([], after, e) = inl cc
in-first (z ∷ before, after, e) = inr (before, after, cc)

pub in-more : {A : Type 0} {x y : A} {xs : List A} → (x ≡ y) ⊎ In x xs → In x (y ∷ xs)
in-more {xs} (inl e) = ([], xs, rw e)
in-more {y} (inr k) = (y ∷ k.0, k.1, ap (λ l. y ∷ l) k.2)

-- and what stands in one of two lists stands in both together
pub in_left : {A : Type 0} {x : A} (xs ys : List A) → In x xs → In x (xs ++ ys)
in_left xs ys (before, after, e) = (before, after ++ ys, ap (λ zs. zs ++ ys) e ∙ append_assoc before _ ys)

pub in_right : {A : Type 0} {x : A} (xs ys : List A) → In x ys → In x (xs ++ ys)
in_right xs ys (before, after, e) = (xs ++ before, after, ap (λ zs. xs ++ zs) e ∙ sym (append_assoc xs before _))

-- one of a list of numbers
pub among-exactly : (ks : List ℕ) (x : ℕ) → (among ks x ≡ true) ↔ In x ks
unfolding among
among-exactly [] x = (λ e. absurd (false≢true e), in-none)
among-exactly (k ∷ ks) x =
    let t = or-test {A = x ≡ k} (λ e. sym (eqb-true k x e), λ e. eq-eqb k x (sym e)) (among-exactly ks x) in
    (λ e. in-more (t.0 e), λ i. t.1 (in-first i))

-- what holds of each element holds of one that stands there
unfoldable pub Each : {A : Type 0} → (A → Type 0) → List A → Type 0
Each P [] = Unit {0}
Each P (x ∷ xs) = P x × Each P xs

pub in-each : {A : Type 0} (P : A → Type 0) {x : A} (xs : List A) → Each P xs → In x xs → P x
unfolding Each
in-each P [] h k = in-none k
in-each P (y ∷ xs) h k = ⊎_elim (λ e. rw e h.0) (in-each P xs h.1) (in-first k)

-- ---- where a byte stands first
pub index-none : (b : ℕ) (s : List ℕ) (i : ℕ) → length s ≤ i → index_of b (drop i s) ≡ 0
unfolding index_of
index-none b s i h = rw (drop_of_length-le s h)

pub index-here : (b : ℕ) (s : List ℕ) (i : ℕ) → i < length s → get_or s i 0 ≡ b → index_of b (drop i s) ≡ 0
unfolding index_of
index-here b s i h e = rw (drop-cons s i 0 h, eq-eqb (get_or s i 0) b e)

pub index-later : (b : ℕ) (s : List ℕ) (i : ℕ) → i < length s → (get_or s i 0 ≡ b → ⊥) → index_of b (drop i s) ≡ suc (index_of b (drop (i + 1) s))
unfolding index_of
index-later b s i h n = rw (drop-cons s i 0 h, ne_eqb (get_or s i 0) b n, add-one i)
