-- Why a reading is refused, step by step. Assumes nothing.
use mathlib.Core.Path.{◌≡◌, refl, ap, subst}
use mathlib.Core.Bool.{Bool, true, false}
use mathlib.Core.List.{List, ◌++◌, append_assoc}
use mathlib.Core.Logic.{◌⊎◌, inl, inr}
use Prim.Native.Nat.{ℕ, ◌+◌, ◌-◌, ◌<◌, ◌≤◌}
use native.Mathlib.Omega.{arith}
use lib.ListN.{length, take, drop, replicate, length-append, length-drop, length-replicate, take-append-drop}
use Rattle.zvt_rules.specs.declared.Refusal.{Refusal}
use Rattle.basics.specs.Choice.{pick}
use Rattle.zvt_rules.specs.Reading.{Reading, got, refused, fault_at, unless, and_then}
use Rattle.zvt_rules.specs.believed.Rows.{Cut}
use Rattle.zvt_rules.proofs.Readings.{got-not-refused}

-- a reading that is refused only with a fault that P says
pub data Covered {A : Type 0} (P : Refusal → Type 0) : Reading A → Type 0 where
  is : (a : A) → Covered P (got a)
  not : (r : Refusal) → P r → Covered P (refused r)

-- what it is refused with, P says
pub covered : {A : Type 0} {P : Refusal → Type 0} {x : Reading A} (r : Refusal) → Covered P x → x ≡ refused r → P r
covered r (is a) e = absurd (got-not-refused e)
covered {P = P} r (not q h) e = let same : q ≡ r = cc in subst P same h

-- it was read, or P says a refusal
pub covered-cases : {A : Type 0} {P : Refusal → Type 0} {x : Reading A} → Covered P x → ((a : A) × (x ≡ got a)) ⊎ ((r : Refusal) × P r)
covered-cases (is a) = inl (a, refl)
covered-cases (not r h) = inr (r, h)

-- through a test, a choice and a second step; and by a weaker P
pub covered-unless : {A : Type 0} {P : Refusal → Type 0} (t : Bool) (r : Refusal) {x : Reading A} → (t ≡ true → P r) → (t ≡ false → Covered P x)
    → Covered P (unless t r x)
unfolding unless
covered-unless true r h g = not r (h refl)
covered-unless false r h g = g refl

pub covered-pick : {A : Type 0} {P : Refusal → Type 0} (t : Bool) {x y : Reading A} → (t ≡ true → Covered P x) → (t ≡ false → Covered P y)
    → Covered P (pick t x y)
covered-pick true h g = h refl
covered-pick false h g = g refl

pub covered-then : {A B : Type 0} {P Q : Refusal → Type 0} {x : Reading A} (f : A → Reading B) → Covered Q x → ((r : Refusal) → Q r → P r)
    → ((a : A) → x ≡ got a → Covered P (f a)) → Covered P (and_then x f)
unfolding and_then
covered-then f (is a) m g = g a refl
covered-then f (not r h) m g = not r (m r h)

pub covered-as : {A : Type 0} {P Q : Refusal → Type 0} {x : Reading A} → Covered Q x → ((r : Refusal) → Q r → P r) → Covered P x
covered-as (is a) m = is a
covered-as (not r h) m = not r (m r h)

-- the same refusal, its place written otherwise
pub moved : {A : Type 0} (k : ℕ) {p q : ℕ} → p ≡ q → ◌≡◌ {A = Reading A} (refused (fault_at k p)) (refused (fault_at k q))
moved k e = ap (λ (x : ℕ). refused (fault_at k x)) e

-- the same row
pub placed : (P : Refusal → Type 0) (k : ℕ) {p q : ℕ} → p ≡ q → P (fault_at k p) → P (fault_at k q)
placed P k e h = subst (λ (x : ℕ). P (fault_at k x)) e h

-- bytes that begin with p and end before v bytes more are the front of p and v bytes
pub filled : (p t : List ℕ) (d v : ℕ) → p ≡ take d t → d ≤ length t → length t < d + v
    → (w : List ℕ) × (length w ≡ v) × Cut t (p ++ w)
filled p t d v e h l =
    let rest = drop d t in
    let z : List ℕ = replicate (v - length rest) 0 in
    let size : length z ≡ v - length rest = length-replicate (v - length rest) 0 in (
      rest ++ z,
      omega (arith, length-append rest z, length-drop d t),
      record { missing = z; some = omega (arith, length-drop d t); joined = rw e (rw (← (append_assoc (take d t) rest z), take-append-drop d t)) },
    )
