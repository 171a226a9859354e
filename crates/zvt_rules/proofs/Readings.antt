-- What is known of a reading that gave something, step by step. Assumes nothing.
use mathlib.Core.Path.{◌≡◌, refl, sym}
use mathlib.Core.Bool.{Bool, true, false}
use Rattle.basics.proofs.Tests.{never}
use Rattle.zvt_rules.specs.declared.Refusal.{Refusal}
use Rattle.zvt_rules.specs.Reading.{Reading, got, refused, unless, and_then}

-- what was read is one thing
pub got_same : {A : Type 0} {a b : A} → ◌≡◌ {A = Reading A} (got a) (got b) → a ≡ b
got_same e = cc

-- it is not refused
pub got-not-refused : {A : Type 0} {a : A} {r : Refusal} → ◌≡◌ {A = Reading A} (got a) (refused r) → ⊥
got-not-refused e = never cc

-- the test did not hold
pub unless-got : {A : Type 0} (t : Bool) (r : Refusal) (x : Reading A) (a : A) → unless t r x ≡ got a → (t ≡ false) × (x ≡ got a)
unfolding unless
unless-got true r x a e = absurd (got-not-refused (sym e))
unless-got false r x a e = (refl, e)

-- a reading goes on where the test did not hold
pub unless-on : {A : Type 0} {t : Bool} (r : Refusal) (x : Reading A) → t ≡ false → unless t r x ≡ x
unfolding unless
unless-on r x e = rw e

-- what was read first, and what followed
pub then-got : {A B : Type 0} (x : Reading A) (f : A → Reading B) (b : B) → and_then x f ≡ got b → (a : A) × (x ≡ got a) × (f a ≡ got b)
unfolding and_then
then-got (got a) f b e = (a, refl, e)
then-got (refused r) f b e = absurd (got-not-refused (sym e))

-- a reading that goes on from what was read, or stops where that stopped
pub then-on : {A B : Type 0} {x : Reading A} (f : A → Reading B) (a : A) → x ≡ got a → and_then x f ≡ f a
unfolding and_then
then-on f a e = rw (e, and_then)

pub then-stop : {A B : Type 0} {x : Reading A} (f : A → Reading B) (r : Refusal) → x ≡ refused r → and_then x f ≡ refused r
unfolding and_then
then-stop f r e = rw (e, and_then)

-- two that go on alike from all that can be read agree
pub then-alike : {A B : Type 0} (x : Reading A) (f g : A → Reading B) → ((a : A) → x ≡ got a → f a ≡ g a) → and_then x f ≡ and_then x g
unfolding and_then
then-alike (got a) f g h = h a refl
then-alike (refused r) f g h = refl

-- a test before goes on before
pub unless-then : {A B : Type 0} (t : Bool) (r : Refusal) (x : Reading A) (f : A → Reading B) → and_then (unless t r x) f ≡ unless t r (and_then x f)
unfolding unless and_then
unless-then true r x f = refl
unless-then false r x f = refl
