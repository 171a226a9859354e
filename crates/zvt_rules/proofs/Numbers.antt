-- A reading is refused with one of the numbers 1 to 10 and 22, so its fuel is never spent. Assumes nothing.
use mathlib.Core.Path.{◌≡◌, refl}
use mathlib.Core.Bool.{Bool, true, false, ◌&&◌, ◌||◌}
use mathlib.Core.Logic.{◌⊎◌, ⊎_elim}
use mathlib.Core.List.{List, [], ◌∷◌}
use Prim.Native.Nat.{ℕ, zero, suc, ◌+◌, ◌<◌, ◌≤◌}
use native.Mathlib.Omega.{arith}
use lib.ListN.{length, get_or, drop, length-drop}
use lib.Dec.{leb, ltb, eqb}
use Rattle.zvt_rules.specs.declared.Refusal.{Refusal}
use Rattle.zvt_rules.specs.declared.Format.{Format}
use Rattle.zvt_rules.specs.declared.Format.TheVariants.{Unknown, Fixed, Digits, Container}
use Rattle.zvt_rules.specs.declared.Layout.{Layout}
use Rattle.zvt_rules.specs.declared.Layout.TheVariants.{Plain, List as FieldList, Secured}
use Rattle.basics.specs.Choice.{pick}
use Rattle.basics.specs.Lists.{part}
use Rattle.zvt_rules.specs.Reading.{Reading, got, refused, fault_at, unless, and_then}
use Rattle.zvt_rules.specs.Objects.{long_tag, nested, second_tag, tag_size, one_byte_len, two_byte_len, len_of, from, to, head_with, head_of, run_by, one_by, run_of, one_of}
use Rattle.zvt_rules.specs.Fields.{digits_of, unless_undecimal, holds_digits, digits_in, value_of, plain_of, container_of, field_by, field_of, list_by, list_of}
use Rattle.zvt_rules.specs.Message.{long_length, length_of, header_with, header_of, secured_of, body_of, message_of, whole_header, first_of, read_of}
use Rattle.zvt_rules.proofs.Readings.{got-not-refused}
use Rattle.zvt_rules.proofs.ObjectReading.{part_length, head-in, one_in, run_none, run_step, one-step}
use Rattle.zvt_rules.proofs.FieldReading.{field_in, list-none, list-step}
use Rattle.basics.proofs.Tests.{pick-test, between, or-test, eqb-test}

abbrev Low : Refusal → Type 0
Low r = (leb 1 r.number && leb r.number 10) || eqb r.number 22 ≡ true

-- what that says of the number
abbrev pub OfMessage : Refusal → Type 0
OfMessage r = ((1 ≤ r.number) × (r.number ≤ 10)) ⊎ (r.number ≡ 22)

data Small {A : Type 0} : Reading A → Type 0 where
  is : (a : A) → Small (got a)
  refused_low : (f : Refusal) → Low f → Small (refused f)

small-unless : {A : Type 0} (t : Bool) (f : Refusal) (x : Reading A) → Low f → Small x → Small (unless t f x)
unfolding unless
small-unless true f x l h = refused_low f l
small-unless false f x l h = h

small-with : {A B : Type 0} (x : Reading A) (f : A → Reading B) → Small x → ((a : A) → x ≡ got a → Small (f a)) → Small (and_then x f)
unfolding and_then
small-with _ f (is a) h = h a refl
small-with _ f (refused_low r l) h = refused_low r l

small-then : {A B : Type 0} (x : Reading A) (f : A → Reading B) → Small x → ((a : A) → Small (f a)) → Small (and_then x f)
small-then x f s h = small-with x f s (λ a _. h a)

small-pick : {A : Type 0} (t : Bool) {x y : Reading A} → Small x → Small y → Small (pick t x y)
small-pick t h k = pick-test Small t (λ e. h) (λ e. k)

-- ---- objects
second-small : (at : ℕ) (s : List ℕ) → Small (second_tag at s)
unfolding second_tag
second-small at [] = refused_low _ refl
second-small at (b ∷ s) = small-unless _ _ _ refl (is 2)

tag_small : (at : ℕ) (s : List ℕ) → Small (tag_size at s)
unfolding tag_size
tag_small at [] = refused_low _ refl
tag_small at (b ∷ s) = small-pick (long_tag b) (second-small (at + 1) s) (is 1)

one-small : (at : ℕ) (s : List ℕ) → Small (one_byte_len at s)
unfolding one_byte_len
one-small at [] = refused_low _ refl
one-small at (v ∷ s) = is _

two-small : (at : ℕ) (s : List ℕ) → Small (two_byte_len at s)
unfolding two_byte_len
two-small at [] = refused_low _ refl
two-small at (h ∷ []) = refused_low _ refl
two-small at (h ∷ (l ∷ s)) = is _

len-small : (at : ℕ) (s : List ℕ) → Small (len_of at s)
unfolding len_of
len-small at [] = refused_low _ refl
len-small at (b ∷ s) = small-pick (ltb b 0x80) (is _) (small-pick (eqb b 0x81) (one-small (at + 1) s) (small-pick (eqb b 0x82) (two-small (at + 1) s) (refused_low _ refl)))

head_small : (at : ℕ) (s : List ℕ) → Small (head_of at s)
unfolding head_of head_with
head_small at s = small-then _ _ (tag_small at s) λ tag. small-then _ _ (len-small (at + tag) (drop tag s)) λ l. small-unless _ _ _ refl (is _)

-- an object, where that is known of the shorter runs
object-by : (left n at : ℕ) (s : List ℕ) → ((l m a : ℕ) (t : List ℕ) → length t < length s → Small (run_of l m a t)) → Small (one_of left n at s)
object-by left n at s run =
    rw (one-step left n at s)
    (small-unless _ _ _ refl
    (small-unless _ _ _ refl
    (small-with _ _ (head_small at s) λ h e.
    let i = head-in at s h e in
    let less : length (part (from h) (to h) s) < length s = omega (arith, part_length s (from h) (to h) (omega arith) i.2) in
    small-pick (nested (get_or s 0 0)) (small-then _ _ (run _ _ _ _ less) λ r. is _) (is _))))

run-by : (f left n at : ℕ) (s : List ℕ) → length s < f → Small (run_of left n at s)
run-by zero left n at s l = absurd (omega arith)
run-by (suc f) left n at [] l = rw (run_none left n at [] refl) (is _)
run-by (suc f) left n at (b ∷ s) l =
    rw (run_step left n at (b ∷ s) (omega arith))
    (small-with _ _ (object-by left n at (b ∷ s) (λ i m a t h. run-by f i m a t (omega arith))) λ o e.
    let i = one_in left n at (b ∷ s) o e in
    let rest = drop o.size (b ∷ s) in
    small-then _ _ (run-by f left o.count (at + o.size) rest (omega (arith, length-drop o.size (b ∷ s)))) λ r. is _)

run_small : (left n at : ℕ) (s : List ℕ) → Small (run_of left n at s)
run_small left n at s = run-by (suc (length s)) left n at s (omega arith)

object-small : (left n at : ℕ) (s : List ℕ) → Small (one_of left n at s)
object-small left n at s = object-by left n at s (λ l m a t h. run_small l m a t)

-- ---- fields
digits-small : (d v at : ℕ) (s : List ℕ) → Small (digits_of d v at s)
unfolding digits_of
digits-small zero v at s = is v
digits-small (suc d) v at [] = refused_low _ refl
digits-small (suc d) v at (b ∷ s) = small-unless _ _ _ refl (digits-small d _ _ s)

decimal-small : {A : Type 0} (at : ℕ) (s : List ℕ) (x : Reading A) → Small x → Small (unless_undecimal at s x)
unfolding unless_undecimal
decimal-small at [] x h = h
decimal-small at (b ∷ s) x h = small-unless _ _ _ refl (decimal-small (at + 1) s x h)

value-small : (at a v : ℕ) (s : List ℕ) → Small (value_of at a v s)
unfolding value_of
value-small at a v s = small-unless _ _ _ refl (is _)

plain-small : (id n at a v : ℕ) (s : List ℕ) → Small (plain_of id n at a v s)
unfolding plain_of digits_in
plain-small id n at a v s = small-then _ _ (value-small at a v s) λ value. small-pick (holds_digits id) (decimal-small _ value _ (is _)) (is _)

container-small : (n at : ℕ) (s : List ℕ) → Small (container_of n at s)
unfolding container_of
container-small n at s =
    small-then _ _ (len-small _ _) λ l. small-then _ _ (value-small _ _ _ _) λ value. small-then _ _ (run_small _ _ _ _) λ r. is _

format_small : (id n at : ℕ) (s : List ℕ) (format : Format) → Small (field_by id n at s format)
unfolding field_by
format_small id n at s Unknown = refused_low _ refl
format_small id n at s (Fixed k) = plain-small id n at 1 k s
format_small id n at s (Digits d) = small-then _ _ (digits-small _ _ _ _) λ v. plain-small id n at (1 + d) v s
format_small id n at s Container = container-small n at s

field-small : (seen : List ℕ) (n at : ℕ) (s : List ℕ) → Small (field_of seen n at s)
unfolding field_of
field-small seen n at s = small-unless _ _ _ refl (small-unless _ _ _ refl (format_small _ n at s _))

list-by : (f : ℕ) (seen : List ℕ) (n at : ℕ) (s : List ℕ) → length s < f → Small (list_of seen n at s)
list-by zero seen n at s l = absurd (omega arith)
list-by (suc f) seen n at [] l = rw (list-none seen n at [] refl) (is _)
list-by (suc f) seen n at (id ∷ s) l =
    rw (list-step seen n at (id ∷ s) (omega arith))
    (small-with _ _ (field-small seen n at (id ∷ s)) λ o e.
    let i = field_in seen n at (id ∷ s) o e in
    let rest = drop o.size (id ∷ s) in
    small-then _ _ (list-by f (id ∷ seen) o.count (at + o.size) rest (omega (arith, length-drop o.size (id ∷ s)))) λ r. is _)

list-small : (seen : List ℕ) (n at : ℕ) (s : List ℕ) → Small (list_of seen n at s)
list-small seen n at s = list-by (suc (length s)) seen n at s (omega arith)

-- ---- messages
long-small : (s : List ℕ) → Small (long_length s)
unfolding long_length
long-small [] = refused_low _ refl
long-small (l ∷ []) = refused_low _ refl
long-small (l ∷ (h ∷ s)) = is _

length-small : (s : List ℕ) → Small (length_of s)
unfolding length_of
length-small [] = refused_low _ refl
length-small (b ∷ s) = small-pick (eqb b 0xFF) (long-small s) (is _)

header-small : (s : List ℕ) → Small (header_of s)
unfolding header_of header_with
header-small [] = refused_low _ refl
header-small (c ∷ []) = refused_low _ refl
header-small (c ∷ (i ∷ s)) = small-then _ _ (length-small s) λ l. small-unless _ _ _ refl (small-unless _ _ _ refl (is _))

whole-small : (s : List ℕ) → Small (whole_header s)
unfolding whole_header
whole-small s = small-then _ _ (header-small s) λ h. small-unless _ _ _ refl (is h)

body-small : (at : ℕ) (s : List ℕ) (layout : Layout) → Small (body_of at s layout)
unfolding body_of secured_of
body-small at s Plain = is _
body-small at s FieldList = small-then _ _ (list-small _ _ _ _) λ l. is _
body-small at s Secured = small-unless _ _ _ refl (decimal-small at _ _ (small-then _ _ (list-small _ _ _ _) λ l. is _))

read_small : (s : List ℕ) → Small (read_of s)
unfolding read_of message_of
read_small s = small-then _ _ (whole-small s) λ h. small-then _ _ (body-small _ _ _) λ b. is _

-- ---- the numbers
small-number : {A : Type 0} {x : Reading A} (f : Refusal) → Small x → x ≡ refused f → OfMessage f
small-number f (is a) e = absurd (got-not-refused e)
small-number f (refused_low g l) e = let same : g ≡ f = cc in rw same at ((or-test (between g.number 10) (eqb-test g.number 22)).0 l)

pub read-numbers : (s : List ℕ) (f : Refusal) → read_of s ≡ refused f → OfMessage f
read-numbers s f e = small-number f (read_small s) e

pub first-numbers : (s : List ℕ) (f : Refusal) → first_of s ≡ refused f → OfMessage f
unfolding first_of message_of
first-numbers s f e = small-number f (small-then _ _ (header-small s) λ h. small-then _ _ (body-small _ _ _) λ b. is _) e

-- ---- fuel: where it is spent the answer is a refusal with 0, and no run, no object and no list is refused with 0
pub spent : (left n at : ℕ) (seen s : List ℕ)
    → (run_by 0 left n at s ≡ refused (fault_at 0 at)) × (one_by 0 left n at s ≡ refused (fault_at 0 at)) × (list_by 0 seen n at s ≡ refused (fault_at 0 at))
unfolding run_by one_by list_by
spent left n at seen s = (refl, refl, refl)

pub never-spent : (f : Refusal) → f.number ≡ 0
    → ((left n at : ℕ) (s : List ℕ) → run_of left n at s ≡ refused f → ⊥) × ((left n at : ℕ) (s : List ℕ) → one_of left n at s ≡ refused f → ⊥)
    × ((seen : List ℕ) (n at : ℕ) (s : List ℕ) → list_of seen n at s ≡ refused f → ⊥)
never-spent f z = (
  λ left n at s e. some (small-number f (run_small left n at s) e),
  λ left n at s e. some (small-number f (object-small left n at s) e),
  λ seen n at s e. some (small-number f (list-small seen n at s) e),
)
  where
    some : OfMessage f → ⊥
    some = ⊎_elim (λ k. omega arith) (λ k. omega arith)
