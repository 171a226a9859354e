-- The shortest form of a field and of a list: still well formed, the same values, no longer, and strictly shorter unless it was so
-- already. Assumes nothing.
use mathlib.Core.Path.{◌≡◌, refl, ap, ap₂}
use mathlib.Core.Bool.{true, and-eq-true_iff}
use mathlib.Core.List.{List, [], ◌∷◌, map}
use Prim.Native.Nat.{ℕ, suc, ◌+◌, ◌≤◌}
use native.Mathlib.Omega.{arith}
use lib.ListN.{length, length-append}
use Rattle.zvt_rules.specs.Limits.{deepest}
use Rattle.zvt_rules.specs.Objects.{bare, Form, form_size, Objs}
use Rattle.zvt_rules.specs.Fields.{Field, plain, container, field_id, count_field, count_fields}
use Rattle.zvt_rules.specs.believed.Writing.{run_bytes, field_bytes, list_bytes}
use Rattle.zvt_rules.specs.Shortest.{form_for, is_shortest, short_run, short_field, short_list, is_short_run, is_short_field, is_short_list}
use Rattle.zvt_rules.specs.believed.Shortest.{formless_field}
use Rattle.zvt_rules.specs.believed.Grammar.{FieldOk, ListOk}
use Rattle.zvt_rules.proofs.Lengths.{sized-size, form_for-ok, form-shorter, form-kept, form-strict, form_for-shortest}
use Rattle.zvt_rules.proofs.ObjectShort.{run-shorter, run-short-ok, run-count, run-same, run_short, run-kept, run-strict}

-- ---- the sizes
container-size : (form : Form) (os : Objs) → length (field_bytes (container form os)) ≡ suc (form_size form + length (run_bytes os))
unfolding field_bytes
container-size form os = ap suc (sized-size form (run_bytes os))

pub field-shorter : (f : Field) → FieldOk f → length (field_bytes (short_field f)) ≤ length (field_bytes f)
unfolding short_field FieldOk
field-shorter (plain id value) ok = omega arith
field-shorter (container form os) ok =
    let i = run-shorter os deepest ok.1 in
    let v = length (run_bytes (short_run os)) in
    let s = form-shorter form (length (run_bytes os)) v ok.0 i in
    omega (arith, container-size form os, container-size (form_for v) (short_run os))

pub list-shorter : (fs : List Field) (seen : List ℕ) → ListOk seen fs → length (list_bytes (short_list fs)) ≤ length (list_bytes fs)
unfolding list_bytes short_list ListOk
list-shorter [] seen ok = omega arith
list-shorter (f ∷ fs) seen ok =
    let i = field-shorter f ok.0 in
    let j = list-shorter fs (field_id f ∷ seen) ok.2 in
    omega (arith, length-append (field_bytes f) (list_bytes fs), length-append (field_bytes (short_field f)) (list_bytes (short_list fs)))

-- ---- well formed, with as many objects and the same values
pub short-id : (f : Field) → field_id (short_field f) ≡ field_id f
unfolding short_field field_id
short-id (plain id value) = refl
short-id (container form os) = refl

pub field-short-ok : (f : Field) → FieldOk f → FieldOk (short_field f)
unfolding short_field FieldOk
field-short-ok (plain id value) ok = ok
field-short-ok (container form os) ok = (
  form_for-ok form (length (run_bytes os)) (length (run_bytes (short_run os))) ok.0 (run-shorter os deepest ok.1),
  run-short-ok os deepest ok.1,
)

pub list-short-ok : (fs : List Field) (seen : List ℕ) → ListOk seen fs → ListOk seen (short_list fs)
unfolding short_list ListOk
list-short-ok [] seen ok = tt
list-short-ok (f ∷ fs) seen ok = rw (short-id f) (field-short-ok f ok.0, ok.1, list-short-ok fs (field_id f ∷ seen) ok.2)

pub field-count : (f : Field) → count_field (short_field f) ≡ count_field f
unfolding short_field count_field
field-count (plain id value) = refl
field-count (container form os) = run-count os

pub list_count : (fs : List Field) → count_fields (short_list fs) ≡ count_fields fs
unfolding short_list count_fields
list_count [] = refl
list_count (f ∷ fs) = ap₂ (λ (a b : ℕ). a + b) (field-count f) (list_count fs)

pub field-same : (f : Field) → formless_field f ≡ formless_field (short_field f)
unfolding short_field formless_field
field-same (plain id value) = refl
field-same (container form os) = ap (container bare) (run-same os)

pub list_same : (fs : List Field) → map formless_field fs ≡ map formless_field (short_list fs)
unfolding short_list
list_same [] = refl
list_same (f ∷ fs) = ap₂ (λ (x : Field) (xs : List Field). x ∷ xs) (field-same f) (list_same fs)

-- ---- every length shortest
pub field-short : (f : Field) → is_short_field (short_field f) ≡ true
unfolding short_field is_short_field
field-short (plain id value) = refl
field-short (container form os) = (and-eq-true_iff _ _).1 (form_for-shortest (length (run_bytes (short_run os))), run_short os)

pub list-short : (fs : List Field) → is_short_list (short_list fs) ≡ true
unfolding short_list is_short_list
list-short [] = refl
list-short (f ∷ fs) = (and-eq-true_iff _ _).1 (field-short f, list-short fs)

-- what is shortest stays
pub field-kept : (f : Field) → FieldOk f → is_short_field f ≡ true → short_field f ≡ f
unfolding short_field is_short_field FieldOk
field-kept (plain id value) ok e = refl
field-kept (container form os) ok e =
    let b = (and-eq-true_iff (is_shortest form (length (run_bytes os))) (is_short_run os)).0 e in
    rw (run-kept os deepest ok.1 b.1) (ap (λ (f : Form). container f os) (form-kept form (length (run_bytes os)) ok.0 b.0))

pub list-kept : (fs : List Field) (seen : List ℕ) → ListOk seen fs → is_short_list fs ≡ true → short_list fs ≡ fs
unfolding short_list is_short_list ListOk
list-kept [] seen ok e = refl
list-kept (f ∷ fs) seen ok e =
    let b = (and-eq-true_iff (is_short_field f) (is_short_list fs)).0 e in
    ap₂ (λ (g : Field) (gs : List Field). g ∷ gs) (field-kept f ok.0 b.0) (list-kept fs (field_id f ∷ seen) ok.2 b.1)

-- where no byte is saved, every length was shortest
pub field-strict : (f : Field) → FieldOk f → length (field_bytes (short_field f)) ≡ length (field_bytes f) → is_short_field f ≡ true
unfolding short_field is_short_field FieldOk
field-strict (plain id value) ok e = refl
field-strict (container form os) ok e =
    let i = run-shorter os deepest ok.1 in
    let v = length (run_bytes (short_run os)) in
    let s = form-shorter form (length (run_bytes os)) v ok.0 i in
    let a = container-size form os in
    let b = container-size (form_for v) (short_run os) in
    let w : v ≡ length (run_bytes os) = omega arith in
    let k = ap (λ (x : ℕ). form_size (form_for x)) w in
    (and-eq-true_iff _ _).1 (form-strict form (length (run_bytes os)) ok.0 (omega arith), run-strict os deepest ok.1 w)

pub list-strict : (fs : List Field) (seen : List ℕ) → ListOk seen fs → length (list_bytes (short_list fs)) ≡ length (list_bytes fs)
    → is_short_list fs ≡ true
unfolding list_bytes short_list is_short_list ListOk
list-strict [] seen ok e = refl
list-strict (f ∷ fs) seen ok e =
    let i = field-shorter f ok.0 in
    let j = list-shorter fs (field_id f ∷ seen) ok.2 in
    let a = length-append (field_bytes f) (list_bytes fs) in
    let b = length-append (field_bytes (short_field f)) (list_bytes (short_list fs)) in
    (and-eq-true_iff _ _).1 (field-strict f ok.0 (omega arith), list-strict fs (field_id f ∷ seen) ok.2 (omega arith))
