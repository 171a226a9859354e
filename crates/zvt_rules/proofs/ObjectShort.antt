-- A run of data objects with every length shortest: well formed, of the same values, and shorter unless it was so. Assumes nothing.
use mathlib.Core.Path.{◌≡◌, refl, ap, ap₂}
use mathlib.Core.Bool.{true, and-eq-true_iff}
use Prim.Native.Nat.{ℕ, suc, ◌+◌, ◌-◌, ◌≤◌}
use native.Mathlib.Omega.{arith}
use lib.ListN.{length, length-append}
use Rattle.zvt_rules.specs.Objects.{bare, Form, form_size, Obj, leaf, branch, Objs, none, more, count_obj, count_objs}
use Rattle.zvt_rules.specs.believed.Writing.{obj_bytes, run_bytes}
use Rattle.zvt_rules.specs.Shortest.{form_for, is_shortest, short_obj, short_run, is_short_obj, is_short_run}
use Rattle.zvt_rules.specs.believed.Shortest.{formless_obj, formless_run}
use Rattle.zvt_rules.specs.believed.Grammar.{ObjOk, RunOk}
use Rattle.zvt_rules.proofs.Lengths.{object-size, form_for-ok, form-shorter, form-kept, form-strict, form_for-shortest}

-- ---- the sizes
mutual
  unfolding obj_bytes run_bytes short_obj short_run ObjOk RunOk

  pub obj-shorter : (o : Obj) (left : ℕ) → ObjOk o left → length (obj_bytes (short_obj o)) ≤ length (obj_bytes o)
  obj-shorter (leaf tag form value) left ok =
      let f = form-shorter form (length value) (length value) ok.1 (omega arith) in
      omega (arith, object-size tag form value, object-size tag (form_for (length value)) value)
  obj-shorter (branch tag form os) left ok =
      let i = run-shorter os (left - 1) ok.3 in
      let v = run_bytes (short_run os) in
      let f = form-shorter form (length (run_bytes os)) (length v) ok.1 i in
      omega (arith, object-size tag form (run_bytes os), object-size tag (form_for (length v)) v)

  pub run-shorter : (os : Objs) (left : ℕ) → RunOk os left → length (run_bytes (short_run os)) ≤ length (run_bytes os)
  run-shorter none left ok = omega arith
  run-shorter (more o os) left ok =
      let i = obj-shorter o left ok.0 in
      let j = run-shorter os left ok.1 in
      omega (arith, length-append (obj_bytes o) (run_bytes os), length-append (obj_bytes (short_obj o)) (run_bytes (short_run os)))

-- ---- well formed, with as many objects and the same values
mutual
  unfolding short_obj short_run ObjOk RunOk

  pub obj-short-ok : (o : Obj) (left : ℕ) → ObjOk o left → ObjOk (short_obj o) left
  obj-short-ok (leaf tag form value) left ok = (ok.0, form_for-ok form (length value) (length value) ok.1 (omega arith), ok.2)
  obj-short-ok (branch tag form os) left ok = (
    ok.0,
    form_for-ok form (length (run_bytes os)) (length (run_bytes (short_run os))) ok.1 (run-shorter os (left - 1) ok.3),
    ok.2,
    run-short-ok os (left - 1) ok.3,
  )

  pub run-short-ok : (os : Objs) (left : ℕ) → RunOk os left → RunOk (short_run os) left
  run-short-ok none left ok = tt
  run-short-ok (more o os) left ok = (obj-short-ok o left ok.0, run-short-ok os left ok.1)

mutual
  unfolding short_obj short_run count_obj count_objs

  pub obj-count : (o : Obj) → count_obj (short_obj o) ≡ count_obj o
  obj-count (leaf tag form value) = refl
  obj-count (branch tag form os) = ap suc (run-count os)

  pub run-count : (os : Objs) → count_objs (short_run os) ≡ count_objs os
  run-count none = refl
  run-count (more o os) = ap₂ (λ (a b : ℕ). a + b) (obj-count o) (run-count os)

mutual
  unfolding short_obj short_run formless_obj formless_run

  pub obj-same : (o : Obj) → formless_obj o ≡ formless_obj (short_obj o)
  obj-same (leaf tag form value) = refl
  obj-same (branch tag form os) = ap (branch tag bare) (run-same os)

  pub run-same : (os : Objs) → formless_run os ≡ formless_run (short_run os)
  run-same none = refl
  run-same (more o os) = ap₂ more (obj-same o) (run-same os)

-- ---- every length shortest
mutual
  unfolding short_obj short_run is_short_obj is_short_run

  pub obj-short : (o : Obj) → is_short_obj (short_obj o) ≡ true
  obj-short (leaf tag form value) = form_for-shortest (length value)
  obj-short (branch tag form os) = (and-eq-true_iff _ _).1 (form_for-shortest (length (run_bytes (short_run os))), run_short os)

  pub run_short : (os : Objs) → is_short_run (short_run os) ≡ true
  run_short none = refl
  run_short (more o os) = (and-eq-true_iff _ _).1 (obj-short o, run_short os)

-- what is shortest stays
mutual
  unfolding short_obj short_run is_short_obj is_short_run ObjOk RunOk

  pub obj-kept : (o : Obj) (left : ℕ) → ObjOk o left → is_short_obj o ≡ true → short_obj o ≡ o
  obj-kept (leaf tag form value) left ok e = ap (λ (f : Form). leaf tag f value) (form-kept form (length value) ok.1 e)
  obj-kept (branch tag form os) left ok e =
      let b = (and-eq-true_iff (is_shortest form (length (run_bytes os))) (is_short_run os)).0 e in
      let i = run-kept os (left - 1) ok.3 b.1 in
      rw i (ap (λ (f : Form). branch tag f os) (form-kept form (length (run_bytes os)) ok.1 b.0))

  pub run-kept : (os : Objs) (left : ℕ) → RunOk os left → is_short_run os ≡ true → short_run os ≡ os
  run-kept none left ok e = refl
  run-kept (more o os) left ok e =
      let b = (and-eq-true_iff (is_short_obj o) (is_short_run os)).0 e in
      ap₂ more (obj-kept o left ok.0 b.0) (run-kept os left ok.1 b.1)

-- where no byte is saved, every length was shortest
mutual
  unfolding obj_bytes run_bytes short_obj short_run is_short_obj is_short_run ObjOk RunOk

  pub obj-strict : (o : Obj) (left : ℕ) → ObjOk o left → length (obj_bytes (short_obj o)) ≡ length (obj_bytes o) → is_short_obj o ≡ true
  obj-strict (leaf tag form value) left ok e =
      form-strict form (length value) ok.1 (omega (arith, object-size tag form value, object-size tag (form_for (length value)) value))
  obj-strict (branch tag form os) left ok e =
      let i = run-shorter os (left - 1) ok.3 in
      let v = run_bytes (short_run os) in
      let f = form-shorter form (length (run_bytes os)) (length v) ok.1 i in
      let a = object-size tag form (run_bytes os) in
      let b = object-size tag (form_for (length v)) v in
      let w : length v ≡ length (run_bytes os) = omega arith in
      let s = ap (λ (x : ℕ). form_size (form_for x)) w in
      (and-eq-true_iff _ _).1 (form-strict form (length (run_bytes os)) ok.1 (omega arith), run-strict os (left - 1) ok.3 w)

  pub run-strict : (os : Objs) (left : ℕ) → RunOk os left → length (run_bytes (short_run os)) ≡ length (run_bytes os) → is_short_run os ≡ true
  run-strict none left ok e = refl
  run-strict (more o os) left ok e =
      let i = obj-shorter o left ok.0 in
      let j = run-shorter os left ok.1 in
      let a = length-append (obj_bytes o) (run_bytes os) in
      let b = length-append (obj_bytes (short_obj o)) (run_bytes (short_run os)) in
      (and-eq-true_iff _ _).1 (obj-strict o left ok.0 (omega arith), run-strict os left ok.1 (omega arith))
