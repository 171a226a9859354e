-- The shortest writing of a run: what its first object is written as, and the rest. Assumes nothing.
use mathlib.Core.Path.{◌≡◌, refl, sym, ap, ap₂, ◌∙◌, subst}
use mathlib.Core.Bool.{true, false}
use mathlib.Core.List.{List, [], ◌++◌, append_assoc}
use mathlib.Core.Logic.{⊎_elim}
use Prim.Native.Nat.{ℕ, ◌+◌, ◌-◌, ◌<◌, ◌≤◌}
use native.Mathlib.Omega.{arith}
use lib.ListN.{length, get_or, take, drop}
use Rattle.std.proofs.Common.{Err, Ok, Result}
use Rattle.basics.proofs.Tests.{never}
use Rattle.zvt_rules.specs.declared.Refusal.{Refusal}
use Rattle.basics.specs.Choice.{pick}
use Rattle.basics.specs.Lists.{part}
use Rattle.zvt_rules.specs.Reading.{got}
use Rattle.zvt_rules.specs.Limits.{most_objects, deepest}
use Rattle.zvt_rules.specs.Objects.{nested, Head, from, to, Obj, leaf, branch, Objs, none, more, OneRead, RunRead, run_of, count_objs}
use Rattle.zvt_rules.specs.believed.Writing.{len_bytes, sized, obj_bytes, run_bytes}
use Rattle.zvt_rules.specs.Shortest.{form_for, short_obj, short_run}
use Rattle.basics.specs.believed.Lists.{Bytes}
use Rattle.zvt_rules.specs.believed.Grammar.{ObjOk, RunOk}
use Rattle.zvt_rules.proofs.Readings.{then-on}
use Rattle.zvt_rules.proofs.ObjectReading.{Inside, head-in, one-got, run_none, run-got}
use Rattle.zvt_rules.proofs.ObjectBytes.{bytes_drop, bytes-part, one-sound, run_sound, run-complete}
use Rattle.zvt_rules.proofs.ObjectShort.{run-shorter}
use Rattle.zvt.specs.declared.objects.Bounds.{Bounds}
use Rattle.zvt.specs.ObjectSteps.{as_bounds, bounds_of, head_answer}
use Rattle.zvt.specs.WritingSteps.{head_bytes, value_bytes, RunReads, run_written, short_run_of}

-- ---- a run that is read is read alone too: with more levels left, after no objects, at no place
mutual
  unfolding ObjOk RunOk

  deeper-obj : (o : Obj) (k l : ℕ) → k ≤ l → ObjOk o k → ObjOk o l
  deeper-obj (leaf tag form value) k l h ok = (ok.0, ok.1, omega (arith, ok.2))
  deeper-obj (branch tag form os) k l h ok = (ok.0, ok.1, omega (arith, ok.2), deeper os (k - 1) (l - 1) (omega arith) ok.3)

  deeper : (os : Objs) (k l : ℕ) → k ≤ l → RunOk os k → RunOk os l
  deeper none k l h ok = tt
  deeper (more o os) k l h ok = (deeper-obj o k l h ok.0, deeper os k l h ok.1)

-- what is written of a run that is read
written : (s : List ℕ) (r : RunRead) → run_of deepest 0 0 s ≡ got r → short_run_of s ≡ run_bytes (short_run r.objs)
unfolding short_run_of run_written
written s r e = rw e

pub record Alone (s : List ℕ) (os : Objs) : Type 0 where
  pub reads : RunReads s
  pub short : short_run_of s ≡ run_bytes (short_run os)

pub run_alone : (left n at : ℕ) (s : List ℕ) (r : RunRead) → Bytes s → left ≤ deepest → n ≤ most_objects → run_of left n at s ≡ got r → Alone s r.objs
unfolding RunReads
run_alone left n at s r b l h e =
    let f = run_sound left n at s r b e in
    let few : 0 + count_objs r.objs ≤ most_objects = omega (arith, f.2, f.3 h) in
    let g = rw f.0 at (run-complete r.objs 4 0 0 (deeper r.objs left 4 l f.1) few) in
    record { reads = (_, g); short = written s _ g }

-- ---- no bytes, and the first object
pub short_none : (s : List ℕ) → length s ≡ 0 → short_run_of s ≡ []
unfolding run_bytes short_run
short_none s h = written s _ (run_none 4 0 0 s h)

-- the shortest writing of the object that s begins with, whose parts lie there
unfoldable pub object_of : Bounds → List ℕ → List ℕ
object_of b s = let value = part b.from b.to s in value_bytes (take b.tag s) (pick b.nested (short_run_of value) value)

pub record FirstObject (s : List ℕ) (b : Bounds) : Type 0 where
  pub tag : b.tag ≤ b.from
  pub start : 2 ≤ b.from
  pub order : b.from ≤ b.to
  pub within : b.to ≤ length s
  pub inside : b.nested ≡ true → RunReads (part b.from b.to s)
  pub rest : RunReads (drop b.to s)
  pub all : short_run_of s ≡ object_of b s ++ short_run_of (drop b.to s)

value-short : (tag value : List ℕ) → tag ++ sized (form_for (length value)) value ≡ value_bytes tag value
unfolding value_bytes head_bytes sized
value-short tag value = sym (append_assoc tag (len_bytes (form_for (length value)) (length value)) value)

-- the object by its head
abbrev ObjectShort : List ℕ → Head → OneRead → Type 0
ObjectShort s h o =
    (to h ≡ o.size) × (nested (get_or s 0 0) ≡ true → RunReads (part (from h) (to h) s))
    × (obj_bytes (short_obj o.obj) ≡ object_of (bounds_of s h) s)

object-short : (s : List ℕ) (h : Head) (o : OneRead) → Bytes s → Inside run_of deepest 0 0 s o h → ObjectShort s h o
unfolding obj_bytes short_obj object_of bounds_of
object-short s h o b =
    let tag = take h.tag s in
    let value = part (from h) (to h) s in
    ⊎_elim (λ x.
    let a = run_alone 3 1 (0 + from h) value x.1.0 (bytes-part (from h) (to h) s b) (omega arith) (omega arith) x.1.1 in
    subst (ObjectShort s h) x.1.2 (refl, λ _. a.reads, rw (x.0, a.short) (value-short tag (run_bytes (short_run x.1.0.objs)))))
    (λ x. subst (ObjectShort s h) x.1 (refl, λ t. never cc, rw x.0 (value-short tag value)))

pub first-object : (s : List ℕ) → Bytes s → RunReads s → 0 < length s → (b : Bounds) × (head_answer 0 s ≡ Ok b) × FirstObject s b
unfolding RunReads head_answer as_bounds bounds_of run_bytes short_run
first-object s b r l =
    let w = run-got 4 0 0 s r.0 l r.1 in
    let o = w.first in
    let x = one-got deepest 0 0 s o w.read in
    let h = x.head in
    let i = head-in 0 s h x.read in
    let g = one-sound 4 0 0 s o b w.read in
    let f = object-short s h o b x.inside in
    let rest = run_alone 4 o.count (0 + o.size) (drop o.size s) w.rest (bytes_drop o.size s b) (omega arith) g.3 w.then in
    let all : short_run_of s ≡ obj_bytes (short_obj o.obj) ++ run_bytes (short_run w.rest.objs) =
    written s r.0 r.1 ∙ ap (λ (q : RunRead). run_bytes (short_run q.objs)) (sym w.all)
    in (
      bounds_of s h,
      ap as_bounds (then-on _ h x.read),
      record {
        tag = omega arith;
        start = i.1;
        order = omega arith;
        within = i.2;
        inside = f.1;
        rest = rw f.0 rest.reads;
        all = all ∙ ap₂ (λ (u v : List ℕ). u ++ v) f.2 (rw f.0 (sym rest.short));
      },
    )

-- it is no longer than the run
pub run_fits : (s : List ℕ) → Bytes s → RunReads s → length (short_run_of s) ≤ length s
unfolding RunReads
run_fits s b r =
    let f = run_sound 4 0 0 s r.0 b r.1 in
    omega (arith, ap length (written s r.0 r.1), ap length f.0, run-shorter r.0.objs 4 f.1)

-- ---- as the writer finds it
-- bounds that are found are those that are there, and they are never refused
pub bounds-are : {P : Bounds → Type 0} (x : Result Bounds Refusal) → (b : Bounds) × (x ≡ Ok b) × P b → (b : Bounds) → x ≡ Ok b → P b
bounds-are x f b e = let same : f.0 ≡ b = cc in rw same at f.2

pub bounds-never : {P : Bounds → Type 0} (x : Result Bounds Refusal) → (b : Bounds) × (x ≡ Ok b) × P b → (r : Refusal) → x ≡ Err r → ⊥
bounds-never x f r e = never cc

pub object-in : (s : List ℕ) (b : Bounds) → Bytes s → RunReads s → 0 < length s → head_answer 0 s ≡ Ok b → FirstObject s b
object-in s b bs r l = bounds-are _ (first-object s bs r l) b

pub object-never : (s : List ℕ) (r : Refusal) → Bytes s → RunReads s → 0 < length s → head_answer 0 s ≡ Err r → ⊥
object-never s r bs reads l = bounds-never _ (first-object s bs reads l) r

pub object-run : (s : List ℕ) (b : Bounds) → b.nested ≡ true
    → value_bytes (take b.tag s) (short_run_of (part b.from b.to s)) ≡ object_of b s
unfolding object_of
object-run s b e = rw e

pub object-plain : (s : List ℕ) (b : Bounds) → b.nested ≡ false → value_bytes (take b.tag s) (part b.from b.to s) ≡ object_of b s
unfolding object_of
object-plain s b e = rw e
