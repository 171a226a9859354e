-- `put_branch` and `put_run` meet their contracts: a run is put from its last object to its first, and an object's head once the
-- length of its value is known. Assumes nothing.
use mathlib.Core.Path.{◌≡◌, sym, ◌∙◌}
use mathlib.Core.List.{List, ◌++◌}
use Prim.Native.Nat.{ℕ, ◌+◌, ◌-◌, ◌≤◌}
use native.Mathlib.Omega.{arith}
use lib.ListN.{length, take, drop, length-append, length-take, length-drop}
use lib.Seq.{length-take-le}
use Rattle.zvt_rules.proofs.ObjectReading.{tail, part_length}
use Rattle.zvt.specs.declared.objects.Bounds.{Bounds}
use Rattle.zvt.specs.WritingSteps.{Put, head_bytes, value_bytes, short_run_of}
use Rattle.zvt.proofs.Slices.{bytes-known}
use Rattle.zvt.proofs.Back.{put-none, put_as, says, head-room, then-head, rest-fits, first-room, first-put}
use Rattle.zvt.proofs.ShortRuns.{short_none, object_of, FirstObject, object-in, object-never, object-run, object-plain, run_fits}
use Rattle.zvt.proofs.writing.+put_branch_put_run.Goals as goal
use Rattle.zvt.proofs.writing.+put_branch_put_run.Goals.{put_run-In-Ok, put_run-After-put_run-left}

-- ---- a branch
pub put_branch-put_run-left-requires : goal.put_branch-put_run-left-requires
unfolding value_bytes
put_branch-put_run-left-requires t c =
    let v = short_run_of c.args.run.now in
    let l = length-append (head_bytes c.args.tag.now (length v)) v in
    (omega (arith, c.decreases), (c.requires.0, c.requires.1, omega arith))

pub put_branch-put_head-requires : goal.put_branch-put_head-requires
unfolding value_bytes
put_branch-put_head-requires t c =
    let head = head_bytes c.args.tag.now in
    let short = run_fits c.args.run.now (bytes-known _ c.type_inv.run) c.requires.1 in
    (omega (arith, says head c.put_run-left.ensures c.requires.2), head-room head c.put_run-left.ensures c.requires.2)

pub put_branch-returns : goal.put_branch-returns
unfolding value_bytes
put_branch-returns t c = then-head (head_bytes c.args.tag.now) c.put_run-left.ensures c.requires.2 c.put_head.ensures

-- ---- a run: the bounds of its first object are found
found : (t : ℕ) (c : put_run-In-Ok t) → FirstObject c.args.s.now c.in-Ok.b
found t c =
    object-in _ _ (bytes-known _ c.type_inv.s) c.requires.1 (omega (arith, c.if-s-eq0.false)) (sym c.head_of.ensures ∙ c.in-Ok.is)

pub put_run-returns-then-s-eq0 : goal.put_run-returns-then-s-eq0
put_run-returns-then-s-eq0 t c = put_as (sym (short_none _ c.if-s-eq0.true)) (put-none _)

pub put_run-slice_bounds-put_run-count : goal.put_run-slice_bounds-put_run-count
put_run-slice_bounds-put_run-count t c = (found t c).within

pub put_run-slice_bounds-put_run-start : goal.put_run-slice_bounds-put_run-start
put_run-slice_bounds-put_run-start t c = (found t c).within

pub put_run-put_run-left-requires : goal.put_run-put_run-left-requires
put_run-put_run-left-requires t c =
    let f = found t (goal.at.put_run-put_run-left-requires t c).In-Ok in
    let s = c.args.s.now in
    let b = c.in-Ok.b in (
      omega (arith, c.decreases, f.start, f.order, f.within, length-drop b.to s, length-take (length s - b.to) (drop b.to s)),
      (
        omega (arith, c.requires.0, length-drop b.to s, length-take (length s - b.to) (drop b.to s)),
        rw (tail b.to s) f.rest,
        rest-fits short_run_of (object_of b s) s c.args.out.now b.to f.all c.requires.2,
      ),
    )

pub put_run-returns-in-Err : goal.put_run-returns-in-Err
put_run-returns-in-Err t c =
    absurd (object-never _ _ (bytes-known _ c.type_inv.s) c.requires.1 (omega (arith, c.if-s-eq0.false)) (sym c.head_of.ensures ∙ c.in-Err.is))

module _ {s : List ℕ} {b : Bounds} (f : FirstObject s b) where
  value-small : length (take (b.to - b.from) (drop b.from s)) + 2 ≤ length s
  value-small = omega (arith, part_length s b.from b.to f.order f.within, f.start, f.within, f.order)

  tag-all : b.tag ≡ length (take b.tag s)
  tag-all = sym (length-take-le b.tag s (omega (arith, f.tag, f.order, f.within)))

-- ---- and the objects behind it are there
module _ (t : ℕ) (c : put_run-After-put_run-left t) (f : FirstObject c.args.s.now c.in-Ok.b) where
  room-first : {v : List ℕ} → v ≡ object_of c.in-Ok.b c.args.s.now → length v ≤ length (take c.put_run-left.result c.put_run-left.new.out)
  room-first = first-room short_run_of _ c.args.s.now _ c.in-Ok.b.to f.all c.requires.2 c.put_run-left.ensures

  put_first : {v y : List ℕ} {r : ℕ} → v ≡ object_of c.in-Ok.b c.args.s.now
      → Put v (take c.put_run-left.result c.put_run-left.new.out) r y
      → Put (short_run_of c.args.s.now) c.args.out.now r (y ++ drop c.put_run-left.result c.put_run-left.new.out)
  put_first = first-put short_run_of _ c.args.s.now _ c.in-Ok.b.to f.all c.requires.2 c.put_run-left.ensures

-- ---- the first object is a branch
pub put_run-slice_bounds-put_branch-end : goal.put_run-slice_bounds-put_branch-end
put_run-slice_bounds-put_branch-end t c = tag-all (found t (goal.at.put_run-slice_bounds-put_branch-end t c).In-Ok)

pub put_run-slice_bounds-put_branch-count : goal.put_run-slice_bounds-put_branch-count
put_run-slice_bounds-put_branch-count t c = (found t (goal.at.put_run-slice_bounds-put_branch-count t c).In-Ok).order

pub put_run-slice_bounds-put_branch-start : goal.put_run-slice_bounds-put_branch-start
put_run-slice_bounds-put_branch-start t c = (found t (goal.at.put_run-slice_bounds-put_branch-start t c).In-Ok).order

pub put_run-slice_bounds-put_branch-end-then-b : goal.put_run-slice_bounds-put_branch-end-then-b
put_run-slice_bounds-put_branch-end-then-b t c = (found t (goal.at.put_run-slice_bounds-put_branch-end-then-b t c).In-Ok).within

pub put_run-put_branch-requires : goal.put_run-put_branch-requires
put_run-put_branch-requires t c =
    let f = found t (goal.at.put_run-put_branch-requires t c).In-Ok in
    let small = value-small f in
    let room = room-first t (goal.at.put_run-put_branch-requires t c).After-put_run-left f (object-run _ _ c.if-b.true) in
    (omega (arith, c.decreases), (omega (arith, c.requires.0), f.inside c.if-b.true, room))

pub put_run-returns-then-b : goal.put_run-returns-then-b
put_run-returns-then-b t c =
    let f = found t (goal.at.put_run-returns-then-b t c).In-Ok in
    put_first t (goal.at.put_run-returns-then-b t c).After-put_run-left f (object-run _ _ c.if-b.true) c.put_branch.ensures

-- ---- the first object is a leaf
pub put_run-slice_bounds-put_leaf-end : goal.put_run-slice_bounds-put_leaf-end
put_run-slice_bounds-put_leaf-end t c = tag-all (found t (goal.at.put_run-slice_bounds-put_leaf-end t c).In-Ok)

pub put_run-slice_bounds-put_leaf-count : goal.put_run-slice_bounds-put_leaf-count
put_run-slice_bounds-put_leaf-count t c = (found t (goal.at.put_run-slice_bounds-put_leaf-count t c).In-Ok).order

pub put_run-slice_bounds-put_leaf-start : goal.put_run-slice_bounds-put_leaf-start
put_run-slice_bounds-put_leaf-start t c = (found t (goal.at.put_run-slice_bounds-put_leaf-start t c).In-Ok).order

pub put_run-slice_bounds-put_leaf-end-else-b : goal.put_run-slice_bounds-put_leaf-end-else-b
put_run-slice_bounds-put_leaf-end-else-b t c = (found t (goal.at.put_run-slice_bounds-put_leaf-end-else-b t c).In-Ok).within

pub put_run-put_leaf-requires : goal.put_run-put_leaf-requires
put_run-put_leaf-requires t c =
    let f = found t (goal.at.put_run-put_leaf-requires t c).In-Ok in
    let room = room-first t (goal.at.put_run-put_leaf-requires t c).After-put_run-left f (object-plain _ _ c.if-b.false) in
    (omega (arith, value-small f, c.requires.0), room)

pub put_run-returns-else-b : goal.put_run-returns-else-b
put_run-returns-else-b t c =
    let f = found t (goal.at.put_run-returns-else-b t c).In-Ok in
    put_first t (goal.at.put_run-returns-else-b t c).After-put_run-left f (object-plain _ _ c.if-b.false) c.put_leaf.ensures
