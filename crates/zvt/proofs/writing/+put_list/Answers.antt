-- `put_list` meets its contract: the fields behind the first are put, and the first before them. Assumes nothing.
use mathlib.Core.Path.{refl, sym, ◌∙◌}
use Prim.Native.Nat.{ℕ, ◌-◌}
use native.Mathlib.Omega.{arith}
use lib.ListN.{length, drop, length-take, length-drop}
use Rattle.zvt_rules.proofs.ObjectReading.{tail}
use Rattle.zvt.specs.WritingSteps.{short_field_of, short_list_of}
use Rattle.zvt.proofs.Slices.{bytes-known}
use Rattle.zvt.proofs.Back.{put-none, put_as, rest-fits, first-room, first-put}
use Rattle.zvt.proofs.ShortLists.{list-short-none, FieldToPut, field_is, field-never}
use Rattle.zvt.proofs.writing.+put_list.Goals as goal
use Rattle.zvt.proofs.writing.+put_list.Goals.{In-Ok}

pub returns-then-s-eq0 : goal.returns-then-s-eq0
returns-then-s-eq0 t c = put_as (sym (list-short-none _ c.if-s-eq0.true)) (put-none _)

-- ---- the bounds of the first field are found
found : (t : ℕ) (c : In-Ok t) → FieldToPut c.args.s.now c.in-Ok.b
found t c =
    field_is _ _ (bytes-known _ c.type_inv.s) c.requires.1 (omega (arith, c.if-s-eq0.false)) (sym c.field_bounds.ensures ∙ c.in-Ok.is)

pub slice_bounds-put_list-count : goal.slice_bounds-put_list-count
slice_bounds-put_list-count t c = (found t c).within

pub slice_bounds-put_list-start : goal.slice_bounds-put_list-start
slice_bounds-put_list-start t c = (found t c).within

pub put_list-left-requires : goal.put_list-left-requires
put_list-left-requires t c =
    let f = found t (goal.at.put_list-left-requires t c).In-Ok in
    let s = c.args.s.now in
    let k = c.in-Ok.b.to in
    let l = length-drop k s in
    let m = length-take (length s - k) (drop k s) in (
      omega (arith, c.decreases, f.start, f.order, f.within),
      (
        omega (arith, c.requires.0),
        rw (tail k s) f.rest,
        rest-fits short_list_of (short_field_of c.in-Ok.b s) s c.args.out.now k f.all c.requires.2,
      ),
    )

-- ---- and the fields behind it are there
pub put_field-requires : goal.put_field-requires
put_field-requires t c =
    let f = found t (goal.at.put_field-requires t c).In-Ok in (
      c.requires.0,
      f.start,
      f.order,
      f.within,
      f.inside,
      first-room short_list_of _ c.args.s.now _ c.in-Ok.b.to f.all c.requires.2 c.put_list-left.ensures refl,
    )

pub returns-in-Ok : goal.returns-in-Ok
returns-in-Ok t c =
    let f = found t (goal.at.returns-in-Ok t c).In-Ok in
    first-put short_list_of _ c.args.s.now _ c.in-Ok.b.to f.all c.requires.2 c.put_list-left.ensures refl c.put_field.ensures

pub returns-in-Err : goal.returns-in-Err
returns-in-Err t c =
    absurd (field-never _ _ (bytes-known _ c.type_inv.s) c.requires.1 (omega (arith, c.if-s-eq0.false))
    (sym c.field_bounds.ensures ∙ c.in-Err.is))
