-- `zvt::list::put_ids` meets its contract. Assumes nothing.
use mathlib.Core.Path.{sym, ap, ◌∙◌}
use Prim.Native.Nat.{◌<◌}
use native.Mathlib.Omega.{arith}
use lib.ListN.{length, length-set}
use Rattle.basics.specs.Text.{text, add_all}
use Rattle.zvt_rules.specs.Listed.{ids_listed}
use Rattle.zvt.specs.ListSteps.{FieldHere}
use Rattle.zvt.proofs.ListedLaws.{field-here, none_here}
use Rattle.zvt.proofs.WalkLaws.{ids_more, ids_next, ids-end}
use Rattle.zvt.proofs.list.put_ids.Goals.{In-Some}
use Rattle.zvt.proofs.list.put_ids.Goals as goal

-- where the field that was found, and the list behind it, lie; and there is room for its id
here : (c : In-Some) → FieldHere c.loop-f.at c.args.end c.args.s.now c.in-Some.f
here c = field-here c.field_from.ensures c.in-Some.is

room : (c : In-Some) → c.loop-f.n < length c.loop-f.out
room c = omega (arith, c.loop-f.invariant.1, c.loop-f.invariant.2, ids_more (here c), c.requires.1)

pub returns : goal.returns
returns c =
    let none = none_here c.field_from.ensures c.in_default.is in
    ids-end _ _ _ _ c.requires.1
    (ap (λ ls. add_all (ids_listed ls) (text c.loop-f.n c.loop-f.out)) (sym none) ∙ c.loop-f.invariant.3)

pub loop-f-preserved : goal.loop-f-preserved
loop-f-preserved c =
    let h = here (goal.at.loop-f-preserved c).In-Some in
    let inv = c.loop-f.invariant in
    let out = c.loop-f.out in (
      h.rest,
      length-set out _ _ ∙ inv.1,
      omega (arith, inv.2, ids_more h),
      ids_next c.in-Some.f _ c.loop-f.n out (room (goal.at.loop-f-preserved c).In-Some)
          ∙ ap (λ ls. add_all (ids_listed ls) (text c.loop-f.n out)) (sym h.all) ∙ inv.3,
    )

pub bounds-out-n : goal.bounds-out-n
bounds-out-n c = room (goal.at.bounds-out-n c).In-Some
