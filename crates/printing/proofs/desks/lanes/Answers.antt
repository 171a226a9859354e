-- `desks::lanes` meets its contract. Assumes nothing.
use mathlib.Core.Path.{sym, ◌∙◌}
use native.Mathlib.Omega.{arith}
use Rattle.printing.specs.Desks.{lane_text}
use Rattle.printing.proofs.Prints.{printed}
use Rattle.printing.proofs.Listed.{tells, told, lane-next, lane-there, numbered-none}
use Rattle.printing.proofs.desks.lanes.Goals as goal

pub returns-in_default : goal.returns-in_default
returns-in_default c = lane-there _ _ (omega arith) _ (sym c.lane_at.ensures ∙ c.in_default.is)

pub loop-lane-preserved : goal.loop-lane-preserved
loop-lane-preserved c =
    let next = lane-next _ _ (omega arith) lane_text _ c.requires.lanes (sym c.lane_at.ensures ∙ c.in-Ok.is) in
    tells _ next (omega (arith, c.add_lane-to.ensures.long)) c.add_lane-to.ensures.added c.loop-lane.invariant

pub returns : goal.returns
returns c =
    let i = c.loop-lane.lane in
    let none = numbered-none lane_text i i c.args.desk.lanes (omega (arith, c.requires.lanes)) in
    let (same, long) = told none c.loop-lane.invariant in
    printed _ _ _ (omega arith) same
