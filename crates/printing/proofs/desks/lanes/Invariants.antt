-- `printing::desks::lanes`. The loop's invariant: the lanes from this one on, written behind the text so far, come to all of them, and those
-- before it have at most 76 bytes each. Assumes nothing.
use Prim.Native.Nat.{◌*◌}
use lib.ListN.{drop}
use Rattle.basics.specs.Lists.{numbered}
use Rattle.printing.specs.Desks.{lane_text, lanes_text}
use Rattle.printing.proofs.Listed.{Telling}
use Rattle.printing.proofs.desks.lanes.Given as goal

abbrev pub invariant-loop-lane : goal.invariant-loop-lane
invariant-loop-lane l =
    let ls = l.desk.lanes in Telling (lanes_text ls) l.initial.out (numbered lane_text l.lane (drop l.lane ls)) (76 * l.lane) l.to l.out
