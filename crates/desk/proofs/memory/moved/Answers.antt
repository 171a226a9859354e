-- `desk::memory::moved` meets its contract. Assumes nothing.
use Rattle.std.proofs.Common.{rules}
use Rattle.desk_rules.specs.Memory.{moved_desk}
use Rattle.desk.proofs.CallLaws.{booked-fits}
use Rattle.desk.proofs.memory.moved.Goals as goal

pub ended-requires : goal.ended-requires
ended-requires c =
    let e = c.in-Ends in (
      c.requires.0,
      λ b. booked-fits c.args.d c.args.lane e.outcome e.settled e.code (rw e.is at c.requires.1) (rw (c.ending_line-line.ensures, c.from-at.ensures) at b),
    )

pub returns-in-Stays : goal.returns-in-Stays
unfolding moved_desk
returns-in-Stays c = search rules

pub returns-in-Becomes : goal.returns-in-Becomes
unfolding moved_desk
returns-in-Becomes c = search rules

pub returns-in-Ends : goal.returns-in-Ends
unfolding moved_desk
returns-in-Ends c = search rules
