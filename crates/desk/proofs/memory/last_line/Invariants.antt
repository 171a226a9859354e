-- `desk::memory::last_line` meets its contract. The loop's invariant: `last` is the last line that the reference looks at among those before
-- `l`, or blank. Assumes nothing.
use Rattle.std.proofs.Common.{◌≡◌, take}
use Rattle.desk_rules.specs.Openings.{last_line}
use Rattle.desk.proofs.memory.last_line.Given as goal

abbrev pub invariant-loop-l : goal.invariant-loop-l
invariant-loop-l l = l.last ≡ last_line l.lane l.reference (take l.l-index l.l-items)
