-- The lines of a file. The loop's invariant: from lies in the file, and the desk is valid. Assumes nothing.
use Rattle.std.proofs.Common.{◌-◌, ◌≤◌, length}
use Rattle.tape_rules.specs.Recording.{ValidTaped}
use Rattle.script.proofs.cases.check_in.Given as goal

abbrev pub invariant-loop-from : goal.invariant-loop-from
invariant-loop-from l = (l.from ≤ length l.s) × ValidTaped l.turn.taped

abbrev pub decreases-loop-from : goal.decreases-loop-from
decreases-loop-from l = length l.s - l.from
