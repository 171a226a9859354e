-- The changes one by one. The loop's invariant: no more of them were seen than were made. Assumes nothing.
use Rattle.std.proofs.Common.{◌≤◌}
use Rattle.script.proofs.changes.seen_of.Given as goal

abbrev pub invariant-loop-i : goal.invariant-loop-i
invariant-loop-i l = l.seen ≤ l.i
