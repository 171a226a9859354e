-- `zvt::objects::read_one` and `zvt::objects::read_run` meet their contracts. The measure is the length, twice, and one more for a
-- run, which asks for an object of the same bytes. The invariant of a run: the bytes from i on, with what is spared before, answer
-- as the whole run does; the measure is what is left of the bytes. Assumes nothing.
use Rattle.std.proofs.Common.{length, ◌-◌, ◌≡◌, ◌+◌, ◌≤◌, ◌*◌}
use Rattle.zvt.specs.ObjectSteps.{run_answer}
use Rattle.zvt.proofs.RunLaws.{run_from}
use Rattle.zvt.proofs.objects.+read_one_read_run.Given as goal

abbrev pub decreases-read_one : goal.decreases-read_one
decreases-read_one l = length l.p.bytes.now * 2

abbrev pub decreases-read_run : goal.decreases-read_run
decreases-read_run l = length l.p.bytes.now * 2 + 1

abbrev pub invariant-read_run-loop-i : goal.invariant-read_run-loop-i
invariant-read_run-loop-i l =
    (l.i ≤ length l.p.bytes.now)
    × (l.spare ≤ l.i)
    × (run_answer l.left l.n l.p.at l.p.bytes.now ≡ run_from l.left l.p.at l.p.bytes.now l.objects l.i l.spare)

abbrev pub decreases-read_run-loop-i : goal.decreases-read_run-loop-i
decreases-read_run-loop-i l = length l.p.bytes.now - l.i
