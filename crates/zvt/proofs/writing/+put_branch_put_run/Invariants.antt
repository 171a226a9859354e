-- The measure of `put_branch` and `put_run` is the length, twice, and one more for a branch. Assumes nothing.
use Rattle.std.proofs.Common.{◌+◌, ◌*◌, length}
use Rattle.zvt.proofs.writing.+put_branch_put_run.Given as goal

abbrev pub decreases-put_branch : goal.decreases-put_branch
decreases-put_branch l = length l.run.now * 2 + 1

abbrev pub decreases-put_run : goal.decreases-put_run
decreases-put_run l = length l.s.now * 2
