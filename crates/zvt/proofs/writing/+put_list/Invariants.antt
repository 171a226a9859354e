-- The measure of `put_list` is the length. Assumes nothing.
use Rattle.std.proofs.Common.{length}
use Rattle.zvt.proofs.writing.+put_list.Given as goal

abbrev pub decreases-put_list : goal.decreases-put_list
decreases-put_list l = length l.s.now
