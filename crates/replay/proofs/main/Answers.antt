-- A buffer for the tape is made, and lent. Assumes nothing.
use Rattle.buffers.proofs.Zeros.{zeros-size}
use Rattle.replay.proofs.main.Goals as goal

pub slice_bounds-print-end : goal.slice_bounds-print-end
slice_bounds-print-end c = zeros-size 1048577
