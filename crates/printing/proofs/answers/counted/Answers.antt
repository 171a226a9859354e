-- `printing::answers::counted`: a word, a number, and the line's end. Assumes nothing.
use Rattle.buffers.proofs.TextLaws.{both}
use Rattle.printing.proofs.answers.counted.Goals as goal

pub returns : goal.returns
returns c = both _ _ _ c.add_all-to.ensures (both _ _ _ c.add_number-to.ensures c.add.ensures)
