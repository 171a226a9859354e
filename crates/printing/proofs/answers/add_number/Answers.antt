-- `printing::answers::add_number`: a blank and a number. Assumes nothing.
use Rattle.buffers.proofs.TextLaws.{both}
use Rattle.printing.proofs.answers.add_number.Goals as goal

pub returns : goal.returns
returns c = both _ _ _ c.add-to.ensures c.add_decimal.ensures
