-- `printing::desks::add_word`: a blank, and the word. Assumes nothing.
use Rattle.buffers.proofs.TextLaws.{both}
use Rattle.printing.proofs.desks.add_word.Goals as goal

pub returns : goal.returns
returns c = both _ _ _ c.add-to.ensures c.add_all.ensures
