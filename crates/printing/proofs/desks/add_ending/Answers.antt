-- `printing::desks::add_ending`: outcome, code, and the line's end. Assumes nothing.
use Rattle.buffers.proofs.TextLaws.{both}
use Rattle.printing.proofs.desks.add_ending.Goals as goal

pub returns : goal.returns
returns c =
    both _ _ _ (rw c.outcome_text.ensures at c.add_word-to.ensures)
    (both _ _ _ c.add-to.ensures (both _ _ _ c.add_hex-to.ensures c.add.ensures))
