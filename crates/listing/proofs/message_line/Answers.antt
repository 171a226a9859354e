-- `listing::message_line`: start, size and ids. Assumes nothing.
use Rattle.listing.specs.Lines.{read_text}
use Rattle.buffers.proofs.TextLaws.{both}
use Rattle.listing.proofs.message_line.Goals as goal

pub returns : goal.returns
unfolding read_text
returns c =
    both _ _ _ c.add_start-to.ensures (both _ _ _ c.add_size-to.ensures c.add_each.ensures)
