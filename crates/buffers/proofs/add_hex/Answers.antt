-- `buffers::add_hex`: one digit, and the other behind it. Assumes nothing.
use Rattle.basics.specs.Text.{hex_text}
use Rattle.buffers.proofs.TextLaws.{both}
use Rattle.buffers.proofs.add_hex.Goals as goal

pub returns : goal.returns
unfolding hex_text
returns c = rw (c.digit.ensures, c.digit-2.ensures) at (both _ _ _ c.add-to.ensures c.add.ensures)
