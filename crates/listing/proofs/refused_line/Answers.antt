-- `listing::refused_line`: what both lines begin with, a word and a number. Assumes nothing.
use Rattle.zvt_rules.specs.Listing.{refused_text}
use Rattle.buffers.proofs.TextLaws.{both}
use Rattle.listing.proofs.refused_line.Goals as goal

pub returns : goal.returns
unfolding refused_text
returns c =
    both _ _ _ c.add_end-to.ensures (both _ _ _ c.add_all-to.ensures (rw c.from.ensures at c.add_decimal.ensures))
