-- `listing::ok_line`: what both lines begin with, and a word. Assumes nothing.
use Rattle.zvt_rules.specs.Listing.{ok_text}
use Rattle.buffers.proofs.TextLaws.{both}
use Rattle.listing.proofs.ok_line.Goals as goal

pub returns : goal.returns
unfolding ok_text
returns c =
    both _ _ _ c.add_end-to.ensures c.add_all.ensures
