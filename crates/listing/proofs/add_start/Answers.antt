-- `listing::add_start`: a number, a blank and the pair. Assumes nothing.
use Rattle.zvt_rules.specs.Listing.{start_text}
use Rattle.buffers.proofs.TextLaws.{both}
use Rattle.listing.proofs.add_start.Goals as goal

pub returns : goal.returns
unfolding start_text
returns c =
    both _ _ _ c.add_decimal-to.ensures
    (both _ _ _ c.add-to.ensures (both _ _ _ c.add_hex-to.ensures c.add_hex.ensures))
