-- `listing::add_end`: a word and a number. Assumes nothing.
use Rattle.zvt_rules.specs.Listing.{end_text}
use Rattle.buffers.proofs.TextLaws.{both}
use Rattle.listing.proofs.add_end.Goals as goal

pub returns : goal.returns
unfolding end_text
returns c =
    both _ _ _ c.add_all-to.ensures c.add_decimal.ensures
