-- `listing::add_size`: a blank, a number and a word. Assumes nothing.
use Rattle.zvt_rules.specs.Listing.{size_text, short_or_long}
use Rattle.buffers.proofs.TextLaws.{both}
use Rattle.listing.proofs.add_size.Goals as goal

pub returns-then-m : goal.returns-then-m
unfolding size_text short_or_long
returns-then-m c =
    both _ _ _ c.add-to.ensures
    (both _ _ _ c.add_decimal-to.ensures (rw c.if-m.true c.add_all.ensures))

pub returns-else-m : goal.returns-else-m
unfolding size_text short_or_long
returns-else-m c =
    both _ _ _ c.add-to.ensures
    (both _ _ _ c.add_decimal-to.ensures (rw c.if-m.false c.add_all-else-m.ensures))
