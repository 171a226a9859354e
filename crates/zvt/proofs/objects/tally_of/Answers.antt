-- `zvt::objects::tally_of` meets its contract. Assumes nothing.
use Rattle.zvt.proofs.ObjectLaws.{tally-short}
use Rattle.zvt.proofs.objects.tally_of.Goals as goal

pub returns : goal.returns
returns c = tally-short _ _ _ _ c.form_size.ensures
