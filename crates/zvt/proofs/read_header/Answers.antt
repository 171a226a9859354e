-- `zvt::read_header` meets its contract. Assumes nothing.
use Rattle.std.proofs.Common.{◌∙◌}
use Rattle.zvt.proofs.HeaderLaws.{answer-is}
use Rattle.zvt.proofs.read_header.Goals as goal

pub returns : goal.returns
returns c = c.whole_header.ensures ∙ answer-is _
