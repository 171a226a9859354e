-- `zvt::values::is_status` meets its contract. Assumes nothing.
use Rattle.std.proofs.Common.{◌∙◌}
use Rattle.zvt.proofs.ValueLaws.{pair-starts}
use Rattle.zvt.proofs.values.is_status.Goals as goal

pub returns : goal.returns
returns c = c.starts_with.ensures.value ∙ pair-starts _
