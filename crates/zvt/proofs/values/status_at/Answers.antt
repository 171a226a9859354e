-- `zvt::values::status_at` meets its contract. Assumes nothing.
use mathlib.Core.Path.{sym, ◌∙◌}
use Rattle.zvt.proofs.ValueLaws.{nothing-told}
use Rattle.zvt.proofs.values.status_at.Goals as goal

pub returns-else-is_status : goal.returns-else-is_status
returns-else-is_status c =
    nothing-told _ c.requires.bytes (sym c.is_status.ensures ∙ c.if-is_status.false)
