-- `desk_rules::Desk::fresh` meets its contract. Assumes nothing.
use Rattle.desk_rules.proofs.Memory.{fresh-valid}
use Rattle.desk_rules.proofs.Desk.fresh.Goals as goal

pub returns : goal.returns
returns c = record { answer = rw (c.idle-l.ensures, c.empty-b.ensures); valid = rw (c.idle-l.ensures, c.empty-b.ensures) fresh-valid }
