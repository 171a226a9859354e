-- `desk_rules::Lane::idle` meets its contract. Assumes nothing.
use Rattle.desk_rules.proofs.Lane.idle.Goals as goal

pub returns : goal.returns
returns c = rw c.nothing_told.ensures
