-- `desk_rules::Lane::waiting` meets its contract. Assumes nothing.
use Rattle.desk_rules.proofs.Lane.waiting.Goals as goal

pub returns : goal.returns
returns c = rw c.nothing_told.ensures
