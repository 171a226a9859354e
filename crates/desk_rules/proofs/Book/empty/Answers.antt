-- `desk_rules::Book::empty` meets its contract. Assumes nothing.
use Rattle.desk_rules.proofs.Book.empty.Goals as goal

pub returns : goal.returns
returns c = rw c.blank-l.ensures
