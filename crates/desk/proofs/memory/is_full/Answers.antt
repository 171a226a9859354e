-- `desk::memory::is_full` meets its contract. Assumes nothing.
use Rattle.desk_rules.proofs.Memory.{load_is}
use Rattle.desk.proofs.DeskLaws.{taken-count}
use Rattle.desk.proofs.memory.is_full.Goals as goal

pub returns : goal.returns
returns c = rw (load_is c.args.d c.requires, c.lines_taken.ensures, taken-count c.args.d.lanes)
