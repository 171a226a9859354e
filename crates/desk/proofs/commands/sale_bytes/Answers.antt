-- `desk::commands::sale_bytes` meets its contract. Assumes nothing.
use Rattle.zvt_rules.specs.Digits.{digit_bytes_of}
use Rattle.desk_rules.proofs.Commands.{command-bytes, spelled}
use Rattle.desk.proofs.commands.sale_bytes.Goals as goal

pub returns : goal.returns
unfolding digit_bytes_of spelled
returns c = rw (c.amount_bytes-a.ensures, command-bytes)
