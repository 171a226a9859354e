-- `desk::commands::reversal_bytes` meets its contract. Assumes nothing.
use Rattle.zvt_rules.specs.Digits.{digit_bytes_of}
use Rattle.desk_rules.proofs.Commands.{command-bytes, spelled}
use Rattle.desk.proofs.commands.reversal_bytes.Goals as goal

pub returns : goal.returns
unfolding digit_bytes_of spelled
returns c = rw (c.password_bytes-p.ensures, c.receipt_bytes-b.ensures, command-bytes)
