-- `desk::commands::refund_bytes` meets its contract. Assumes nothing.
use Rattle.zvt_rules.specs.Digits.{digit_bytes_of}
use Rattle.desk_rules.proofs.Commands.{command-bytes, spelled}
use Rattle.desk.proofs.commands.refund_bytes.Goals as goal

pub returns : goal.returns
unfolding digit_bytes_of spelled
returns c =
    rw (
      c.copy-2.ensures.bytes,
      c.copy-2.ensures.size,
      c.copy.ensures.bytes,
      c.copy.ensures.size,
      c.sale_bytes-sale.ensures,
      c.password_bytes-p.ensures,
      command-bytes,
      command-bytes,
    )
