-- `printing::messages::header`: refused, or the header. Assumes nothing.
use mathlib.Core.Path.{sym}
use native.Mathlib.Omega.{arith}
use Rattle.basics.specs.Text.{hex_text}
use Rattle.buffers.proofs.TextLaws.{both}
use Rattle.printing.specs.Messages.{header_text, header_by}
use Rattle.printing.proofs.Prints.{printed}
use Rattle.printing.proofs.Lengths.{header-long}
use Rattle.printing.proofs.messages.header.Goals as goal

pub returns-in-Err : goal.returns-in-Err
unfolding header_text header_by
returns-in-Err c = rw (sym c.in-Err.ensures) c.refused.ensures

pub returns-in-Ok : goal.returns-in-Ok
unfolding header_text header_by hex_text
returns-in-Ok c =
    rw (sym c.in-Ok.ensures)
    (printed _ _ _ (header-long c.in-Ok.h (omega arith) (omega arith))
    (both _ _ _ c.add_hex-to.ensures
    (both _ _ _ c.add_hex-to-in-Ok.ensures
    (both _ _ _ c.add_all-to.ensures (both _ _ _ c.add_number-to.ensures c.counted.ensures)))))
