-- `printing::messages::read`: refused, or the message. Assumes nothing.
use mathlib.Core.Path.{sym}
use native.Mathlib.Omega.{arith}
use Rattle.buffers.proofs.TextLaws.{both}
use Rattle.printing.specs.Messages.{read_text, read_by}
use Rattle.printing.proofs.Prints.{printed, roomier}
use Rattle.printing.proofs.Lengths.{read-long}
use Rattle.printing.proofs.messages.read.Goals as goal

pub returns-in-Err : goal.returns-in-Err
unfolding read_text read_by
returns-in-Err c = rw (sym c.in-Err.ensures) (roomier (omega arith) c.refused.ensures)

pub returns-in-Ok : goal.returns-in-Ok
unfolding read_text read_by
returns-in-Ok c =
    let s = c.args.s.now in
    rw (sym c.in-Ok.ensures)
    (printed _ _ _ (read-long c.in-Ok.m s c.message-to.ensures.long)
    (both _ _ _ c.message-to.ensures.added c.add.ensures))
