-- `printing::messages::first`: refused, or the message and where the next begins. Assumes nothing.
use mathlib.Core.Path.{sym, ◌∙◌}
use native.Mathlib.Omega.{arith}
use Rattle.buffers.proofs.TextLaws.{both}
use Rattle.printing.specs.Messages.{first_text, first_by}
use Rattle.printing.proofs.Prints.{printed, roomier}
use Rattle.printing.proofs.Lengths.{first-long}
use Rattle.printing.proofs.messages.first.Goals as goal

pub returns-in-Err : goal.returns-in-Err
unfolding first_text first_by
returns-in-Err c =
    rw (sym c.read_first-first.ensures.answer ∙ c.in-Err.is) (roomier (omega arith) c.refused.ensures)

pub returns-in-Ok : goal.returns-in-Ok
unfolding first_text first_by
returns-in-Ok c =
    let s = c.args.s.now in
    let long = first-long c.in-Ok.read.0 s c.message-to.ensures.long c.in-Ok.read.1 in
    rw (sym c.read_first-first.ensures.answer ∙ c.in-Ok.is)
    (printed _ _ _ (long (omega arith) (omega arith))
    (both _ _ _ c.message-to.ensures.added
    (both _ _ _ c.add_all-to.ensures (both _ _ _ c.add_number-to.ensures c.counted.ensures))))
