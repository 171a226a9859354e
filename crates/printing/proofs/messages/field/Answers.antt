-- `printing::messages::field`: refused, absent, or a value. Assumes nothing.
use mathlib.Core.Path.{sym, ap, ◌∙◌}
use native.Mathlib.Omega.{arith}
use Rattle.basics.specs.Text.{bytes_text}
use Rattle.buffers.proofs.TextLaws.{both}
use Rattle.printing.specs.Messages.{field_text, field_by}
use Rattle.printing.proofs.Prints.{printed, roomier, alike, handed-value}
use Rattle.printing.proofs.Lengths.{value-long}
use Rattle.printing.proofs.messages.field.Goals as goal

pub returns-in-Err : goal.returns-in-Err
unfolding field_text field_by
returns-in-Err c = rw (sym c.in-Err.ensures) (roomier (omega arith) c.refused.ensures)

pub returns-in-None : goal.returns-in-None
unfolding field_text field_by
returns-in-None c = rw (sym (rw c.in-None.is at c.in-Ok.ensures)) (printed _ _ _ (omega arith) c.add_all.ensures)

pub returns-in-Some : goal.returns-in-Some
unfolding field_text field_by
returns-in-Some c =
    let value = sym (rw c.in-Some.is at c.in-Ok.ensures) in
    let s = c.args.s.now in
    let digits = alike _ _ _ (ap bytes_text (c.field_bytes.ensures.bytes ∙ handed-value _ s _ _ value)) c.add_bytes-to.ensures in
    rw value
    (printed _ _ _ (value-long s c.in-Some.v (omega arith))
    (both _ _ _ c.add_decimal-to.ensures (both _ _ _ c.add-to.ensures (both _ _ _ digits c.add.ensures))))
