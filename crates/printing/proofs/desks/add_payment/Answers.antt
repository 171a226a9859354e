-- `printing::desks::add_payment`: kind, amount asked and receipt named. Assumes nothing.
use Rattle.buffers.proofs.TextLaws.{both}
use Rattle.printing.proofs.Lengths.{payment-long}
use native.Mathlib.Omega.{arith}
use Rattle.printing.proofs.desks.add_payment.Goals as goal

pub returns : goal.returns
returns c =
    let l = c.args.l in
    record {
      added = both _ _ _ (rw c.kind_text.ensures at c.add_word-to.ensures) (both _ _ _ c.add_number-to.ensures (rw c.from.ensures at c.add_number.ensures));
      long = payment-long l (omega arith) (omega arith);
    }
