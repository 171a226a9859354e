-- `printing::desks::add_status`: code, amount and receipt, and the line's end. Assumes nothing.
use Rattle.buffers.proofs.TextLaws.{both}
use Rattle.printing.specs.Desks.{status_text}
use Rattle.printing.proofs.Lengths.{status-long}
use Rattle.printing.proofs.desks.add_status.Goals as goal

pub returns : goal.returns
unfolding status_text
returns c =
    record {
      added =
          both _ _ _ c.add_code-to.ensures
          (both _ _ _ c.add_amount-to.ensures.added (both _ _ _ c.add_receipt-to.ensures.added c.add.ensures));
      long = status-long c.args.s c.add_amount-to.ensures.long c.add_receipt-to.ensures.long;
    }
