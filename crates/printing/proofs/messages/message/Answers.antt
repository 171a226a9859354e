-- `printing::messages::message`: the pair, size and form, objects and ids. Assumes nothing.
use native.Mathlib.Omega.{arith}
use Rattle.basics.specs.Text.{hex_text}
use Rattle.buffers.proofs.TextLaws.{both}
use Rattle.zvt.proofs.Slices.{bytes-known}
use Rattle.printing.specs.Messages.{outline_text}
use Rattle.printing.proofs.Lengths.{outline-long}
use Rattle.printing.proofs.messages.message.Goals as goal

pub returns : goal.returns
unfolding outline_text hex_text
returns c =
    record {
      added =
          both _ _ _ c.add_hex-to.ensures
          (both _ _ _ c.add_hex-to-2.ensures
          (both _ _ _ c.add_size-to.ensures (both _ _ _ (rw c.from.ensures at c.add_number-to.ensures) c.add_ids.ensures)));
      long = outline-long c.args.m c.args.s.now (bytes-known _ c.type_inv.s) (omega arith) (omega arith);
    }
