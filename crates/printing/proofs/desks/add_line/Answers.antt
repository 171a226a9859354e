-- `printing::desks::add_line`: the eight words of a line. Assumes nothing.
use Rattle.buffers.proofs.TextLaws.{both}
use Rattle.printing.specs.Desks.{line_text}
use Rattle.printing.proofs.Lengths.{line-long}
use native.Mathlib.Omega.{arith}
use Rattle.printing.proofs.desks.add_line.Goals as goal

pub returns : goal.returns
unfolding line_text
returns c =
    let l = c.args.l in
    record {
      added =
          both _ _ _ c.add_decimal-to.ensures
          (both _ _ _ (rw c.from.ensures at c.add_number-to.ensures)
          (both _ _ _ (rw c.kind_text.ensures at c.add_word-to.ensures)
          (both _ _ _ c.add_number-to-2.ensures
          (both _ _ _ c.add_number-to-3.ensures (both _ _ _ (rw c.from-2.ensures at c.add_number-to-4.ensures) c.add_ending.ensures)))));
      long = line-long c.args.number l c.requires (omega arith) (omega arith) (omega arith) (omega arith);
    }
