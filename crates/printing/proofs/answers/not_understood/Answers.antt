-- `printing::answers::not_understood`: two words with the number between them. Assumes nothing.
use native.Mathlib.Omega.{arith}
use Rattle.buffers.proofs.TextLaws.{both}
use Rattle.printing.specs.Answers.{not_understood}
use Rattle.printing.proofs.Prints.{printed}
use Rattle.printing.proofs.Lengths.{not-understood-long}
use Rattle.printing.proofs.answers.not_understood.Goals as goal

pub returns : goal.returns
unfolding not_understood
returns c =
    let n = c.args.line in
    printed 64 (not_understood n) _ (not-understood-long n (omega arith))
    (both _ _ _ c.add_all-to.ensures (both _ _ _ c.add_number-to.ensures c.add_all.ensures))
