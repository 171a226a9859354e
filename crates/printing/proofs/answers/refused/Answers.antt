-- `printing::answers::refused`: with a place and without. Assumes nothing.
use native.Mathlib.Omega.{arith}
use Rattle.buffers.proofs.TextLaws.{both}
use Rattle.printing.specs.Answers.{refused_text}
use Rattle.printing.proofs.Prints.{printed}
use Rattle.printing.proofs.Lengths.{refused-long, refused-at-long}
use Rattle.printing.proofs.answers.refused.Goals as goal

pub returns-in-None : goal.returns-in-None
unfolding refused_text
returns-in-None c =
    rw c.in-None.is
    (printed 64 _ _ (refused-long _ (omega arith))
    (both _ _ _ c.add_all-to.ensures (both _ _ _ (rw c.from.ensures at c.add_number-to.ensures) c.add.ensures)))

pub returns-in-Some : goal.returns-in-Some
unfolding refused_text
returns-in-Some c =
    rw c.in-Some.is
    (printed 64 _ _ (refused-at-long _ _ (omega arith) (omega arith))
    (both _ _ _ c.add_all-to.ensures (both _ _ _ (rw c.from.ensures at c.add_number-to.ensures) c.counted.ensures)))
