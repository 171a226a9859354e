-- `printing::desks::signed`: with a stroke before it and without. Assumes nothing.
use mathlib.Core.Path.{ap, ◌∙◌}
use lib.IntN.{nat_abs}
use mir.Syntax.{w64}
use mir.ValLaws.{to_z-of_z}
use Rattle.basics.specs.Text.{decimal_text}
use Rattle.buffers.proofs.TextLaws.{both}
use Rattle.printing.proofs.Prints.{printed, alike}
use Rattle.printing.proofs.Signed.{signed_below, signed-other, signed-long}
use Rattle.printing.proofs.desks.signed.Goals.{then-n-lt0, else-n-lt0}
use Rattle.printing.proofs.desks.signed.Goals as goal

pub returns : goal.returns
returns c =
    let n = c.args.n in
    let value = c.unsigned_abs.ensures.value ∙ ap nat_abs (to_z-of_z w64 n c.ranges.n) in
    let digits = alike _ _ _ (ap decimal_text value) c.add_decimal-to.ensures in
    elim c.if-n-lt0.branch [
      | then-n-lt0 w ↦
          let sign = rw (← w.sign-is, ← w.out-is) at w.add-sign.ensures in
          printed 64 _ _ (signed-long _ c.ranges.n)
          (rw (signed_below n c.ranges.n w.if-n-lt0.true) (both _ _ _ sign (both _ _ _ digits c.add.ensures)))
      | else-n-lt0 w ↦
          printed 64 _ _ (signed-long _ c.ranges.n)
          (rw (signed-other n c.ranges.n w.if-n-lt0.false) (both _ _ _ (rw (w.sign-is, w.out-is) at digits) c.add.ensures))
    ]
