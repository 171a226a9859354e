-- `zvt::digits::number` meets its contract: the number is kept digit by digit. Assumes nothing.
use mathlib.Core.Path.{refl, sym, ◌∙◌}
use native.Mathlib.Omega.{arith}
use lib.ListN.{get_or}
use Rattle.zvt_rules.specs.Digits.{number_of}
use Rattle.zvt_rules.proofs.DigitLaws.{number_step, number-end, small-step}
use Rattle.zvt.proofs.digits.number.Goals as goal

pub loop-b-init : goal.loop-b-init
unfolding number_of
loop-b-init c = (omega arith, refl, omega arith)

pub loop-b-preserved : goal.loop-b-preserved
loop-b-preserved c =
    let l = c.loop-b in
    let s = c.args.s.now in
    rw c.from-two.ensures (omega arith, sym (number_step s l.b-index l.v (omega arith)) ∙ l.invariant.1, small-step l.b-index l.v (get_or s l.b-index 0) (omega (arith, c.type_inv.s l.b-index)) l.invariant.2)

pub returns : goal.returns
returns c = let l = c.loop-b in let s = c.args.s.now in sym (number-end s l.b-index l.v (omega arith)) ∙ l.invariant.1
