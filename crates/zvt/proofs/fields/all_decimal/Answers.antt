-- `zvt::fields::all_decimal` meets its contract. Assumes nothing.
use mathlib.Core.Path.{◌≡◌, sym, ap, ◌∙◌}
use mathlib.Core.Bool.{false}
use Prim.Native.Nat.{◌<◌}
use native.Mathlib.Nat.{add-zero}
use native.Mathlib.Omega.{arith}
use lib.ListN.{get_or}
use Rattle.std.proofs.Common.{Err}
use Rattle.zvt_rules.specs.Fields.{decimal}
use Rattle.zvt_rules.proofs.FieldReading.{undecimal-end, undecimal-on, undecimal-stop}
use Rattle.zvt.specs.FieldSteps.{as_decimals, decimals_answer}
use Rattle.zvt.proofs.Masks.{undecimal-high, undecimal-low, both-decimal}
use Rattle.zvt.proofs.fields.all_decimal.Goals.{then-b-gt144-via-then-b-gt144}
use Rattle.zvt.proofs.fields.all_decimal.Goals.{then-b-gt144-via-else-b-gt144+then-b-gt9}
use Rattle.zvt.proofs.fields.all_decimal.Goals as goal

pub loop-i-init : goal.loop-i-init
unfolding decimals_answer
loop-i-init c = (omega arith, rw add-zero)

pub returns-then-b-gt144 : goal.returns-then-b-gt144
unfolding as_decimals
returns-then-b-gt144 c =
    let l = c.loop-i in
    let b = get_or c.args.p.bytes.now l.i 0 in
    let byte : b < 256 = c.args.p.are_bytes l.i in
    let bad : decimal b ≡ false =
    elim c.then-b-gt144.branch [
      | then-b-gt144-via-then-b-gt144 w ↦ undecimal-high b byte w.if-b-gt144.true
      | then-b-gt144-via-else-b-gt144+then-b-gt9 w ↦ undecimal-low b byte w.if-b-gt144.false w.if-b-gt9.true
    ] in
    ap Err c.fault.ensures ∙ sym (l.invariant.1 ∙ ap as_decimals (undecimal-stop _ _ _ l.i c.loop-i-test.true bad))

pub loop-i-preserved : goal.loop-i-preserved
loop-i-preserved c =
    let l = c.loop-i in
    let b = get_or c.args.p.bytes.now l.i 0 in
    let byte : b < 256 = c.args.p.are_bytes l.i in
    let good = both-decimal b byte c.if-b-gt144.false c.if-b-gt9.false in
    (omega arith, l.invariant.1 ∙ ap as_decimals (undecimal-on _ _ _ l.i (omega arith) good))

pub returns : goal.returns
unfolding as_decimals
returns c =
    let l = c.loop-i in
    sym (l.invariant.1 ∙ ap as_decimals (undecimal-end _ _ _ l.i c.loop-i-test.false))
