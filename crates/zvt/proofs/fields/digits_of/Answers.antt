-- `zvt::fields::digits_of` meets its contract. Assumes nothing.
use mathlib.Core.Path.{◌≡◌, sym, ap, ◌∙◌}
use mathlib.Core.Bool.{false}
use mathlib.Core.Logic.{inl, inr, ⊎_elim}
use native.Mathlib.Numerals.{add-one}
use native.Mathlib.Nat.{add-zero, sub-zero, pow-succ'}
use native.Mathlib.Omega.{arith}
use lib.ListN.{get_or}
use Rattle.std.proofs.Common.{Err}
use Rattle.zvt_rules.specs.Fields.{length_digit}
use Rattle.zvt_rules.proofs.FieldReading.{digit-test, digit-fails, digits-end, digits-cut, digits-on, digits-stop}
use Rattle.zvt.specs.FieldSteps.{as_digits, digits_answer}
use Rattle.zvt.proofs.fields.digits_of.Goals as goal

pub loop-i-init : goal.loop-i-init
unfolding digits_answer
loop-i-init c = (omega arith, omega arith, omega arith, rw (sub-zero, add-zero))

pub returns-then-s-i : goal.returns-then-s-i
unfolding as_digits
returns-then-s-i c =
    let l = c.loop-i in
    ap Err c.fault.ensures ∙ sym (l.invariant.3 ∙ ap as_digits (digits-cut _ l.v _ _ l.i c.loop-i-test.true c.if-s-i.true))

pub returns-then-b-lt240 : goal.returns-then-b-lt240
unfolding as_digits
returns-then-b-lt240 c =
    let l = c.loop-i in
    let no-digit : length_digit (get_or c.args.p.bytes.now l.i 0) ≡ false =
    (digit-fails _).1 (⊎_elim (λ w. inl w) (λ w. inr w.1) c.then-b-lt240.either) in
    ap Err c.fault-then-b-lt240.ensures ∙ sym (l.invariant.3 ∙ ap as_digits (digits-stop _ l.v _ _ l.i c.loop-i-test.true c.if-s-i.false no-digit))

pub loop-i-preserved : goal.loop-i-preserved
loop-i-preserved c =
    let l = c.loop-i in
    let high = c.if-b-gt249.false in
    rw c.from.ensures (
      omega arith,
      omega (arith, c.if-s-i.false),
      rw (add-one l.i, pow-succ' 10 l.i) (omega (arith, high, l.invariant.2)),
      l.invariant.3
          ∙ ap as_digits (digits-on _ l.v _ _ l.i (omega arith) (omega arith) ((digit-test _).1 (c.if-b-lt240.false, high))),
    )

pub returns : goal.returns
unfolding as_digits
returns c =
    let l = c.loop-i in
    sym (l.invariant.3 ∙ ap as_digits (digits-end _ l.v _ _ l.i c.loop-i-test.false))
