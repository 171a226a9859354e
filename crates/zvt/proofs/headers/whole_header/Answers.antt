-- `zvt::headers::whole_header` meets its contract. Assumes nothing.
use mathlib.Core.Path.{sym, ◌∙◌}
use native.Mathlib.Omega.{arith}
use Rattle.basics.proofs.Exits.{handed-on}
use Rattle.zvt.proofs.HeaderLaws.{first-within, whole-none, whole-over, whole_in}
use Rattle.zvt.proofs.headers.whole_header.Goals as goal

pub overflow_sub-s : goal.overflow_sub-s
overflow_sub-s c =
    let w = first-within _ _ (sym c.in_ok-h.ensures) in
    omega (arith, w.2)

pub returns-then-h-s : goal.returns-then-h-s
returns-then-h-s c =
    rw c.unplaced.ensures (sym (whole-over _ _ (sym c.in_ok-h.ensures) c.if-h-s.true))

pub returns-in_err-h : goal.returns-in_err-h
returns-in_err-h c = handed-on c.from_residual.ensures.1 ∙ sym (whole-none _ _ (sym c.in_err-h.ensures))

pub returns : goal.returns
returns c =
    sym (whole_in _ _ (sym c.in_ok-h.ensures) c.if-h-s.false)
