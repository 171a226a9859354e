-- `zvt::headers::fitted` meets its contract. Assumes nothing.
use mathlib.Core.Path.{sym}
use native.Mathlib.Omega.{arith}
use Rattle.zvt.proofs.HeaderLaws.{fit-over, fit_cut, fit-in}
use Rattle.zvt.proofs.headers.fitted.Goals.{then-s-h-via-then-s-h, then-s-h-via-else-s-h+then-s-h-2}
use Rattle.zvt.proofs.headers.fitted.Goals as goal

pub returns-then-h-gt-MOST_BODY : goal.returns-then-h-gt-MOST_BODY
returns-then-h-gt-MOST_BODY c = rw c.unplaced.ensures (sym (fit-over c.args.h c.args.s.now c.if-h-gt-MOST_BODY.true))

pub returns-then-s-h : goal.returns-then-s-h
returns-then-s-h c =
    rw c.unplaced-then-s-h.ensures (sym (fit_cut c.args.h c.args.s.now c.if-h-gt-MOST_BODY.false
    (elim c.then-s-h.branch [ then-s-h-via-then-s-h w ↦ omega arith | then-s-h-via-else-s-h+then-s-h-2 w ↦ omega arith ])))

pub returns : goal.returns
returns c =
    sym (fit-in c.args.h c.args.s.now c.if-h-gt-MOST_BODY.false (omega arith))
