-- `zvt::hear` meets its contract. Assumes nothing.
use mathlib.Core.Path.{sym, ◌∙◌}
use Rattle.basics.proofs.Exits.{handed-on}
use Rattle.zvt.proofs.ToldLaws.{unheard, heard-is}
use Rattle.zvt.proofs.hear.Goals as goal

pub returns-in_err-h : goal.returns-in_err-h
returns-in_err-h c = handed-on c.from_residual.ensures.1 ∙ sym (unheard _ _ (sym c.in_err-h.ensures))

pub returns : goal.returns
returns c =
    rw c.told_behind.ensures (sym (heard-is _ _ (sym c.in_ok-h.ensures)))
