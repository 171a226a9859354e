-- `zvt::fields::noted` meets its contract. Assumes nothing.
use mathlib.Core.Path.{sym}
use borrow.Author.Tests.{eq-eqb, ne_eqb}
use Rattle.basics.proofs.Tests.{pick_true, pick-false}
use Rattle.zvt.specs.FieldSteps.{noted}
use Rattle.zvt.proofs.fields.noted.Goals as goal

pub returns-then-f-id : goal.returns-then-f-id
unfolding noted
returns-then-f-id c = sym (pick_true _ _ (eq-eqb _ _ c.if-f-id.true))

pub returns : goal.returns
unfolding noted
returns c = sym (pick-false _ _ (ne_eqb _ _ c.if-f-id.false))
