-- `zvt::told::first_in` meets its contract. Assumes nothing.
use mathlib.Core.Path.{sym, ◌∙◌}
use Rattle.zvt.proofs.ToldLaws.{first-none, first_plain, first-list, first-secured}
use Rattle.std.proofs.Common.{⊎_elim}
use Rattle.zvt.proofs.told.first_in.Goals as goal

pub returns-then-s-at : goal.returns-then-s-at
returns-then-s-at c = first-none _ _ c.requires c.if-s-at.true

pub returns-in-Plain : goal.returns-in-Plain
returns-in-Plain c =
    first_plain _ _ c.requires (sym c.layout_of.ensures ∙ c.in-Plain.is) c.if-s-at.false

pub returns-in-List : goal.returns-in-List
returns-in-List c =
    ⊎_elim (λ e. first-list _ _ c.requires (sym c.layout_of.ensures ∙ e))
    (λ e. first-secured _ _ c.requires (sym c.layout_of.ensures ∙ e)) c.in-List.is
