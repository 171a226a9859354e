-- `zvt::list::list_in` meets its contract: the layout of an accepted message says where its list starts. Assumes nothing.
use mathlib.Core.Path.{sym, ◌∙◌}
use native.Mathlib.Omega.{arith}
use Rattle.zvt.proofs.PlaceLaws.{start_small, list_by, list-is}
use Rattle.zvt.proofs.list.list_in.Goals as goal

pub overflow_add-from : goal.overflow_add-from
overflow_add-from c = omega (arith, start_small _ _ c.requires)

pub returns-in-Plain : goal.returns-in-Plain
unfolding list_by
returns-in-Plain c =
    list-is _ _ c.requires _ (sym c.layout_of.ensures ∙ c.in-Plain.is)

pub returns-in-List : goal.returns-in-List
unfolding list_by
returns-in-List c =
    list-is _ _ c.requires _ (sym c.layout_of.ensures ∙ c.in-List.is)

pub returns-in-Secured : goal.returns-in-Secured
unfolding list_by
returns-in-Secured c =
    list-is _ _ c.requires _ (sym c.layout_of.ensures ∙ c.in-Secured.is)
