-- `zvt::list::field_from` meets its contract: the list is read, so that its first field has bounds. Assumes nothing.
use mathlib.Core.Path.{sym, ◌∙◌}
use Prim.Native.Nat.{◌+◌, ◌≤◌}
use native.Mathlib.Omega.{arith}
use lib.ListN.{get_or}
use Rattle.zvt.specs.ListSteps.{FieldHere, field, none}
use Rattle.zvt.proofs.Slices.{bytes-known}
use Rattle.zvt.proofs.ListedLaws.{list-empty, first-is, first-never}
use Rattle.zvt.proofs.list.field_from.Goals.{In-Ok}
use Rattle.zvt.proofs.list.field_from.Goals as goal

-- the bounds that were found
found : (c : In-Ok)
    → let a = c.args in
    let x = c.in-Ok.b in
    (x.from ≤ x.to) × (a.at + x.to ≤ a.end)
    × FieldHere a.at a.end a.s.now (record { id = get_or a.s.now a.at 0; from = a.at + x.from; to = a.at + x.to })
found c =
    first-is _ _ _ (bytes-known _ c.type_inv.s) c.requires c.if-at-end.false _ (sym c.field_bounds.ensures ∙ c.in-Ok.is)

pub returns-then-at-end : goal.returns-then-at-end
returns-then-at-end c = none (list-empty _ _ _ c.if-at-end.true)

pub returns-in_default : goal.returns-in_default
returns-in_default c =
    absurd
    (first-never _ _ _ (bytes-known _ c.type_inv.s) c.requires c.if-at-end.false _
    (sym c.field_bounds.ensures ∙ c.in_default.is))

pub overflow_add-from : goal.overflow_add-from
overflow_add-from c = let k = found (goal.at.overflow_add-from c).In-Ok in omega arith

pub overflow_add-to : goal.overflow_add-to
overflow_add-to c = let k = found (goal.at.overflow_add-to c).In-Ok in omega arith

pub returns : goal.returns
returns c = field (found (goal.at.returns c).In-Ok).2
