-- `zvt::read_first` meets its contract. Assumes nothing.
use Rattle.std.proofs.Common.{sym, length-take-le}
use Rattle.zvt.proofs.Slices.{bytes-known}
use Rattle.zvt.proofs.PlaceLaws.{own-within, own-was, own-ids, refused-ids, first-got}
use Rattle.zvt.proofs.read_first.Goals as goal

pub slice_bounds-put_own_ids-end : goal.slice_bounds-put_own_ids-end
slice_bounds-put_own_ids-end c =
    let (m, first, outline, size) = first-got _ _ _ (sym c.in-Ok.ensures) in
    sym (length-take-le _ _ (own-within _ m _ (bytes-known _ c.type_inv.s) first size))

pub put_own_ids-count-requires : goal.put_own_ids-count-requires
put_own_ids-count-requires c =
    let (m, first, outline, size) = first-got _ _ _ (sym c.in-Ok.ensures) in
    own-was _ m _ (bytes-known _ c.type_inv.s) first size _ outline

pub returns-in-Err-clause-lent : goal.returns-in-Err-clause-lent
returns-in-Err-clause-lent c = refused-ids _ _ _ (sym c.in-Err.ensures)

pub returns-in-Ok-clause-lent : goal.returns-in-Ok-clause-lent
returns-in-Ok-clause-lent c =
    let (m, first, outline, size) = first-got _ _ _ (sym c.in-Ok.ensures) in
    rw (own-ids _ m _ (bytes-known _ c.type_inv.s) first size) c.put_own_ids-count.ensures
