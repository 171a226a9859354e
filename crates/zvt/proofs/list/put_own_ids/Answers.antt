-- `zvt::list::put_own_ids` meets its contract. Assumes nothing.
use mathlib.Core.Path.{◌≡◌}
use native.Mathlib.Omega.{arith}
use lib.ListN.{length}
use borrow.Author.Rules.{rules}
use Rattle.zvt_rules.proofs.ListSize.{ids-few}
use Rattle.zvt.proofs.Slices.{bytes-known}
use Rattle.zvt.proofs.list.put_own_ids.Goals as goal

pub put_ids-requires : goal.put_ids-requires
put_ids-requires c =
    let size : length c.args.out.now ≡ 256 = search rules in
    let few = ids-few c.args.s.now (bytes-known _ c.type_inv.s) in
    (c.list_in-place.ensures.within, omega (arith, rw c.list_in-place.ensures.fields at few, size))
