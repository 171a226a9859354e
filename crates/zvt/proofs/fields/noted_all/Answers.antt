-- `zvt::fields::noted_all` meets its contract. Assumes nothing.
use mathlib.Core.Path.{◌≡◌}
use lib.ListN.{length}
use borrow.Author.Rules.{rules}
use Rattle.zvt.proofs.WalkLaws.{noted-four}
use Rattle.zvt.proofs.fields.noted_all.Goals as goal

pub returns : goal.returns
returns c =
    let ids : length c.args.ids ≡ 4 = search rules in
    let found : length c.args.before ≡ 4 = search rules in
    rw (c.noted-a.ensures, c.noted-b.ensures, c.noted-c.ensures, c.noted-d.ensures) (noted-four _ _ _ _ ids found)
