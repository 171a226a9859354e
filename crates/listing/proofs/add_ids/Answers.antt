-- `listing::add_ids`. Assumes nothing.
use mathlib.Core.Path.{ap, ◌∙◌}
use mathlib.Core.List.{List}
use Prim.Native.Nat.{ℕ}
use Rattle.basics.specs.Text.{text, add_all}
use Rattle.listing.proofs.LineLaws.{ids-told}
use Rattle.listing.proofs.add_ids.Goals as goal

pub returns : goal.returns
returns c =
    let a = c.args in
    c.add_each.ensures
    ∙ ap (λ (w : List ℕ). add_all w (text a.at a.out.now)) (ids-told a.s.now _ c.read_first-first.ensures.lent.0 c.read_first-first.ensures.lent.1)
