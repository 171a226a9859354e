-- `shapes::shape_in`: the first row with that word. Assumes nothing.
use Rattle.std.proofs.Common.{rules, tests, ◌≡◌, ◌∙◌}
use Rattle.std.specs.Option.{option_map}
use Rattle.std.specs.Str.{bytes_eq}
use Rattle.std.proofs.lemmas.Iterator.{YieldsList-from_slice}
use Rattle.std.proofs.lemmas.Iterator.Search.{find_from_yields_List}
use Rattle.words.specs.Steps.{rows, shape_in}
use Rattle.words.proofs.ShapeLaws.{shaped, found}
use Rattle.words.proofs.shapes.shape_in.Goals as goal
use Rattle.words.proofs.shapes.shape_in.Goals.{After-find}

looked_up : (c : After-find) → option_map (λ r. shaped r.now) c.find.result ≡ shape_in (rows c.args.table.now) c.args.name.now
looked_up c =
    found c.args.table.now c.args.name.now c.find.result
    (find_from_yields_List (λ r. bytes_eq r.0.now c.args.name.now) _ _ c.find.result c.find.ensures.ran
    (YieldsList-from_slice c.args.table.now c.iter.ensures.rest) (λ x b q k. search (rules, tests)))

pub returns-in_err-what : goal.returns-in_err-what
returns-in_err-what c = c.from_residual.ensures ∙ rw c.in_err-what.was at (looked_up (goal.at.returns-in_err-what c).After-find)

pub returns : goal.returns
returns c = rw c.in_ok-what.was at (looked_up (goal.at.returns c).After-find)
