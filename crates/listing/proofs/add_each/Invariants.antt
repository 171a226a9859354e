-- `listing::add_each`. The invariant: what is left to add comes to the same. Assumes nothing.
use mathlib.Core.Path.{◌≡◌}
use lib.ListN.{drop}
use Rattle.basics.specs.Text.{text, add_all}
use Rattle.listing.specs.Lines.{each_text}
use Rattle.listing.proofs.add_each.Given as goal

abbrev pub invariant-loop-id : goal.invariant-loop-id
invariant-loop-id l = add_all (each_text (drop l.id-index l.ids)) (text l.to l.out) ≡ add_all (each_text l.ids) (text l.at l.initial.out)
