-- `zvt::list::put_ids` meets its contract. The invariant: from `at` on stands a list; writing its ids behind the first `n` comes to writing
-- all of them; the measure is what is left of the list. Assumes nothing.
use mathlib.Core.Path.{◌≡◌}
use Prim.Native.Nat.{◌+◌, ◌-◌}
use lib.ListN.{length}
use Rattle.basics.specs.Text.{text, add_all}
use Rattle.zvt_rules.specs.Listed.{ids_listed}
use Rattle.zvt.specs.ListSteps.{ListIn, listed_in}
use Rattle.zvt.proofs.list.put_ids.Given as goal

abbrev pub invariant-loop-f : goal.invariant-loop-f
invariant-loop-f l =
    ListIn l.at l.end l.s × (length l.out ≡ length l.initial.out)
    × (l.n + length (ids_listed (listed_in l.at l.end l.s)) ≡ length (ids_listed (listed_in l.from l.end l.s)))
    × (add_all (ids_listed (listed_in l.at l.end l.s)) (text l.n l.out)
    ≡ add_all (ids_listed (listed_in l.from l.end l.s)) (text 0 l.initial.out))

abbrev pub decreases-loop-f : goal.decreases-loop-f
decreases-loop-f l = l.end - l.at
