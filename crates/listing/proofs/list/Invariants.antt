-- `listing::list`. The loop's invariant: the lines of what is left, written behind the text so far, come to the whole listing; no more
-- messages were listed than bytes are passed, and none of an input that is too long. Assumes nothing.
use Prim.Native.Nat.{◌-◌, ◌≤◌}
use mathlib.Core.Logic.{◌⊎◌}
use mathlib.Core.Path.{◌≡◌}
use lib.ListN.{length, drop}
use Rattle.basics.specs.Text.{text, add_all}
use Rattle.zvt_rules.specs.Listing.{listing}
use Rattle.listing.specs.Lines.{lines_of}
use Rattle.listing.proofs.list.Given as goal

abbrev pub invariant-loop-size : goal.invariant-loop-size
invariant-loop-size l =
    (l.from ≤ length l.s) × (l.count ≤ l.from) × ((l.from ≡ 0) ⊎ (length l.s ≤ 65536))
    × (add_all (lines_of l.count (drop l.from l.s)) (text l.to l.out) ≡ add_all (listing l.s) (text 0 l.initial.out))

abbrev pub decreases-loop-size : goal.decreases-loop-size
decreases-loop-size l = length l.s - l.from
