-- `zvt::fields::all_decimal` meets its contract. The invariant: the bytes from i on answer as the whole does; the measure is
-- what is left of them. Assumes nothing.
use mathlib.Core.Path.{◌≡◌}
use Prim.Native.Nat.{◌+◌, ◌≤◌}
use lib.ListN.{length, drop}
use Rattle.zvt_rules.specs.Reading.{got}
use Rattle.zvt_rules.specs.Fields.{unless_undecimal}
use Rattle.zvt.specs.FieldSteps.{as_decimals, decimals_answer}
use Rattle.zvt.proofs.fields.all_decimal.Given as goal

abbrev pub invariant-loop-i : goal.invariant-loop-i
invariant-loop-i l =
    (l.i ≤ length l.p.bytes.now)
    × (decimals_answer l.p.at l.p.bytes.now ≡ as_decimals (unless_undecimal (l.p.at + l.i) (drop l.i l.p.bytes.now) (got l.p.bytes.now)))
