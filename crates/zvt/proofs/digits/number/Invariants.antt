-- The invariant of `zvt::digits::number`: what is left, read behind v, gives the number, and v is small enough; the measure is
-- what is left. Assumes nothing.
use mathlib.Core.Path.{◌≡◌}
use Prim.Native.Nat.{◌≤◌}
use lib.ListN.{length, drop}
use Rattle.zvt_rules.specs.Digits.{decimal_from, number_of}
use Rattle.zvt_rules.proofs.DigitLaws.{Small}
use Rattle.zvt.proofs.digits.number.Given as goal

abbrev pub invariant-loop-b : goal.invariant-loop-b
invariant-loop-b l = (l.b-index ≤ length l.s) × (decimal_from l.v (drop l.b-index l.s) ≡ number_of l.s) × Small l.b-index l.v
