-- `zvt::fields::digits_of` meets its contract. The invariant: i bytes are there, and the digits from i on, behind those that gave v, answer as the
-- whole does; the measure is the number of digits left. Assumes nothing.
use mathlib.Core.Path.{◌≡◌}
use Prim.Native.Nat.{◌+◌, ◌-◌, ◌^◌, ◌<◌, ◌≤◌}
use lib.ListN.{length, drop}
use Rattle.zvt_rules.specs.Fields.{digits_of}
use Rattle.zvt.specs.FieldSteps.{as_digits, digits_answer}
use Rattle.zvt.proofs.fields.digits_of.Given as goal

abbrev pub invariant-loop-i : goal.invariant-loop-i
invariant-loop-i l =
    (l.i ≤ l.d) × (l.i ≤ length l.p.bytes.now) × (l.v < 10 ^ l.i)
    × (digits_answer l.d l.p.at l.p.bytes.now ≡ as_digits (digits_of (l.d - l.i) l.v (l.p.at + l.i) (drop l.i l.p.bytes.now)))
