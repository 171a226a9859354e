-- The invariant of `zvt::digits::digit_bytes`: the digits of v in i bytes, and the bytes that stand from the i-th on, are the
-- digits of n. Assumes nothing.
use Rattle.std.proofs.Common.{◌≡◌, ◌++◌, length, drop}
use Rattle.zvt_rules.specs.Digits.{digit_bytes_of}
use Rattle.zvt.proofs.digits.digit_bytes.Given as goal

abbrev pub invariant-loop-i : goal.invariant-loop-i
invariant-loop-i g l = (length l.b ≡ g.row.N) × (digit_bytes_of l.i l.v ++ drop l.i l.b ≡ digit_bytes_of g.row.N l.n)
