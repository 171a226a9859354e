-- `printing::desks::add_amount`: told or not. Assumes nothing.
use native.Mathlib.Omega.{arith}
use Rattle.printing.proofs.Lengths.{number-long}
use Rattle.printing.proofs.desks.add_amount.Goals as goal

pub returns-in-Some-clause-long : goal.returns-in-Some-clause-long
returns-in-Some-clause-long c = rw c.in-Some.is (number-long c.in-Some.n (omega arith))
