-- `printing::desks::add_receipt`: told or not. Assumes nothing.
use native.Mathlib.Omega.{arith}
use Rattle.printing.proofs.Lengths.{short-long}
use Rattle.printing.proofs.desks.add_receipt.Goals as goal

pub returns-in-Some-clause-long : goal.returns-in-Some-clause-long
returns-in-Some-clause-long c = rw c.in-Some.is (short-long c.in-Some.n (omega arith))
