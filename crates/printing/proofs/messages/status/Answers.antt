-- `printing::messages::status`: what the status information tells. Assumes nothing.
use native.Mathlib.Omega.{arith}
use Rattle.printing.proofs.Prints.{printed}
use Rattle.printing.proofs.messages.status.Goals as goal

pub returns : goal.returns
returns c =
    rw c.read_status.ensures at (printed 64 _ _ (omega (arith, c.add_status.ensures.long)) c.add_status.ensures.added)
