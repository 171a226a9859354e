-- `printing::answers::written`: where nothing was written, and where something was. Assumes nothing.
use native.Mathlib.Omega.{arith}
use Rattle.buffers.proofs.TextLaws.{both}
use Rattle.printing.proofs.Prints.{ok-none, ok-some}
use Rattle.printing.proofs.answers.written.Goals as goal

pub returns-then-v-eq0 : goal.returns-then-v-eq0
returns-then-v-eq0 c =
    let v = c.args.v.now in
    rw (ok-none v (omega arith)) c.add_all.ensures

pub returns : goal.returns
returns c =
    let v = c.args.v.now in
    rw (ok-some v (λ e. omega arith)) (both _ _ _ c.add_all-to.ensures (both _ _ _ c.add_bytes-to.ensures c.add.ensures))
