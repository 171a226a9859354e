-- `printing::desks::add_lane`: a number, and what the phase has. Assumes nothing.
use mathlib.Core.Path.{ap}
use Prim.Native.Nat.{◌≤◌}
use native.Mathlib.Omega.{arith}
use lib.ListN.{length}
use Rattle.buffers.proofs.TextLaws.{both}
use Rattle.printing.specs.Desks.{status_text, remembered, lane_text}
use Rattle.printing.proofs.Prints.{alike, payment}
use Rattle.printing.proofs.Lengths.{idle-long, waiting-long, running-long}
use Rattle.printing.proofs.desks.add_lane.Goals as goal

pub returns-in-Idle : goal.returns-in-Idle
unfolding lane_text
returns-in-Idle c =
    rw c.in-Idle.is
    record {
      added = both _ _ _ (rw c.from.ensures at c.add_decimal-to.ensures) c.add_all.ensures;
      long = idle-long c.args.lane c.args.l c.requires;
    }

pub returns-in-Waiting : goal.returns-in-Waiting
unfolding lane_text
returns-in-Waiting c =
    let l = c.args.l in
    rw c.in-Waiting.is
    record {
      added =
          both _ _ _ (rw c.from.ensures at c.add_decimal-to.ensures)
          (both _ _ _ c.add_all-to.ensures (payment l _ _ c.add_payment-to.ensures.added c.add.ensures));
      long = waiting-long c.args.lane l c.requires c.add_payment-to.ensures.long;
    }

pub returns-in-Running : goal.returns-in-Running
unfolding lane_text status_text
returns-in-Running c =
    let l = c.args.l in
    let long : length (status_text (remembered l.status)) ≤ 30 =
    omega (arith, ap (λ s. length (status_text s)) c.remembered.ensures, c.add_status.ensures.long) in
    rw c.in-Running.is
    record {
      added =
          both _ _ _ (rw c.from.ensures at c.add_decimal-to.ensures)
          (both _ _ _ c.add_all-to-in-Running.ensures
          (payment l _ _ c.add_payment-to-in-Running.ensures.added
          (both _ _ _ c.add-to.ensures (alike _ _ _ (ap status_text c.remembered.ensures) c.add_status.ensures.added))));
      long = running-long c.args.lane l c.requires c.add_payment-to-in-Running.ensures.long long;
    }
