-- `zvt::read_status` meets its contract. Assumes nothing.
use Rattle.std.proofs.Common.{ap}
use Rattle.zvt_rules.specs.declared.Places.{Places}
use Rattle.zvt.proofs.Slices.{bytes-known}
use Rattle.zvt.proofs.read_status.Goals as goal

pub status_at-requires : goal.status_at-requires
status_at-requires c =
    record { bytes = bytes-known _ c.type_inv.s; fields = ap (λ (p : Places). p.fields) c.places-places.ensures }
