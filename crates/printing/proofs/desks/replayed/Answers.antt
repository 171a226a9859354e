-- `printing::desks::replayed`: the lines, and the last one by how the replay ended. Assumes nothing.
use native.Mathlib.Omega.{arith}
use Rattle.desk_rules.specs.Memory.{lines_of_desk}
use Rattle.buffers.proofs.TextLaws.{both}
use Rattle.printing.specs.Desks.{lines_text, replayed_text}
use Rattle.printing.proofs.Prints.{printed}
use Rattle.printing.proofs.Lengths.{whole_long, stopped-long}
use Rattle.printing.proofs.desks.replayed.Goals as goal

pub returns-in-Ok : goal.returns-in-Ok
unfolding replayed_text
returns-in-Ok c =
    let ls = lines_text (lines_of_desk c.args.desk) in
    rw c.in-Ok.is
    (printed _ _ _ (whole_long ls c.args.place c.add_lines-to.ensures.long (omega arith))
    (both _ _ _ c.add_lines-to.ensures.added
    (both _ _ _ c.add_all-to.ensures (both _ _ _ c.add_number-to.ensures c.add_all.ensures))))

pub returns-in-Err : goal.returns-in-Err
unfolding replayed_text
returns-in-Err c =
    let ls = lines_text (lines_of_desk c.args.desk) in
    rw c.in-Err.is
    (printed _ _ _ (stopped-long ls c.args.place c.in-Err.f c.add_lines-to.ensures.long (omega arith) (omega arith))
    (both _ _ _ c.add_lines-to.ensures.added
    (both _ _ _ c.add_all-to.ensures (both _ _ _ c.add_number-to.ensures (rw c.from.ensures at c.counted.ensures)))))
