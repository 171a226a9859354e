-- `printing::desks::book`: the lines, and how many there are. Assumes nothing.
use Prim.Native.Nat.{◌≤◌}
use native.Mathlib.Omega.{arith}
use lib.ListN.{length}
use lib.Seq.{length-take-le}
use Rattle.desk_rules.specs.Memory.{lines_of_desk}
use Rattle.buffers.proofs.TextLaws.{both}
use Rattle.printing.specs.Desks.{lines_text, book_text}
use Rattle.printing.proofs.Prints.{printed}
use Rattle.printing.proofs.Lengths.{book-long}
use Rattle.printing.proofs.desks.book.Goals as goal

pub returns : goal.returns
unfolding book_text
returns c =
    let d = c.args.desk in
    let b = d.book in
    let within : b.count ≤ length b.lines = omega arith in
    rw (length-take-le b.count b.lines within)
    (printed _ _ _ (book-long (lines_text (lines_of_desk d)) b.count c.add_lines-to.ensures.long (omega arith))
    (both _ _ _ c.add_lines-to.ensures.added c.counted.ensures))
