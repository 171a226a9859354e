-- `printing::answers::bytes_line`: hex, and the line's end. Assumes nothing.
use Rattle.buffers.proofs.TextLaws.{both}
use Rattle.printing.specs.Answers.{bytes_line}
use Rattle.printing.proofs.Prints.{printed}
use Rattle.printing.proofs.Lengths.{bytes-line-long}
use Rattle.printing.proofs.answers.bytes_line.Goals as goal

pub returns : goal.returns
unfolding bytes_line
returns c =
    let v = c.args.v.now in
    printed _ (bytes_line v) _ (bytes-line-long v) (both _ _ _ c.add_bytes-to.ensures c.add.ensures)
