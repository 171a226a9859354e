-- `message_size` meets its contract. Assumes nothing.
use native.Mathlib.Omega.{arith}
use borrow.Author.Tests.{lt-leb, le-leb}
use Rattle.zvt_rules.specs.believed.Writing.{length_bytes}
use Rattle.zvt.specs.WritingSteps.{header_bytes}
use Rattle.zvt.proofs.writing.message_size.Goals as goal

pub returns-then-v-lt255 : goal.returns-then-v-lt255
unfolding header_bytes length_bytes
returns-then-v-lt255 c = rw (lt-leb 255 c.args.v c.if-v-lt255.true) (omega arith)

pub returns-else-v-lt255 : goal.returns-else-v-lt255
unfolding header_bytes length_bytes
returns-else-v-lt255 c = rw (le-leb 255 c.args.v c.if-v-lt255.false) (omega arith)
