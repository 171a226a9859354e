-- `desks::add_lines` meets its contract. Assumes nothing.
use mathlib.Core.Path.{sym, ◌∙◌}
use Prim.Native.Nat.{◌+◌, ◌≤◌}
use native.Mathlib.Omega.{arith}
use lib.ListN.{length}
use lib.Seq.{length-take-le}
use Rattle.desk_rules.specs.Memory.{lines_of_desk}
use Rattle.printing.specs.Desks.{line_text}
use Rattle.printing.proofs.Listed.{tells, told, line-next, line-none, numbered-none}
use Rattle.printing.proofs.desks.add_lines.Goals as goal

pub returns-in_default : goal.returns-in_default
returns-in_default c =
    let k = c.loop-k.k in
    let none = line-none line_text (k + 1) k (lines_of_desk c.args.desk) (sym c.line_at.ensures ∙ c.in_default.is) in
    let (same, long) = told none c.loop-k.invariant in
    record { added = same; long = omega arith }

pub loop-k-preserved : goal.loop-k-preserved
loop-k-preserved c =
    let k = c.loop-k.k in
    let next = line-next line_text (k + 1) k (lines_of_desk c.args.desk) _ (sym c.line_at.ensures ∙ c.in-Some.is) in
    tells _ next (omega (arith, c.add_line-to.ensures.long)) c.add_line-to.ensures.added c.loop-k.invariant

pub returns : goal.returns
returns c =
    let k = c.loop-k.k in
    let desk = c.args.desk in
    let within : desk.book.count ≤ length desk.book.lines = omega arith in
    let none = numbered-none line_text (k + 1) k (lines_of_desk desk) (omega (arith, length-take-le desk.book.count desk.book.lines within)) in
    let (same, long) = told none c.loop-k.invariant in
    record { added = same; long = omega arith }
