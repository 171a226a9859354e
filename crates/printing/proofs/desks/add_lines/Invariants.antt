-- `printing::desks::add_lines`. The loop's invariant: the lines behind the first k, written behind the text so far, come to all of them, and
-- k lines have at most 76 bytes each. Assumes nothing.
use Prim.Native.Nat.{◌+◌, ◌*◌}
use lib.ListN.{drop}
use Rattle.basics.specs.Lists.{numbered}
use Rattle.desk_rules.specs.Memory.{lines_of_desk}
use Rattle.printing.specs.Desks.{line_text, lines_text}
use Rattle.printing.proofs.Listed.{Telling}
use Rattle.printing.proofs.desks.add_lines.Given as goal

abbrev pub invariant-loop-k : goal.invariant-loop-k
invariant-loop-k l =
    let ls = lines_of_desk l.desk in Telling (lines_text ls) l.initial.out (numbered line_text (l.k + 1) (drop l.k ls)) (76 * l.k) l.to l.out
