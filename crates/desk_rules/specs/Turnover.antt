-- P34: "Net turnover is the settled amounts of approved sales less those of approved refunds and reversals. It may be negative."
-- Definitions only.
use Rattle.std.specs.Prelude.{List, ℕ, ℤ, pos, ◌-ℤ◌}
use Rattle.basics.specs.Choice.{pick}
use Rattle.desk_rules.specs.declared.Kind.{Kind}
use Rattle.desk_rules.specs.declared.Kind.TheVariants.{Sale, Refund, Reversal}
use Rattle.desk_rules.specs.declared.Line.{Line}
use Rattle.desk_rules.specs.Kinds.{is_approved}
use Rattle.desk_rules.specs.Runs.{total}

-- "the settled amounts of approved" lines
abbrev pub counted : Line → ℕ
counted l = pick (is_approved l.outcome) l.settled 0

-- what so much adds to the turnover, and what it takes away, by the kind of its line
abbrev pub adds : Kind → ℕ → ℕ
adds Sale n = n
adds Refund n = 0
adds Reversal n = 0

abbrev pub takes : Kind → ℕ → ℕ
takes Sale n = 0
takes Refund n = n
takes Reversal n = n

abbrev pub gain : Line → ℕ
gain l = adds l.kind (counted l)

abbrev pub loss : Line → ℕ
loss l = takes l.kind (counted l)

abbrev pub gains : List Line → ℕ
gains ls = total gain ls

abbrev pub losses : List Line → ℕ
losses ls = total loss ls

unfoldable pub net_of : List Line → ℤ
net_of ls = pos (gains ls) -ℤ pos (losses ls)
