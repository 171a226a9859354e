-- `desk::opening_in` meets its contract. Assumes nothing.
use mathlib.Core.Path.{sym, ◌∙◌}
use Rattle.desk_rules.proofs.Recognised.{opening-short, opening-outside, opening-other, opening-met}
use Rattle.desk.proofs.opening_in.Goals as goal
use Rattle.desk.proofs.opening_in.Goals.{else-within_limits-via-then-within_limits+else-is_command, else-within_limits-via-else-within_limits}

pub returns-then-s-gt-MOST_COMMAND : goal.returns-then-s-gt-MOST_COMMAND
returns-then-s-gt-MOST_COMMAND c = sym (opening-short _ c.if-s-gt-MOST_COMMAND.true)

pub returns-then-is_command : goal.returns-then-is_command
returns-then-is_command c =
    let limits = sym c.within_limits.ensures ∙ c.if-within_limits.true in
    sym (opening-met _ _ c.would_open-opening.ensures limits (sym c.is_command.ensures ∙ c.if-is_command.true))

pub returns-else-within_limits : goal.returns-else-within_limits
returns-else-within_limits c =
    let o = c.would_open-opening.ensures in
    elim c.else-within_limits.branch [
      | else-within_limits-via-then-within_limits+else-is_command w ↦ sym (opening-other _ _ o (sym w.is_command.ensures ∙ w.if-is_command.false))
      | else-within_limits-via-else-within_limits w ↦ sym (opening-outside _ _ o (sym c.within_limits.ensures ∙ w.if-within_limits.false))
    ]
