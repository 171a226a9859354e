-- `desk::hear::heard` meets its contract. Assumes nothing.
use Rattle.std.proofs.Common.{sym, ◌∙◌, rules}
use Rattle.zvt.proofs.Slices.{bytes-known}
use Rattle.desk_rules.specs.Course.{heard, heard_by}
use Rattle.desk.proofs.HearLaws.{waiting-refused, running-refused, heard-running, heard-waiting}
use Rattle.desk.proofs.hear.heard.Goals as goal

pub returns-in-Idle : goal.returns-in-Idle
unfolding heard heard_by
returns-in-Idle c = search rules

pub returns-in_err-hear-in-Waiting : goal.returns-in_err-hear-in-Waiting
returns-in_err-hear-in-Waiting c =
    rw (waiting-refused c.args.l c.args.s.now _ (sym c.in_err-hear-in-Waiting.ensures) c.in-Waiting.is) (search rules)

pub returns-in_err-hear-in-Running : goal.returns-in_err-hear-in-Running
returns-in_err-hear-in-Running c =
    rw (running-refused c.args.l c.args.s.now _ (sym c.in_err-hear-in-Running.ensures) c.in-Running.is) (search rules)

pub returns-in_ok-hear-in-Waiting : goal.returns-in_ok-hear-in-Waiting
returns-in_ok-hear-in-Waiting c =
    c.heard_waiting.ensures ∙ sym (heard-waiting _ _ _ (sym c.in_ok-hear-in-Waiting.ensures) c.in-Waiting.is)

pub returns-in_ok-hear-in-Running : goal.returns-in_ok-hear-in-Running
returns-in_ok-hear-in-Running c =
    c.heard_running.ensures ∙ sym (heard-running _ _ _ (sym c.in_ok-hear-in-Running.ensures) (bytes-known _ c.type_inv.s) c.in-Running.is)
