-- `desk::close` meets its contract. Assumes nothing.
use Rattle.std.proofs.Common.{sym, ◌∙◌}
use Rattle.zvt_rules.specs.Reading.{unplaced}
use Rattle.desk_rules.specs.Memory.{close_answer}
use Rattle.desk.proofs.CallLaws.{valid-refused}
use Rattle.desk.proofs.DeskLaws.{idle-all}
use Rattle.desk.proofs.close.Goals as goal

pub returns-then-not-all_idle : goal.returns-then-not-all_idle
unfolding close_answer
returns-then-not-all_idle c =
    record {
      answer = c.refused.ensures ∙ rw (sym (c.all_idle.ensures ∙ idle-all c.args.desk.lanes) ∙ c.if-not-all_idle.true);
      valid = valid-refused _ _ (unplaced 19) c.requires c.refused.ensures;
    }

pub returns : goal.returns
unfolding close_answer
returns c =
    record { answer = rw (sym (c.all_idle.ensures ∙ idle-all c.args.desk.lanes) ∙ c.if-not-all_idle.false, c.fresh.ensures.answer); valid = c.fresh.ensures.valid }
