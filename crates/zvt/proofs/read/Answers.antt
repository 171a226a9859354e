-- `zvt::read` meets its contract. Assumes nothing.
use Rattle.std.proofs.Common.{sym, ap, ◌∙◌}
use Rattle.basics.proofs.Exits.{handed-on}
use Rattle.zvt_rules.specs.Answers.{read_answer, as_read_answer}
use Rattle.zvt.proofs.AskingLaws.{found-read, found-refused}
use Rattle.zvt.proofs.read.Goals as goal

pub returns-in_err-message : goal.returns-in_err-message
unfolding read_answer as_read_answer
returns-in_err-message c =
    handed-on c.from_residual.ensures.1 ∙ sym (ap as_read_answer (found-refused _ _ _ (sym c.in_err-message.ensures)))

pub returns : goal.returns
returns c = sym (found-read _ _ _ (sym c.in_ok-message.ensures)).0
