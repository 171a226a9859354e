-- `zvt::fields::read_plain` meets its contract. Assumes nothing.
use Rattle.std.proofs.Common.{sym, ◌∙◌}
use Rattle.basics.proofs.Exits.{handed-on}
use Rattle.zvt.specs.FieldSteps.{decimals_answer}
use Rattle.zvt.proofs.Parts.{of-part}
use Rattle.zvt.proofs.FieldLaws.{plain-bytes, plain-digits, plain-stopped}
use Rattle.zvt.proofs.fields.read_plain.Goals as goal

pub returns-else-holds_digits : goal.returns-else-holds_digits
returns-else-holds_digits c = sym (plain-bytes _ _ _ _ (sym c.holds_digits.ensures ∙ c.if-holds_digits.false))

pub returns-in_err-all_decimal : goal.returns-in_err-all_decimal
returns-in_err-all_decimal c =
    handed-on c.from_residual.ensures.1
    ∙ sym (plain-stopped _ _ _ _ _ (sym c.holds_digits.ensures ∙ c.if-holds_digits.true)
    (of-part decimals_answer c.between.ensures c.in_err-all_decimal.ensures))

pub returns-in_ok-all_decimal : goal.returns-in_ok-all_decimal
returns-in_ok-all_decimal c =
    sym (plain-digits _ _ _ _ (sym c.holds_digits.ensures ∙ c.if-holds_digits.true)
    (of-part decimals_answer c.between.ensures c.in_ok-all_decimal.ensures))
