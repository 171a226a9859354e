-- `zvt::fields::read_field` meets its contract. Assumes nothing.
use Rattle.std.proofs.Common.{◌≡◌, refl, sym, ap, ◌∙◌, false, Err}
use Rattle.basics.proofs.Exits.{handed-on}
use Rattle.zvt_rules.specs.declared.Format.{Format}
use Rattle.zvt_rules.specs.declared.Format.TheVariants.{Unknown, Fixed, Digits, Container}
use Rattle.zvt_rules.specs.Fields.{unknown}
use Rattle.zvt.proofs.Parts.{part-bytes, at-start}
use Rattle.zvt.proofs.FieldReads.{field-unknown, field-twice, field-no-bounds, value-from, field-located, field-stopped}
use Rattle.zvt.proofs.fields.read_field.Goals as goal

-- a format other than the first
known : (f : Format) → (f ≡ Unknown → ⊥) → unknown f ≡ false
unfolding unknown
known Unknown h = absurd (h refl)
known (Fixed k) h = refl
known (Digits d) h = refl
known Container h = refl

pub returns-in-Unknown : goal.returns-in-Unknown
returns-in-Unknown c = ap Err (at-start c.fault.ensures) ∙ field-stopped _ _ _ _ _ (field-unknown _ _ _ _ (sym c.in-Unknown.ensures))

pub returns-then-twice : goal.returns-then-twice
returns-then-twice c =
    ap Err (at-start c.fault-then-twice.ensures) ∙ field-stopped _ _ _ _ _
    (field-twice _ _ _ _ (ap unknown (sym c.format_of-format.ensures) ∙ known _ c.in_default.not-Unknown) c.if-twice.true)

pub returns-in_err-b : goal.returns-in_err-b
returns-in_err-b c =
    handed-on c.from_residual.ensures.1
    ∙ field-stopped _ _ _ _ _ (field-no-bounds _ _ _ _ c.if-twice.false _ (sym c.in_err-b.ensures))

pub returns-in_err-read_value : goal.returns-in_err-read_value
returns-in_err-read_value c =
    handed-on c.from_residual-in_err-read_value.ensures.1
    ∙ rw c.if-twice.false (field-stopped _ _ _ _ _ (sym c.in_err-read_value.ensures))

pub returns : goal.returns
returns c =
    rw c.if-twice.false
    (field-located _ _ _ _ _ _ (sym c.in_ok-read_value.ensures) (value-from _ _ _ (part-bytes c.args.p) _ (sym c.in_ok-b.ensures)))
