-- `zvt::fields::field_bounds` meets its contract. Assumes nothing.
use Rattle.std.proofs.Common.{true, false, ◌+◌, sym, ap, ◌∙◌, arith, Err}
use Rattle.basics.proofs.Exits.{handed-on}
use Rattle.zvt.specs.ObjectSteps.{len_answer}
use Rattle.zvt.specs.FieldSteps.{digits_answer}
use Rattle.zvt.proofs.Parts.{at-start, of-part}
use Rattle.zvt.proofs.FieldLaws.{Begins, digits-few, bounds-unknown, bounds-fixed, bounds-no-digits, bounds-digits}
use Rattle.zvt.proofs.FieldLaws.{bounds-no-length, bounds-length}
use Rattle.zvt.proofs.fields.field_bounds.Goals.{In_ok-v-in-Digits, In_ok-size-in-Container}
use Rattle.zvt.proofs.fields.field_bounds.Goals as goal

-- where the value begins, once the length is read
behind-digits : (c : In_ok-v-in-Digits) → Begins c.args.p.at c.args.p.bytes.now (1 + c.in-Digits.d) c.in_ok-v-in-Digits.v false
behind-digits c =
    bounds-digits _ _ _ (sym c.requires.1 ∙ c.in-Digits.is) c.requires.0 _
    (of-part (digits_answer _) c.behind.ensures c.in_ok-v-in-Digits.ensures)

behind-length : (c : In_ok-size-in-Container)
    → Begins c.args.p.at c.args.p.bytes.now (1 + c.in_ok-size-in-Container.size) c.in_ok-size-in-Container.v true
behind-length c =
    bounds-length _ _ (sym c.requires.1 ∙ c.in-Container.is) c.requires.0 _ _
    (of-part len_answer c.behind-in-Container.ensures c.in_ok-size-in-Container.ensures)

pub digits_of-requires : goal.digits_of-requires
digits_of-requires c = digits-few _ _ (c.args.p.are_bytes 0) (sym c.requires.1 ∙ c.in-Digits.is)

pub returns-in-Unknown : goal.returns-in-Unknown
returns-in-Unknown c = ap Err (at-start c.fault.ensures) ∙ sym (bounds-unknown _ _ (sym c.requires.1 ∙ c.in-Unknown.is))

pub returns-in-Fixed : goal.returns-in-Fixed
returns-in-Fixed c = c.bounds_in.ensures ∙ sym (bounds-fixed _ _ _ (sym c.requires.1 ∙ c.in-Fixed.is))

pub returns-in_err-v-in-Digits : goal.returns-in_err-v-in-Digits
returns-in_err-v-in-Digits c =
    handed-on c.from_residual.ensures.1
    ∙ sym (bounds-no-digits _ _ _ (sym c.requires.1 ∙ c.in-Digits.is) _
    (of-part (digits_answer _) c.behind.ensures c.in_err-v-in-Digits.ensures))

pub returns-in_ok-v-in-Digits : goal.returns-in_ok-v-in-Digits
returns-in_ok-v-in-Digits c = c.bounds_in-in-Digits.ensures ∙ sym (behind-digits (goal.at.returns-in_ok-v-in-Digits c).In_ok-v-in-Digits).1

pub returns-in_err-size-in-Container : goal.returns-in_err-size-in-Container
returns-in_err-size-in-Container c =
    handed-on c.from_residual-in_err-size-in-Container.ensures.1
    ∙ sym (bounds-no-length _ _ (sym c.requires.1 ∙ c.in-Container.is) _
    (of-part len_answer c.behind-in-Container.ensures c.in_err-size-in-Container.ensures))

pub returns-in_ok-size-in-Container : goal.returns-in_ok-size-in-Container
returns-in_ok-size-in-Container c =
    c.bounds_in-in-Container.ensures ∙ sym (behind-length (goal.at.returns-in_ok-size-in-Container c).In_ok-size-in-Container).1

pub overflow_add-d : goal.overflow_add-d
overflow_add-d c = let h = behind-digits (goal.at.overflow_add-d c).In_ok-v-in-Digits in omega arith

pub bounds_in-requires-in-Digits : goal.bounds_in-requires-in-Digits
bounds_in-requires-in-Digits c = (behind-digits (goal.at.bounds_in-requires-in-Digits c).In_ok-v-in-Digits).0

pub overflow_add-size : goal.overflow_add-size
overflow_add-size c = let h = behind-length (goal.at.overflow_add-size c).In_ok-size-in-Container in omega arith

pub bounds_in-requires-in-Container : goal.bounds_in-requires-in-Container
bounds_in-requires-in-Container c = (behind-length (goal.at.bounds_in-requires-in-Container c).In_ok-size-in-Container).0
