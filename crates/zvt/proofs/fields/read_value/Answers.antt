-- `zvt::fields::read_value` meets its contract. Assumes nothing.
use Rattle.std.proofs.Common.{refl, sym, ap, ◌∙◌, false, Ok}
use Rattle.std.proofs.lemmas.Bool.{not-true, not-false}
use Rattle.basics.proofs.Exits.{handed-on}
use Rattle.zvt.specs.ObjectSteps.{run_answer}
use Rattle.zvt.proofs.Parts.{part-bytes, of-part}
use Rattle.zvt.proofs.FieldReads.{Answered, field-value, field_plain, field-no-inner, field-container}
use Rattle.zvt.proofs.fields.read_value.Goals as goal
use Rattle.zvt.proofs.fields.read_value.Goals.{In_ok-r}

-- the run of a container that was read
is-container : (c : In_ok-r) → Answered false c.args.n c.args.p.at c.args.p.bytes.now c.args.b c.in_ok-r.r.objects c.in_ok-r.r.spare
is-container c =
    field-container _ _ _ _ refl _ c.requires.1 (not-false _ c.if-not-b.false) (part-bytes c.args.p) _
    (of-part (run_answer _ _) c.between.ensures c.in_ok-r.ensures)

pub read_plain-requires : goal.read_plain-requires
read_plain-requires c = let h = field-value _ _ _ c.requires.1 in (c.requires.0, h.0, h.1)

pub returns-then-not-b : goal.returns-then-not-b
returns-then-not-b c = c.read_plain.ensures ∙ sym (field_plain _ _ _ _ refl _ c.requires.1 (not-true _ c.if-not-b.true))

pub between-requires : goal.between-requires
between-requires c = field-value _ _ _ c.requires.1

pub tally_of-requires : goal.tally_of-requires
tally_of-requires c = (is-container c).0

pub returns-in_err-r : goal.returns-in_err-r
returns-in_err-r c =
    handed-on c.from_residual.ensures.1 ∙ sym (field-no-inner _ _ _ _ refl _ c.requires.1 (not-false _ c.if-not-b.false) _
    (of-part (run_answer _ _) c.between.ensures c.in_err-r.ensures))

pub returns : goal.returns
returns c = ap Ok c.tally_of.ensures ∙ sym (is-container (goal.at.returns c).In_ok-r).1
