-- `zvt::field` meets its contract. Assumes nothing.
use Rattle.std.proofs.Common.{sym, ap, ◌∙◌, get_or, None, Ok}
use Rattle.basics.proofs.Exits.{handed-on}
use Rattle.zvt_rules.specs.declared.Places.{Places}
use Rattle.zvt_rules.specs.Listed.{field_answer, asked_of}
use Rattle.zvt.proofs.Slices.{bytes-known}
use Rattle.zvt.proofs.AskingLaws.{answer-placed, found-read, found-refused}
use Rattle.zvt.proofs.field.Goals as goal

pub returns-in_err-message : goal.returns-in_err-message
unfolding field_answer asked_of
returns-in_err-message c =
    handed-on c.from_residual.ensures.1 ∙ sym (ap (asked_of c.args.id) (found-refused _ _ _ (sym c.in_err-message.ensures)))

pub returns : goal.returns
returns c =
    let (read, places) = found-read _ _ _ (sym c.in_ok-message.ensures) in
    ap (λ (p : Places). Ok (get_or p.fields 0 None)) (sym places) ∙ answer-placed _ (bytes-known _ c.type_inv.s) _ _ read _
