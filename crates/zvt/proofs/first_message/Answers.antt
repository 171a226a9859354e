-- `zvt::first_message` meets its contract. Assumes nothing.
use Rattle.std.proofs.Common.{sym, ap, ◌∙◌, arith}
use Rattle.basics.proofs.Exits.{handed-on}
use Rattle.zvt_rules.specs.Message.{first_of, header_of}
use Rattle.zvt_rules.specs.Answers.{first_answer, as_first_answer}
use Rattle.zvt.proofs.Slices.{bytes-known}
use Rattle.zvt.proofs.HeaderLaws.{first-within}
use Rattle.zvt.proofs.BodyLaws.{body-read, body-refused}
use Rattle.zvt.proofs.MessageLaws.{no_header, no_body, accepted}
use Rattle.zvt.proofs.first_message.Goals as goal

pub body_in-requires : goal.body_in-requires
body_in-requires c = first-within _ _ (sym c.in_ok-h.ensures)

pub overflow_add-result : goal.overflow_add-result
overflow_add-result c = let w = first-within _ _ (sym c.in_ok-h.ensures) in omega (arith, w.0, w.1)

pub returns-in_err-h : goal.returns-in_err-h
unfolding first_answer first_of as_first_answer
returns-in_err-h c =
    handed-on c.from_residual.ensures.1 ∙ sym (ap as_first_answer (no_header _ (header_of _) _ (sym c.in_err-h.ensures)))

pub returns-in_err-body : goal.returns-in_err-body
unfolding first_answer first_of as_first_answer
returns-in_err-body c =
    handed-on c.from_residual-in_err-body.ensures.1
    ∙ sym (ap as_first_answer
    (no_body _ (header_of _) _ (sym c.in_ok-h.ensures) _ (body-refused _ _ _ _ (sym c.in_err-body.ensures))))

pub returns : goal.returns
unfolding first_answer first_of as_first_answer
returns c =
    let (read, lie) = body-read _ _ _ _ (sym c.in_ok-body.ensures) in
    let (m, first, outline, size, lies) =
    accepted _ (header_of _) _ (sym c.in_ok-h.ensures) (λ _ e. e) (bytes-known _ c.type_inv.s) _ read in
    rw (c.outline_of.ensures, ← outline, ← size) (sym (ap as_first_answer first))
