-- `zvt::asking::ask` meets its contract. Assumes nothing.
use Rattle.std.proofs.Common.{sym, ◌∙◌}
use Rattle.basics.proofs.Exits.{handed-on}
use Rattle.zvt_rules.specs.Message.{read_of, whole_header}
use Rattle.zvt.proofs.Slices.{bytes-known}
use Rattle.zvt.proofs.HeaderLaws.{whole-first, whole-within}
use Rattle.zvt.proofs.BodyLaws.{body-read, body-refused}
use Rattle.zvt.proofs.MessageLaws.{no_header, no_body, accepted}
use Rattle.zvt.proofs.AskingLaws.{refused-found, message-found}
use Rattle.zvt.proofs.asking.ask.Goals as goal

pub body_in-requires : goal.body_in-requires
body_in-requires c = whole-within _ _ (sym c.in_ok-h.ensures)

pub returns-in_err-h : goal.returns-in_err-h
unfolding read_of
returns-in_err-h c =
    handed-on c.from_residual.ensures.1 ∙ refused-found _ _ _ (no_header _ (whole_header _) _ (sym c.in_err-h.ensures))

pub returns-in_err-body : goal.returns-in_err-body
unfolding read_of
returns-in_err-body c =
    handed-on c.from_residual-in_err-body.ensures.1
    ∙ refused-found _ _ _
    (no_body _ (whole_header _) _ (sym c.in_ok-h.ensures) _ (body-refused _ _ _ _ (sym c.in_err-body.ensures)))

pub returns : goal.returns
unfolding read_of
returns c =
    let (read, lie) = body-read _ _ _ _ (sym c.in_ok-body.ensures) in
    let (m, is, outline, size, lies) =
    accepted _ (whole_header _) _ (sym c.in_ok-h.ensures) (whole-first _) (bytes-known _ c.type_inv.s) _ read in
    message-found _ _ m _ _ is (c.outline_of.ensures ∙ sym outline) (lies _ _ lie)
