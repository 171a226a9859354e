-- `zvt::told::told_behind` meets its contract. Assumes nothing.
use mathlib.Core.Path.{sym, ap, ◌∙◌}
use Rattle.std.proofs.Common.{Ok}
use Rattle.basics.proofs.Exits.{handed-on}
use Rattle.zvt_rules.specs.declared.Places.{Places}
use Rattle.zvt_rules.specs.Message.{whole_header, read_of}
use Rattle.zvt_rules.specs.Answers.{as_read_answer, read_answer}
use Rattle.zvt_rules.specs.Listed.{spans_of, places_answer}
use Rattle.zvt_rules.specs.Heard.{told_answer}
use Rattle.zvt.specs.ValueSteps.{status_ids}
use Rattle.zvt.proofs.HeaderLaws.{whole-first, whole-within}
use Rattle.zvt.proofs.Slices.{bytes-known}
use Rattle.zvt.proofs.MessageLaws.{no_body, accepted}
use Rattle.zvt.proofs.BodyLaws.{body-read, body-refused}
use Rattle.zvt.proofs.told.told_behind.Goals as goal

pub told_in-requires : goal.told_in-requires
unfolding read_answer read_of as_read_answer places_answer
told_in-requires c =
    let bytes = bytes-known c.args.s.now c.type_inv.s in
    let (whole, lie) = body-read _ _ _ _ (sym c.in_ok-body.ensures) in
    let (m, read, outline, size, lies) = accepted _ (whole_header _) _ c.requires (whole-first _) bytes _ whole in (
      (bytes, ap as_read_answer read ∙ ap Ok (outline ∙ sym c.outline_of.ensures)),
      record {
        bytes = bytes;
        fields =
            ap (λ (p : Places). p.fields) (lies _ _ lie) ∙ ap (λ x. spans_of x status_ids) (sym read);
      },
    )

pub returns-in_err-body : goal.returns-in_err-body
unfolding read_of told_answer
returns-in_err-body c =
    handed-on c.from_residual.ensures.1 ∙ sym (ap told_answer (no_body _ (whole_header _) _ c.requires _ (body-refused _ _ _ _ (sym c.in_err-body.ensures))))

pub body_in-requires : goal.body_in-requires
body_in-requires c = whole-within _ _ c.requires
