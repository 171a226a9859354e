-- `zvt::body::read_secured` meets its contract. Assumes nothing.
use Rattle.std.proofs.Common.{◌≡◌, take, add-zero, ap, ◌∙◌, Err}
use Rattle.basics.proofs.Exits.{handed-on}
use Rattle.zvt.specs.FieldSteps.{decimals_answer, list_located}
use Rattle.zvt.proofs.Parts.{part-bytes, of-part}
use Rattle.zvt.proofs.BodyLaws.{secured-cut, secured-undecimal, secured-body, body-stopped, secured-located, secured-stopped}
use Rattle.zvt.proofs.body.read_secured.Goals as goal
use Rattle.zvt.proofs.body.read_secured.Goals.{After-between}

password : (c : After-between) → record { at : c.between.result.at ≡ c.args.p.at; bytes : c.between.result.bytes.now ≡ take 3 c.args.p.bytes.now }
password c = record { at = c.between.ensures.at ∙ add-zero _; bytes = c.between.ensures.bytes }

pub returns-then-size-lt3 : goal.returns-then-size-lt3
returns-then-size-lt3 c =
    ap Err c.fault.ensures ∙ body-stopped _ _ _ _ _ (secured-body _ _ ∙ secured-cut _ _ c.if-size-lt3.true)

pub returns-in_err-all_decimal : goal.returns-in_err-all_decimal
returns-in_err-all_decimal c =
    let read = of-part decimals_answer (password (goal.at.returns-in_err-all_decimal c).After-between) c.in_err-all_decimal.ensures in
    handed-on c.from_residual.ensures.1
    ∙ body-stopped _ _ _ _ _ (secured-body _ _ ∙ secured-undecimal _ _ c.if-size-lt3.false _ read)

pub returns-in_err-list : goal.returns-in_err-list
returns-in_err-list c =
    let read = of-part decimals_answer (password (goal.at.returns-in_err-list c).After-between) c.in_ok-all_decimal.ensures in
    handed-on c.from_residual-in_err-list.ensures.1
    ∙ secured-stopped _ _ _ c.if-size-lt3.false (part-bytes c.args.p) read _ (of-part (list_located _) c.behind-rest.ensures c.in_err-list.ensures)

pub returns : goal.returns
returns c =
    let read = of-part decimals_answer (password (goal.at.returns c).After-between) c.in_ok-all_decimal.ensures in
    rw c.behind-rest.ensures.at
    (secured-located _ _ _ c.if-size-lt3.false (part-bytes c.args.p) read _ (of-part (list_located _) c.behind-rest.ensures c.in_ok-list.ensures))
