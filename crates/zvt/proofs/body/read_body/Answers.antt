-- `zvt::body::read_body` meets its contract. Assumes nothing.
use Rattle.std.proofs.Common.{◌≡◌, length, sym, ◌∙◌, rules}
use Rattle.basics.proofs.Exits.{handed-on}
use Rattle.zvt.proofs.Parts.{part-bytes}
use Rattle.zvt.proofs.BodyLaws.{plain-located, listed-located, listed-stopped}
use Rattle.zvt.proofs.body.read_body.Goals as goal

pub returns-in-Plain : goal.returns-in-Plain
returns-in-Plain c =
    let size : length c.args.ids ≡ 4 = search rules in
    rw c.in-Plain.is (plain-located _ _ _ size)

pub returns-in_err-list-in-List : goal.returns-in_err-list-in-List
returns-in_err-list-in-List c =
    handed-on c.from_residual.ensures.1
    ∙ rw c.in-List.is (listed-stopped _ _ _ _ (part-bytes c.args.p) (sym c.in_err-list-in-List.ensures))

pub returns-in_ok-list-in-List : goal.returns-in_ok-list-in-List
returns-in_ok-list-in-List c =
    rw c.in-List.is (listed-located _ _ _ _ (part-bytes c.args.p) (sym c.in_ok-list-in-List.ensures))
