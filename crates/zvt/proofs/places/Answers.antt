-- `zvt::places` meets its contract. Assumes nothing.
use Rattle.std.proofs.Common.{◌≡◌, length, sym, ap, ◌∙◌, rules}
use Rattle.zvt_rules.specs.Listed.{places_answer}
use Rattle.zvt.proofs.MessageLaws.{places_by, no-places}
use Rattle.zvt.proofs.AskingLaws.{found-read, found-refused}
use Rattle.zvt.proofs.places.Goals as goal

pub returns-in-Err : goal.returns-in-Err
unfolding places_answer
returns-in-Err c =
    let size : length c.args.ids ≡ 4 = search rules in
    sym (ap (places_by c.args.ids) (found-refused _ _ _ (sym c.in-Err.ensures)) ∙ no-places _ _ size)

pub returns-in-Ok : goal.returns-in-Ok
returns-in-Ok c = sym (found-read _ _ _ (sym c.in-Ok.ensures)).1
