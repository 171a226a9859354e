-- `zvt::values::code_at` meets its contract. Assumes nothing.
use Rattle.std.proofs.Common.{sym, ap, arith, Some}
use Rattle.zvt_rules.specs.Values.{code_of}
use Rattle.zvt.proofs.ListedLaws.{part-first}
use Rattle.zvt.proofs.values.code_at.Goals as goal

pub returns-in_err-at : goal.returns-in_err-at
unfolding code_of
returns-in_err-at c = rw (c.from_residual.ensures, c.in_err-at.was)

pub returns : goal.returns
unfolding code_of
returns c =
    let (inside, size) = c.requires _ c.in_ok-at.was in
    rw c.in_ok-at.was (sym (ap Some (part-first _ _ _ (omega arith) inside (omega arith))))
