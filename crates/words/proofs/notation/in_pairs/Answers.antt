-- `notation::in_pairs`: each is a hex digit, and they are even in number. Assumes nothing.
use Rattle.std.proofs.Common.{rules, tests, sym, ◌∙◌}
use Rattle.std.proofs.lemmas.Iterator.{YieldsList-from_slice}
use Rattle.std.proofs.lemmas.Iterator.Search.{all_from_yields_List}
use Rattle.words.specs.Notation.{is_hex, in_pairs}
use Rattle.words.proofs.notation.in_pairs.Goals as goal

pub returns-then-all : goal.returns-then-all
unfolding in_pairs
returns-then-all c =
    let all = all_from_yields_List is_hex _ _ c.all.result c.all.ensures.ran (YieldsList-from_slice c.args.w.now c.iter.ensures.rest) (λ x b q k. search (rules, tests)) in
    rw (sym all ∙ c.if-all.true)
