-- `split::word`: the piece of that number. Assumes nothing.
use Rattle.std.proofs.Common.{rules, tests, ◌≡◌, ◌∙◌, ℕ, List, [], refl, ap}
use Rattle.std.specs.Prelude.{◌==◌, Option, Some, None}
use Rattle.std.specs.Option.{option_map, unwrap_or}
use Rattle.std.specs.Borrow.{Bor}
use Rattle.std.proofs.lemmas.Option.{unwrap_or-slice_get}
use Rattle.std.proofs.lemmas.Iterator.Consumers.{nth_from_yields_List}
use Rattle.std.proofs.lemmas.Iterator.Splits.{YieldsList-from_slice_split}
use Rattle.words.specs.Split.{words_of, word_of}
use Rattle.words.proofs.split.word.Goals as goal

or_nothing : (o : Option (Bor (List ℕ))) (d : Bor (List ℕ)) → d.now ≡ [] → (unwrap_or o d).now ≡ unwrap_or (option_map (λ x. x.now) o) []
or_nothing None d e = e
or_nothing (Some x) d e = refl

pub returns : goal.returns
unfolding word_of words_of
returns c =
    let s = c.args.s.now in
    let found = nth_from_yields_List c.nth.result c.nth.new.self c.args.k c.nth.ensures.ran
    (YieldsList-from_slice_split _ (λ b. b == 32) s c.split.ensures.rest c.split.ensures.done c.split.ensures.closure (λ x r q k. search (rules, tests))) in
    ap (λ x. x.now) c.unwrap_or.ensures
    ∙ or_nothing c.nth.result _ refl
    ∙ ap (λ (o : Option (List ℕ)). unwrap_or o []) found
    ∙ unwrap_or-slice_get _ c.args.k []
