-- `buffers::find`: the search of the rest is `index_of` of it. Assumes nothing.
use Rattle.std.proofs.Common.{rules, tests, arith, ◌≡◌, ℕ, ◌+◌, ◌-◌, ◌∙◌, List, [], ◌∷◌, min, length, take, drop, ap, length-drop}
use Rattle.std.proofs.lemmas.List.{take_all, drop_min}
use Rattle.std.proofs.lemmas.Iterator.{YieldsList-from_slice}
use Rattle.std.proofs.lemmas.Iterator.Search.{position_from_yields_List}
use Rattle.std.specs.Prelude.{position, ◌==◌}
use Rattle.std.specs.Option.{unwrap_or}
use Rattle.basics.specs.Lists.{index_of}
use Rattle.buffers.proofs.find.Goals as goal

index-is : (b : ℕ) (s : List ℕ) → unwrap_or (position (λ x. x == b) s) (length s) ≡ index_of b s
unfolding index_of
index-is b [] = grind arith
index-is b (x ∷ s) = grind (arith, index-is b s)

-- what lies behind a place, or nothing where that lies behind the end
behind : (s : List ℕ) (from k : ℕ) → k ≡ min from (length s) → take (length s - k) (drop k s) ≡ drop from s
behind s from k e = take_all _ _ (omega (arith, length-drop k s)) ∙ rw e (drop_min from s)

pub returns-clause-place : goal.returns-clause-place
returns-clause-place c =
    let s = c.args.s.now in
    let k = c.upto.result in
    let b = c.args.b in
    let rest = take (length s - k) (drop k s) in
    let ran : c.position.result ≡ position (λ x. x == b) rest =
    position_from_yields_List _ _ _ _ c.position.ensures.ran (YieldsList-from_slice rest c.iter.ensures.rest) (λ x b q k. search (rules, tests)) in
    let whole : rest ≡ drop c.args.from s = behind s c.args.from k c.upto.ensures.least in
    ap (λ n. c.args.from + n) (rw (ran, index-is b rest) at c.unwrap_or.ensures ∙ ap (index_of b) whole)
