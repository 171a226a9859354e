-- Laws of the words of a line. Assumes nothing.
use Rattle.std.proofs.Common.{◌≡◌, ℕ, ◌+◌, ◌-◌, List, [], ◌∷◌, get_or, take, drop, refl, sym, ap, ◌∙◌, arith}
use Rattle.std.specs.Prelude.{◌==◌, count_by}
use Rattle.std.specs.List.{slice_split, onto_first}
use Rattle.std.proofs.lemmas.List.Splits.{length-slice_split}
use lib.Dec.{eqb}
use Rattle.basics.specs.Lists.{index_of}
use Rattle.basics.proofs.Tests.{by-test}
use Rattle.words.specs.Split.{words_of, following, word_of}

-- a word follows each blank
pub blanks : (s : List ℕ) → count_by (λ b. b == 32) s ≡ following s
unfolding following words_of
blanks s = omega (arith, length-slice_split (λ b. b == 32) s)

-- the first word ends at the first blank, and so does each from where it begins
first_of : (b : ℕ) (ws : List (List ℕ)) → get_or (onto_first b ws) 0 [] ≡ b ∷ get_or ws 0 []
first_of b [] = refl
first_of b (w ∷ ws) = refl

first_word : (s : List ℕ) → word_of 0 s ≡ take (index_of 32 s) s
unfolding word_of words_of index_of
first_word [] = refl
first_word (b ∷ s) =
    by-test (eqb b 32) (λ t. rw t)
    (λ t. rw t (first_of b (slice_split (λ c. c == 32) s) ∙ ap (λ (w : List ℕ). b ∷ w) (first_word s)))

pub word-found : (s : List ℕ) (k from to : ℕ) → to ≡ from + index_of 32 (drop from s) → word_of 0 (drop from s) ≡ word_of k s
    → take (to - from) (drop from s) ≡ word_of k s
word-found s k from to e f =
    let size : to - from ≡ index_of 32 (drop from s) = omega (arith, e) in
    rw size (sym (first_word (drop from s)) ∙ f)
