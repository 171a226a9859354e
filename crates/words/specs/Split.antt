-- The words of a line. TRIAL.md: "One blank stands between two words, and none before the first or behind the last." Definitions only.
use Rattle.std.specs.Prelude.{ℕ, ◌-◌, ◌==◌, List, [], length, get_or}
use Rattle.std.specs.List.{slice_split}

-- what lies between the blanks
unfoldable pub words_of : List ℕ → List (List ℕ)
words_of s = slice_split (λ b. b == 32) s

-- how many follow the first
unfoldable pub following : List ℕ → ℕ
following s = length (words_of s) - 1

-- word number k, the first being number 0; no bytes where there is none
unfoldable pub word_of : ℕ → List ℕ → List ℕ
word_of k s = get_or (words_of s) k []
