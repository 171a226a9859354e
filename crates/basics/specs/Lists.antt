-- Parts of a list, what stands in one, and one made of numbered parts. Definitions only.
use Rattle.std.specs.Prelude.{ℕ, suc, ◌+◌, ◌-◌, Bool, false, ◌||◌, List, [], ◌∷◌, ◌++◌, take, drop, eqb}
use Rattle.basics.specs.Choice.{pick}

-- from place a up to, not including, place e
abbrev pub part : ℕ → ℕ → List ℕ → List ℕ
part a e s = take (e - a) (drop a s)

-- one of a list of numbers
unfoldable pub among : List ℕ → ℕ → Bool
among [] x = false
among (k ∷ ks) x = eqb k x || among ks x

-- what is made of each thing and its number, the first of them k, one behind the other
unfoldable pub numbered : {A : Type 0} → (ℕ → A → List ℕ) → ℕ → List A → List ℕ
numbered made k [] = []
numbered made k (x ∷ xs) = made k x ++ numbered made (k + 1) xs

-- the place of the first b, or the length where there is none
unfoldable pub index_of : ℕ → List ℕ → ℕ
index_of b [] = 0
index_of b (c ∷ s) = pick (eqb c b) 0 (suc (index_of b s))
