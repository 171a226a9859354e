-- What stands in a list, and what a slice of bytes is. Definitions only.
use Rattle.std.specs.Prelude.{◌≡◌, List, ◌∷◌, ◌++◌, ℕ, ◌<◌, get_or}

-- x stands in a list
abbrev pub In : {A : Type 0} → A → List A → Type 0
In {A} x xs = (before : List A) × (after : List A) × (xs ≡ before ++ (x ∷ after))

-- every element a byte: what a slice of bytes is
unfoldable pub Bytes : List ℕ → Type 0
Bytes s = (i : ℕ) → get_or s i 0 < 256
