-- Hex and decimal numbers, a second time: digits are quoted, numbers are what their digits say. Definitions only.
use Rattle.std.specs.Prelude.{◌≡◌, ◌⊎◌, List, [], ◌∷◌, ℕ, ◌+◌, ◌*◌, ◌<◌, get_or}
use Prim.Native.Char.{code}
use Prim.Native.String.{String, [], ◌∷◌}

-- the bytes of a quoted text
abbrev pub ascii : String → List ℕ
ascii [] = []
ascii (c ∷ s) = code c ∷ ascii s

abbrev pub digit : ℕ → ℕ
digit d = get_or (ascii "0123456789ABCDEF") d 0

-- M17: "capital hex": a digit for each half of the byte
unfoldable pub Hex : ℕ → List ℕ → Type 0
Hex b w = (high : ℕ) × (low : ℕ) × (high < 16) × (low < 16) × (b ≡ high * 16 + low) × (w ≡ digit high ∷ (digit low ∷ []))

-- the number that digits say, behind those that say v
unfoldable pub SaysBehind : ℕ → List ℕ → ℕ → Type 0
SaysBehind v [] n = v ≡ n
SaysBehind v (c ∷ w) n = (d : ℕ) × (d < 10) × (c ≡ digit d) × SaysBehind (v * 10 + d) w n

-- M17: "decimal": 0, or digits of which the first is not 0
unfoldable pub Decimal : ℕ → List ℕ → Type 0
Decimal n w = ((n ≡ 0) × (w ≡ ascii "0")) ⊎ ((d : ℕ) × (v : List ℕ) × (0 < d) × (d < 10) × (w ≡ digit d ∷ v) × SaysBehind d v n)
