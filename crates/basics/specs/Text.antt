-- Text in a lent buffer, and numbers as text. Definitions only.
use Rattle.std.specs.Prelude.{ℕ, zero, suc, ◌+◌, ◌-◌, ◌/◌, ◌%◌, List, [], ◌∷◌, ◌++◌, length, set, ltb, leb}
use Rattle.basics.specs.Choice.{pick}

-- a buffer whose first at bytes are taken
pub record Text : Type 0 where
  pub at : ℕ
  pub bytes : List ℕ

abbrev pub text : ℕ → List ℕ → Text
text at out = record { at = at; bytes = out }

-- one byte more where there is room, else the same
unfoldable pub add_one : ℕ → Text → Text
add_one b t = pick (ltb t.at (length t.bytes)) (text (t.at + 1) (set t.bytes t.at b)) t

unfoldable pub add_all : List ℕ → Text → Text
add_all [] t = t
add_all (b ∷ w) t = add_all w (add_one b t)

-- M17: "capital hex"
abbrev pub hex_digit : ℕ → ℕ
hex_digit d = pick (ltb d 10) (48 + d) (55 + d)

unfoldable pub hex_text : ℕ → List ℕ
hex_text b = hex_digit (b / 16) ∷ (hex_digit (b % 16) ∷ [])

unfoldable pub hexes : List ℕ → List ℕ
hexes [] = []
hexes (b ∷ s) = hex_text b ++ hexes s

-- bytes as hex, `-` for none
unfoldable pub bytes_text : List ℕ → List ℕ
bytes_text [] = 45 ∷ []
bytes_text (b ∷ s) = hexes (b ∷ s)

-- the value of a hex digit of either case, and 16 for any other byte
abbrev pub hex_value : ℕ → ℕ
hex_value b =
    pick (ltb b 48) 16
    (pick (leb b 57) (b - 48)
    (pick (ltb b 65) 16 (pick (leb b 70) (b - 55) (pick (ltb b 97) 16 (pick (leb b 102) (b - 87) 16)))))

-- M17: "the rest is decimal": the digits of n, which has at most f. There is no number with a `?`, which would say that it has more
unfoldable pub decimal_by : ℕ → ℕ → List ℕ
decimal_by zero n = 63 ∷ []
decimal_by (suc f) n = pick (ltb n 10) ((48 + n) ∷ []) (decimal_by f (n / 10) ++ ((48 + n % 10) ∷ []))

-- a number has at most one digit more than its value
unfoldable pub decimal_text : ℕ → List ℕ
decimal_text n = decimal_by (suc n) n
