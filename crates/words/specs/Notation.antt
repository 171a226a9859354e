-- Numbers and bytes as a line has them, in the words of TRIAL.md; `None` is what is out of form. Definitions only.
use Rattle.std.specs.Prelude.{ℕ, ◌+◌, ◌-◌, ◌*◌, ◌%◌, ◌^◌, Bool, ◌&&◌, List, [], ◌∷◌, length, get_or, leb, ltb, eqb, Option, Some, None}
use Rattle.std.specs.List.{list_all}
use Rattle.std.specs.Str.{bytes_eq}
use Rattle.basics.specs.Choice.{pick}
use Rattle.basics.specs.Text.{hex_value}
use Rattle.basics.specs.believed.Text.{ascii}

-- ---- "A number is decimal, has at most 20 digits, leading zeros among them, and is below 2^64."
abbrev pub is_digit : ℕ → Bool
is_digit c = leb 48 c && leb c 57

-- what digits say behind those that say n
unfoldable pub value_from : ℕ → List ℕ → ℕ
value_from n [] = n
value_from n (c ∷ w) = value_from (n * 10 + (c - 48)) w

unfoldable pub number_from : ℕ → List ℕ → Option ℕ
number_from n w = pick (list_all is_digit w && ltb (value_from n w) (2 ^ 64)) (Some (value_from n w)) None

unfoldable pub word_number : List ℕ → Option ℕ
word_number w = pick (leb 1 (length w) && leb (length w) 20) (number_from 0 w) None

-- ---- "Bytes are pairs of hex digits in capital or small letters; `-` stands for no bytes."
abbrev pub is_hex : ℕ → Bool
is_hex c = ltb (hex_value c) 16

unfoldable pub in_pairs : List ℕ → Bool
in_pairs w = list_all is_hex w && eqb (length w % 2) 0

abbrev pub hex_byte : ℕ → ℕ → ℕ
hex_byte high low = hex_value high * 16 + hex_value low

unfoldable pub pairs_of : List ℕ → List ℕ
pairs_of [] = []
pairs_of (high ∷ []) = []
pairs_of (high ∷ (low ∷ w)) = hex_byte high low ∷ pairs_of w

unfoldable pub bytes_of : List ℕ → Option (List ℕ)
bytes_of w = pick (bytes_eq w (ascii "-")) (Some []) (pick (leb 1 (length w) && in_pairs w) (Some (pairs_of w)) None)

-- "the id of a field, two hex digits"
unfoldable pub id_of : List ℕ → Option ℕ
id_of w = pick (eqb (length w) 2 && in_pairs w) (Some (hex_byte (get_or w 0 0) (get_or w 1 0))) None
