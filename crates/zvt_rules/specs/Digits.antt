-- Decimal numbers, two digits to a byte, high first. Definitions only.
use Rattle.std.specs.Prelude.{ℕ, zero, suc, ◌+◌, ◌*◌, ◌/◌, ◌%◌, List, [], ◌∷◌, ◌++◌}

-- two digits in the halves of a byte
abbrev pub two_digits : ℕ → ℕ
two_digits v = v / 10 * 16 + v % 10

-- P14: "decimal digits, two to a byte, high first, leading zeros kept": the last digits of n, in so many bytes
unfoldable pub digit_bytes_of : ℕ → ℕ → List ℕ
digit_bytes_of zero n = []
digit_bytes_of (suc k) n = digit_bytes_of k (n / 100) ++ (two_digits (n % 100) ∷ [])

-- the number that digits are, behind those that gave v
unfoldable pub decimal_from : ℕ → List ℕ → ℕ
decimal_from v [] = v
decimal_from v (b ∷ s) = decimal_from (v * 100 + (b / 16 * 10 + b % 16)) s

unfoldable pub number_of : List ℕ → ℕ
number_of s = decimal_from 0 s
