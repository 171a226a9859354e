-- Bytes by their bits and halves, and the numbers that bytes spell. Definitions only.
use Rattle.std.specs.Prelude.{◌≡◌, Bool, true, false, ◌&&◌, List, [], ◌∷◌, ℕ, ◌+◌, ◌*◌, ◌^◌, ◌≤◌, length}
use Rattle.zvt_rules.specs.Objects.{Form, bare, one, two}

-- a byte by its eight bits
abbrev pub bit : Bool → ℕ
bit true = 1
bit false = 0

abbrev pub byte_of : Bool → Bool → Bool → Bool → Bool → Bool → Bool → Bool → ℕ
byte_of b7 b6 b5 b4 b3 b2 b1 b0 = bit b7 * 0x80 + bit b6 * 0x40 + bit b5 * 0x20 + bit b4 * 0x10 + bit b3 * 8 + bit b2 * 4 + bit b1 * 2 + bit b0

-- O3: "two bytes where the low five bits of its first byte are ones". O4: "its top bit". O5: "Bit 20 (hex)"
unfoldable pub TagBits : ℕ → Bool → Bool → Bool → Type 0
TagBits b long top run = (b6 : Bool) × (b4 : Bool) × (b3 : Bool) × (b2 : Bool) × (b1 : Bool) × (b0 : Bool)
    × (b ≡ byte_of top b6 run b4 b3 b2 b1 b0) × (long ≡ (b4 && b3 && b2 && b1 && b0))

-- F5: "a decimal digit in each half of each byte": the byte that says v
abbrev pub Halves : ℕ → ℕ → Type 0
Halves b v = (h : ℕ) × (l : ℕ) × (h ≤ 9) × (l ≤ 9) × (b ≡ h * 16 + l) × (v ≡ h * 10 + l)

-- F3: "A length digit is one of the bytes F0 to F9": the one that says d
abbrev pub LengthDigit : ℕ → ℕ → Type 0
LengthDigit b d = (d ≤ 9) × (b ≡ 0xF0 + d)

-- digits, high first: each weighs base times as much as the one behind it
unfoldable pub Number : (ℕ → ℕ → Type 0) → ℕ → List ℕ → ℕ → Type 0
Number Digit base [] n = n ≡ 0
Number Digit base (b ∷ s) n = (d : ℕ) × (m : ℕ) × Digit b d × (n ≡ d * base ^ length s + m) × Number Digit base s m

-- P14: "Numbers are written as decimal digits, two to a byte, high first, leading zeros kept."
abbrev pub Spells : List ℕ → ℕ → Type 0
Spells = Number Halves 100

-- F3: "F1 F6 says 16, and the length may be 0."
abbrev pub Says : List ℕ → ℕ → Type 0
Says = Number LengthDigit 10

-- O6: "A length is one byte 00 to 7F; or 81 and one byte; or 82 and two bytes, high byte first.": the bytes s say v
unfoldable pub SaysLength : Form → List ℕ → ℕ → Type 0
SaysLength bare s v = (s ≡ v ∷ []) × (v ≤ 0x7F)
SaysLength one s v = (s ≡ 0x81 ∷ (v ∷ [])) × (v ≤ 0xFF)
SaysLength two s v = (high : ℕ) × (low : ℕ) × (s ≡ 0x82 ∷ (high ∷ (low ∷ []))) × (high ≤ 0xFF) × (low ≤ 0xFF) × (v ≡ high * 256 + low)

-- M2: "A length byte 00 to FE is itself the length. After FF the next two bytes are the length, low byte first." M3: "at most 4,096"
unfoldable pub SaysBody : Bool → List ℕ → ℕ → Type 0
SaysBody false s v = (s ≡ v ∷ []) × (v ≤ 0xFE)
SaysBody true s v = (low : ℕ) × (high : ℕ) × (s ≡ 0xFF ∷ (low ∷ (high ∷ []))) × (low ≤ 0xFF) × (v ≡ high * 256 + low) × (v ≤ 4_096)
