-- What stands in a message at the place that a refusal of its body names. Definitions only.
use Rattle.std.specs.Prelude.{◌≡◌, ◌⊎◌, List, ℕ, ◌<◌, ◌≤◌, length, get_or, Some}
use Rattle.zvt_rules.specs.declared.Refusal.{Refusal}
use Rattle.zvt_rules.specs.declared.Format.TheVariants.{Unknown}
use Rattle.zvt_rules.specs.Fields.{format_of}
use Rattle.zvt_rules.specs.believed.Rows.{Undecimal}

-- R47: "the id of the field for 5 and 7 .., the first byte of the tag for 9 and 10, and the wrong byte itself for 4, 6, 8 and 22": what
-- byte b is, by the number. What else 7, 9 and 10 say is in what stands before it (Rows)
pub data WrongByte (b : ℕ) : ℕ → Type 0 where
  no_digit : (b < 0xF0) ⊎ (0xF9 < b) → WrongByte b 4
  no_field : format_of b ≡ Unknown → WrongByte b 5
  undecimal : Undecimal b → WrongByte b 6
  twice : (format_of b ≡ Unknown → ⊥) → WrongByte b 7
  top_bit : 0x80 ≤ b → WrongByte b 8
  too_deep : WrongByte b 9
  too_many : WrongByte b 10
  no_length : (b ≡ 0x80) ⊎ (0x83 ≤ b) → WrongByte b 22

-- R46: "in the message, or directly behind it": s is the message. The place is that of such a byte of s; or, for 1 alone, R48: "the first
-- byte behind the nearest body, container or run"
pub data Names (s : List ℕ) : Refusal → Type 0 where
  byte : {n p : ℕ} → p < length s → WrongByte (get_or s p 0) n → Names s (record { number = n; place = Some p })
  behind : {p : ℕ} → p ≤ length s → Names s (record { number = 1; place = Some p })
