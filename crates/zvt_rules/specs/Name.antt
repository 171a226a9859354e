-- The card name for a receipt. Definitions only.
use Rattle.std.specs.Prelude.{ℕ, ◌+◌, List, [], ◌∷◌, length, eqb, Err, None, Ok, Option, Result, Some}
use Rattle.basics.specs.Choice.{pick}
use Rattle.basics.specs.Lists.{part}
use Rattle.zvt_rules.specs.Reading.{Reading, got, refused}
use Rattle.zvt_rules.specs.Message.{Message, read_of}
use Rattle.zvt_rules.specs.Values.{is_status}
use Rattle.zvt_rules.specs.Listed.{asked_of}
use Rattle.zvt_rules.specs.declared.Span.{Span}
use Rattle.zvt_rules.specs.declared.Refusal.{Refusal}

-- M13: "up to its first zero byte, or all of it where there is none"
unfoldable pub up_to_zero : List ℕ → List ℕ
up_to_zero [] = []
up_to_zero (b ∷ s) = pick (eqb b 0) [] (b ∷ up_to_zero s)

-- where the name is: part of the status information, or the till's own
pub data NameAt : Type 0 where
  own : NameAt
  between : ℕ → ℕ → NameAt

-- M14: "or have no field 8B, or its name is empty"
unfoldable pub sized_name : ℕ → ℕ → NameAt
sized_name a k = pick (eqb k 0) own (between a (a + k))

unfoldable pub name_in : List ℕ → Result (Option Span) Refusal → NameAt
name_in s (Ok None) = own
name_in s (Ok (Some p)) = sized_name p.from (length (up_to_zero (part p.from p.to s)))
name_in s (Err r) = own

-- M14: "Where the bytes are no accepted 04 0F message". M13: "the value of field 8B of a status information"
unfoldable pub name_of : List ℕ → Reading Message → NameAt
name_of s (got m) = pick (is_status m) (name_in s (asked_of 0x8B (got m))) own
name_of s (refused f) = own

unfoldable pub name_at : List ℕ → NameAt
name_at s = name_of s (read_of s)

-- M14: "the answer is the till's own name, whole, which is lent with the message and may be empty"
unfoldable pub name_bytes : List ℕ → List ℕ → NameAt → List ℕ
name_bytes s till own = till
name_bytes s till (between a e) = part a e s

unfoldable pub card_name : List ℕ → List ℕ → List ℕ
card_name s till = name_bytes s till (name_at s)

-- M15: "What is handed back is a part of the message or of the own name, never a copy." Where it lies, from where those two lie: a
-- block of memory, and a place in it
unfoldable pub name_place : ℕ × ℕ → ℕ × ℕ → NameAt → ℕ × ℕ
name_place s till own = till
name_place s till (between a e) = (s.0, a + s.1)
