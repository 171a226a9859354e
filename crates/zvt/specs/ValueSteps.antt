-- Steps of the code, private: the value of a field by its place. Definitions only.
use Rattle.std.specs.Prelude.{◌≡◌, ℕ, ◌+◌, ◌≤◌, Bool, true, ◌&&◌, List, [], ◌∷◌, length, get_or, eqb, Option, Some, None}
use Rattle.zvt_rules.specs.declared.Span.{Span}
use Rattle.basics.specs.Lists.{part}
use Rattle.basics.specs.believed.Lists.{Bytes}
use Rattle.zvt_rules.specs.believed.Grammar.{Decimals}
use Rattle.zvt_rules.specs.Values.{Found, missing, found}
use Rattle.zvt_rules.specs.Listed.{places_answer}

-- a value by its place, if it has one
abbrev pub value_at : Option Span → List ℕ → Found
value_at None s = missing
value_at (Some p) s = found (part p.from p.to s)

-- where k bytes of s lie, or nothing
abbrev pub Sized : ℕ → Option Span → List ℕ → Type 0
Sized k place s = (p : Span) → place ≡ Some p → (p.to ≤ length s) × (p.to ≡ p.from + k)

abbrev pub SizedDigits : ℕ → Option Span → List ℕ → Type 0
SizedDigits k place s = Sized k place s × ((p : Span) → place ≡ Some p → Decimals (part p.from p.to s))

-- P20: "code (27), amount (04) and receipt (87)"; no field has the fourth id
abbrev pub status_ids : List ℕ
status_ids = 0x27 ∷ (0x04 ∷ (0x87 ∷ (0x00 ∷ [])))

-- M13: "a status information (04 0F)": by the first two bytes
unfoldable pub status_pair : List ℕ → Bool
status_pair s = eqb (get_or s 0 0) 0x04 && eqb (get_or s 1 0) 0x0F

-- the fields with those ids of the message that s is lie there
pub record FoundIn (ids : List ℕ) (places : List (Option Span)) (s : List ℕ) : Type 0 where
  pub bytes : Bytes s
  pub fields : places ≡ (places_answer ids s).fields

-- those of a status information do
pub record StatusAt (places : List (Option Span)) (s : List ℕ) : Type 0 where
  pub places_are : FoundIn status_ids places s
  pub pair : status_pair s ≡ true
