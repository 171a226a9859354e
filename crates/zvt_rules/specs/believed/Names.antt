-- M13 to M15: the card name, a second time. Definitions only.
use Rattle.std.specs.Prelude.{◌≡◌, ◌⊎◌, List, ◌∷◌, ◌++◌, ℕ, ◌+◌, ◌<◌, length, get_or}
use Rattle.zvt_rules.specs.declared.Span.{Span}
use Rattle.zvt_rules.specs.Fields.{Field, field_id}
use Rattle.zvt_rules.specs.believed.Found.{Stands}
use Rattle.zvt_rules.specs.believed.Writing.{field_value}

-- M13: "up to its first zero byte, or all of it where there is none"
unfoldable pub UpToZero : List ℕ → List ℕ → Type 0
UpToZero value name = ((i : ℕ) → i < length name → get_or name i 0 ≡ 0 → ⊥) × ((value ≡ name) ⊎ ((rest : List ℕ) × (value ≡ name ++ (0 ∷ rest))))

-- M13: "the value of field 8B of a status information (04 0F)", where it begins in the message s, and M14: not "empty"
unfoldable pub Holds : List ℕ → List ℕ → ℕ → Type 0
Holds s name from = (rest : List ℕ) × (k : ℕ) × (f : Field) × (l : Span) × (s ≡ 0x04 ∷ (0x0F ∷ rest))
    × Stands s k f l × (field_id f ≡ 0x8B) × (l.from ≡ from) × UpToZero (field_value f) name × (0 < length name)

-- M14: else "the answer is the till's own name, whole". M15: "What is handed back is a part of the message or of the own name, never a
-- copy": s and the own name lie at p and at q, each in a block of memory at a place of it, and what is handed back lies at r
unfoldable pub Shown : List ℕ → ℕ × ℕ → List ℕ → ℕ × ℕ → List ℕ → ℕ × ℕ → Type 0
Shown s p own q name r = ((from : ℕ) × Holds s name from × (r ≡ (p.0, from + p.1)))
    ⊎ (((n : List ℕ) (from : ℕ) → Holds s n from → ⊥) × (name ≡ own) × (r ≡ q))
