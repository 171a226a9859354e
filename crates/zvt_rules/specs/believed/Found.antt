-- F6 to F11: where the fields of a message lie, a second time: by what stands behind a value and before it. Definitions only.
use Rattle.std.specs.Prelude.{◌≡◌, ◌⊎◌, List, [], ◌∷◌, ◌++◌, ℕ, ◌+◌, length}
use Rattle.zvt_rules.specs.declared.Span.{Span}
use Rattle.zvt_rules.specs.declared.Format.{Format}
use Rattle.zvt_rules.specs.declared.Format.TheVariants.{Unknown, Fixed, Digits, Container}
use Rattle.zvt_rules.specs.Objects.{Form}
use Rattle.zvt_rules.specs.Fields.{format_of, Field, field_id}
use Rattle.zvt_rules.specs.Message.{Message}
use Rattle.zvt_rules.specs.Values.{body_fields}
use Rattle.zvt_rules.specs.believed.Writing.{list_bytes, field_value}
use Rattle.zvt_rules.specs.believed.Digits.{Says, SaysLength}
use Rattle.basics.specs.believed.Lists.{In}
use Rattle.zvt_rules.specs.believed.Values.{Is}

-- F6: "the part of the message that holds the field's value": field number k, from 0, of the message that s is. The fields behind it stand
-- behind its value, and nothing more. F8: "For field 06 the part is the run of its objects, as sent, without the container's length."
unfoldable pub Stands : List ℕ → ℕ → Field → Span → Type 0
Stands s k f p = (m : Message) × (before : List Field) × (behind : List Field) × (front : List ℕ)
    × Is s m × (body_fields m.body ≡ before ++ (f ∷ behind)) × (length before ≡ k)
    × (s ≡ front ++ (field_value f ++ list_bytes behind)) × (p.from ≡ length front) × (p.to ≡ length (front ++ field_value f))

-- F2: what stands between id and value: nothing; "two length digits, then the value", or three; the length of a container (O1)
unfoldable pub Leads : Format → List ℕ → List ℕ → Type 0
Leads Unknown lead value = ⊥
Leads (Fixed k) lead value = (lead ≡ []) × (length value ≡ k)
Leads (Digits d) lead value = (length lead ≡ d) × Says lead (length value)
Leads Container lead value = (form : Form) × SaysLength form lead (length value)

-- F6: "without its id and its length": they stand directly before the part p
unfoldable pub Follows : List ℕ → Field → Span → Type 0
Follows s f p = (before : List ℕ) × (lead : List ℕ) × (behind : List ℕ)
    × (s ≡ before ++ (field_id f ∷ (lead ++ (field_value f ++ behind)))) × Leads (format_of (field_id f)) lead (field_value f)
    × (p.from ≡ length (before ++ (field_id f ∷ lead)))

-- F6: "the field with an id"
unfoldable pub StandsBy : List ℕ → ℕ → Span → Type 0
StandsBy s id p = (k : ℕ) × (f : Field) × Stands s k f p × (field_id f ≡ id)

-- F9: "no field of the list has the id"
unfoldable pub Lacks : List ℕ → ℕ → Type 0
Lacks s id = (m : Message) × Is s m × ((f : Field) → In f (body_fields m.body) → field_id f ≡ id → ⊥)

-- F11: "that part of the message is handed back, never a copy", or "the bytes lent for that case": s lies at p and those bytes at q, each in a
-- block of memory at a place of it, and what is handed back lies at r
unfoldable pub Handed : List ℕ → ℕ × ℕ → List ℕ → ℕ × ℕ → ℕ → List ℕ → ℕ × ℕ → Type 0
Handed s p other q id value r =
    ((k : ℕ) × (f : Field) × (l : Span) × Stands s k f l × (field_id f ≡ id) × (value ≡ field_value f) × (r ≡ (p.0, l.from + p.1)))
    ⊎ (((l : Span) → StandsBy s id l → ⊥) × (value ≡ other) × (r ≡ q))
