-- M16 to M19: the text that the lister prints, a second time, in words. Definitions only.
use Rattle.std.specs.Prelude.{◌≡◌, ◌⊎◌, List, [], ◌∷◌, ◌++◌, ℕ, ◌+◌, ◌<◌, ◌≤◌, length}
use Rattle.zvt_rules.specs.declared.Refusal.{Refusal}
use Rattle.zvt_rules.specs.Reading.{refused}
use Rattle.zvt_rules.specs.Fields.{Field, field_id}
use Rattle.zvt_rules.specs.Message.{Message, first_of}
use Rattle.zvt_rules.specs.believed.Writing.{body_bytes, message_bytes}
use Rattle.zvt_rules.specs.Shortest.{write}
use Rattle.zvt_rules.specs.believed.Grammar.{MessageOk}
use Rattle.zvt_rules.specs.Values.{body_fields}
use Rattle.basics.specs.believed.Text.{ascii, Hex, Decimal}

-- M17: "one blank stands between words, none behind the last"
unfoldable pub words : List (List ℕ) → List ℕ
words [] = []
words (w ∷ []) = w
words (w ∷ (v ∷ ws)) = w ++ (ascii " " ++ words (v ∷ ws))

-- M17: "the ids of the fields in order"
unfoldable pub Ids : List Field → List (List ℕ) → Type 0
Ids [] ws = ws ≡ []
Ids (f ∷ fs) ws = (w : List ℕ) × (vs : List (List ℕ)) × (ws ≡ w ∷ vs) × Hex (field_id f) w × Ids fs vs

-- M17: "`short` for a shortest message, else `long`". M11: "A message is shortest when shortening would change nothing."
unfoldable pub ShortOrLong : Message → List ℕ → Type 0
ShortOrLong m w = ((write m ≡ message_bytes m) × (w ≡ ascii "short")) ⊎ ((write m ≡ message_bytes m → ⊥) × (w ≡ ascii "long"))

-- M17: "its number, from 1; the pair; the length of the body as sent; `short` .. else `long`; the ids .., none for a plain body"
unfoldable pub MessageLine : ℕ → Message → List ℕ → Type 0
MessageLine number m t = (n : List ℕ) × (class : List ℕ) × (instruction : List ℕ) × (size : List ℕ) × (form : List ℕ) × (ids : List (List ℕ))
    × Decimal number n × Hex m.class class × Hex m.instruction instruction × Decimal (length (body_bytes m.body)) size
    × ShortOrLong m form × Ids (body_fields m.body) ids × (t ≡ words (n ∷ (class ++ instruction) ∷ size ∷ form ∷ ids) ++ ascii "\n")

-- M18: "The last line is `end`, the number of messages listed, and `ok` or `refused` with a number and no place: the listing ends at a
-- refused message"; s is what follows those listed
unfoldable pub Last : ℕ → List ℕ → List ℕ → Type 0
Last count s t = (n : List ℕ) × Decimal count n × (((s ≡ []) × (t ≡ words (ascii "end" ∷ n ∷ ascii "ok" ∷ []) ++ ascii "\n"))
    ⊎ ((f : Refusal) × (no : List ℕ) × (0 < length s) × (first_of s ≡ refused f) × Decimal f.number no
    × (t ≡ words (ascii "end" ∷ n ∷ ascii "refused" ∷ no ∷ []) ++ ascii "\n")))

-- M16: "messages .., each directly behind the one before". M17: "It prints a line for each". These messages, after count others
unfoldable pub Lists : ℕ → List Message → List ℕ → List ℕ → Type 0
Lists count [] s t = Last count s t
Lists count (m ∷ ms) s t = (rest : List ℕ) × (line : List ℕ) × (lines : List ℕ) × MessageOk m × (s ≡ message_bytes m ++ rest)
    × MessageLine (count + 1) m line × Lists (count + 1) ms rest lines × (t ≡ line ++ lines)

-- M19: "More than 65,536 bytes of input give `end 0 refused 2` and nothing else."
unfoldable pub Listing : List ℕ → List ℕ → Type 0
Listing s t = ((65_536 < length s) × (t ≡ ascii "end 0 refused 2\n")) ⊎ ((length s ≤ 65_536) × (ms : List Message) × Lists 0 ms s t)
