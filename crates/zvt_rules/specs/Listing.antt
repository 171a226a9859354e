-- M16 to M19: the text that the lister prints. Definitions only.
use Rattle.std.specs.Prelude.{ℕ, zero, suc, ◌+◌, ◌-◌, Bool, true, false, List, [], ◌∷◌, ◌++◌, length, ltb}
use Rattle.basics.specs.Choice.{pick}
use Rattle.zvt_rules.specs.Reading.{Reading, got, refused}
use Rattle.zvt_rules.specs.Refusals.{too_long}
use Rattle.zvt_rules.specs.Fields.{Field, field_id}
use Rattle.zvt_rules.specs.Message.{Message, Body, bytes, listed, first_of}
use Rattle.zvt_rules.specs.believed.Writing.{body_bytes, message_bytes}
use Rattle.zvt_rules.specs.Shortest.{is_short}
use Rattle.basics.specs.Text.{hex_text, decimal_text}

-- M17: "the ids of the fields in order"; "one blank stands between words"
unfoldable pub ids_text : List Field → List ℕ
ids_text [] = []
ids_text (f ∷ fs) = 32 ∷ (hex_text (field_id f) ++ ids_text fs)

-- M17: "none for a plain body"
unfoldable pub body_ids : Body → List ℕ
body_ids (bytes s) = []
body_ids (listed password fs) = ids_text fs

-- of what bytes are read as: none where they are refused
unfoldable pub ids_of : Reading Message → List ℕ
ids_of (got m) = body_ids m.body
ids_of (refused f) = []

-- M17: "`short` for a shortest message, else `long`"
unfoldable pub short_or_long : Bool → List ℕ
short_or_long true = 32 ∷ 115 ∷ 104 ∷ 111 ∷ 114 ∷ 116 ∷ []
short_or_long false = 32 ∷ 108 ∷ 111 ∷ 110 ∷ 103 ∷ []

-- M17: "its number, from 1; the pair"
unfoldable pub start_text : ℕ → ℕ → ℕ → List ℕ
start_text number class instruction = decimal_text number ++ (32 ∷ (hex_text class ++ hex_text instruction))

-- M17: "the length of the body as sent"
unfoldable pub size_text : ℕ → Bool → List ℕ
size_text size short = 32 ∷ (decimal_text size ++ short_or_long short)

-- M17: "It prints a line for each", with none of the fields where there are none
unfoldable pub message_text : ℕ → Message → List ℕ
message_text number m =
    start_text number m.class m.instruction ++ (size_text (length (body_bytes m.body)) (is_short m) ++ body_ids m.body)

-- M18: "The last line is `end`, the number of messages listed, and `ok` or `refused` with a number and no place"
unfoldable pub end_text : ℕ → List ℕ
end_text count = 101 ∷ 110 ∷ 100 ∷ 32 ∷ decimal_text count

unfoldable pub ok_text : ℕ → List ℕ
ok_text count = end_text count ++ (32 ∷ 111 ∷ 107 ∷ [])

unfoldable pub refused_text : ℕ → ℕ → List ℕ
refused_text count number = end_text count ++ (32 ∷ 114 ∷ 101 ∷ 102 ∷ 117 ∷ 115 ∷ 101 ∷ 100 ∷ 32 ∷ decimal_text number)

-- a line with its end, after count messages: that of the message that was read, and what follows the rest of its bytes; or the last. M18:
-- "the listing ends at a refused message, which gets no line"
unfoldable pub line_and : ℕ → (ℕ → List ℕ) → Reading Message → List ℕ
line_and count follows (got m) = message_text (count + 1) m ++ (10 ∷ follows (length (message_bytes m) - 1))
line_and count follows (refused r) = refused_text count r.number ++ (10 ∷ [])

-- the lines after count messages, the last of which has so many bytes of s left. M16: "each directly behind the one before"
unfoldable pub lines_from : ℕ → ℕ → List ℕ → List ℕ
lines_from count left [] = ok_text count ++ (10 ∷ [])
lines_from count zero (b ∷ s) = line_and count (λ left. lines_from (count + 1) left s) (first_of (b ∷ s))
lines_from count (suc left) (b ∷ s) = lines_from count left s

-- M19: "More than 65,536 bytes of input give `end 0 refused 2` and nothing else."
unfoldable pub listing : List ℕ → List ℕ
listing s = pick (ltb 65536 (length s)) (refused_text 0 too_long ++ (10 ∷ [])) (lines_from 0 0 s)
