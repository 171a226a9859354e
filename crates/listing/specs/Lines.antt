-- Steps of the code, which nobody has to believe: the text of a line by what the reader answers, and what `next_line` answers. Definitions
-- only.
use Rattle.std.specs.Prelude.{ℕ, ◌+◌, ◌≤◌, List, [], ◌∷◌, ◌++◌, length, ltb, eqb, Option, None, Some, IfSome}
use Rattle.basics.specs.Choice.{pick}
use Rattle.zvt_rules.specs.Refusals.{too_long}
use Rattle.zvt_rules.specs.Reading.{Reading, got, refused}
use Rattle.zvt_rules.specs.Message.{Message, first_of}
use Rattle.zvt_rules.specs.believed.Writing.{message_bytes}
use Rattle.basics.specs.Text.{hex_text}
use Rattle.zvt_rules.specs.Listing.{start_text, size_text, message_text, ok_text, refused_text, lines_from}
use Rattle.zvt_rules.specs.declared.Outline.{Outline}

unfoldable pub each_text : List ℕ → List ℕ
each_text [] = []
each_text (id ∷ ids) = 32 ∷ (hex_text id ++ each_text ids)

unfoldable pub read_text : ℕ → Outline → List ℕ → List ℕ
read_text number m ids = start_text number m.class m.instruction ++ (size_text m.length m.shortest ++ ids)

-- the next line of a listing, after so many messages, and how many bytes its message has; the last line has no message
unfoldable pub next_by : ℕ → Reading Message → List ℕ × Option ℕ
next_by count (got m) = (message_text (count + 1) m, Some (length (message_bytes m)))
next_by count (refused f) = (refused_text count f.number, None)

unfoldable pub next_of : ℕ → List ℕ → List ℕ × Option ℕ
next_of count s =
    pick (ltb 65536 (length s)) (refused_text count too_long, None)
    (pick (eqb (length s) 0) (ok_text count, None) (next_by count (first_of s)))

-- the lines from there on
unfoldable pub lines_of : ℕ → List ℕ → List ℕ
lines_of count s = pick (ltb 65536 (length s)) (refused_text count too_long ++ (10 ∷ [])) (lines_from count 0 s)

-- a message, which is not empty, lies in an input that begins with it
abbrev pub Within : List ℕ → Option ℕ → Type 0
Within s next = IfSome next (λ n. (1 ≤ n) × (n ≤ length s) × (length s ≤ 65536))
