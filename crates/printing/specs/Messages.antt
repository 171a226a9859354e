-- What the reader answers of a message, as a program prints it, in the words of TRIAL.md. Definitions only.
use Rattle.std.specs.Prelude.{ℕ, List, [], ◌∷◌, ◌++◌, Err, None, Ok, Option, Result, Some}
use Rattle.basics.specs.Lists.{part}
use Rattle.zvt_rules.specs.Message.{first_of}
use Rattle.zvt_rules.specs.Answers.{read_answer, header_answer, first_answer}
use Rattle.zvt_rules.specs.Listed.{field_answer}
use Rattle.zvt_rules.specs.Listing.{size_text, ids_of}
use Rattle.basics.specs.Text.{bytes_text, hex_text, decimal_text}
use Rattle.basics.specs.believed.Text.{ascii}
use Rattle.zvt_rules.specs.declared.Outline.{Outline}
use Rattle.zvt_rules.specs.declared.Refusal.{Refusal}
use Rattle.zvt_rules.specs.declared.Header.{Header}
use Rattle.zvt_rules.specs.declared.Span.{Span}
use Rattle.printing.specs.Answers.{line, number_text, refused_text}

abbrev pub pair_text : ℕ → ℕ → List ℕ
pair_text class instruction = hex_text class ++ hex_text instruction

-- "`PAIR LENGTH short OBJECTS ID ..` or with `long`": a blank stands before each id
unfoldable pub outline_text : Outline → List ℕ → List ℕ
outline_text m ids =
    pair_text m.class m.instruction ++ (size_text m.length m.shortest ++ (number_text m.objects ++ ids))

unfoldable pub read_by : List ℕ → Result Outline Refusal → List ℕ
read_by ids (Ok m) = outline_text m ids ++ ascii "\n"
read_by ids (Err r) = refused_text r

unfoldable pub read_text : List ℕ → List ℕ
read_text s = read_by (ids_of (first_of s)) (read_answer s)

-- the pair, where the body starts and how long it is
unfoldable pub header_by : Result Header Refusal → List ℕ
header_by (Ok h) =
    line (pair_text h.class h.instruction ∷ ascii "from" ∷ decimal_text h.start ∷ ascii "length" ∷ decimal_text h.length ∷ [])
header_by (Err r) = refused_text r

unfoldable pub header_text : List ℕ → List ℕ
header_text s = header_by (header_answer s)

-- what `read` tells, and where the body and the next message begin
unfoldable pub first_by : List ℕ → Result (Outline × ℕ) Refusal → List ℕ
first_by ids (Ok (m, next)) =
    outline_text m ids ++ (ascii " " ++ line (ascii "from" ∷ decimal_text m.start ∷ ascii "next" ∷ decimal_text next ∷ []))
first_by ids (Err r) = refused_text r

unfoldable pub first_text : List ℕ → List ℕ
first_text s = first_by (ids_of (first_of s)) (first_answer s)

-- "It answers where the value begins .. and the bytes of the value, `-` for an empty one." "`absent` says that no field of the list has the id"
unfoldable pub field_by : List ℕ → Result (Option Span) Refusal → List ℕ
field_by s (Ok None) = line (ascii "absent" ∷ [])
field_by s (Ok (Some p)) = line (decimal_text p.from ∷ bytes_text (part p.from p.to s) ∷ [])
field_by s (Err r) = refused_text r

unfoldable pub field_text : ℕ → List ℕ → List ℕ
field_text id s = field_by s (field_answer id s)
