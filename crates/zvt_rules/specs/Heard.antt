-- What a desk asks of a message: its header, and what the body behind it tells. Definitions only.
use Rattle.std.specs.Prelude.{ℕ, List, [], ◌∷◌, Err, None, Ok, Option, Result, Some}
use Rattle.zvt_rules.specs.declared.ToldBody.{ToldBody}
use Rattle.zvt_rules.specs.declared.Refusal.{Refusal}
use Rattle.zvt_rules.specs.declared.Heard.{Heard}
use Rattle.zvt_rules.specs.Reading.{Reading, got, refused}
use Rattle.zvt_rules.specs.Message.{Heading, start, whole_header, Body, bytes, listed, Message, read_of}
use Rattle.zvt_rules.specs.Values.{status_fields, status_in}

-- the first byte of a plain body, if it has one
unfoldable pub first_byte : Body → Option ℕ
first_byte (bytes []) = None
first_byte (bytes (b ∷ s)) = Some b
first_byte (listed password fs) = None

unfoldable pub told_in : Message → ToldBody
told_in m = record { first = first_byte m.body; status = status_in (status_fields (got m)) }

unfoldable pub told_answer : Reading Message → Result ToldBody Refusal
told_answer (got m) = Ok (told_in m)
told_answer (refused r) = Err r

-- R37: "header, body": what a message tells behind a header that is refused is not asked
unfoldable pub as_hear_answer : Reading Message → Reading Heading → Result Heard Refusal
as_hear_answer m (got h) =
    Ok (record { class = h.class; instruction = h.instruction; start = start h; length = h.size; told = told_answer m })
as_hear_answer m (refused r) = Err r

unfoldable pub hear_answer : List ℕ → Result Heard Refusal
hear_answer s = as_hear_answer (read_of s) (whole_header s)
