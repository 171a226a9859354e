-- What the functions of crate zvt answer of a message, by the definitions of reading and writing. Definitions only.
use Rattle.std.specs.Prelude.{ℕ, List, length, ltb, Err, Ok, Result}
use Rattle.zvt_rules.specs.declared.Header.{Header}
use Rattle.zvt_rules.specs.declared.Outline.{Outline}
use Rattle.zvt_rules.specs.declared.Refusal.{Refusal}
use Rattle.zvt_rules.specs.Reading.{Reading, got, refused, unplaced, unless, and_then, written_leaves}
use Rattle.zvt_rules.specs.Refusals.{no_room}
use Rattle.zvt_rules.specs.Message.{Heading, header_size, start, whole_header, Message, read_of, first_of, count_of}
use Rattle.zvt_rules.specs.believed.Writing.{body_bytes, message_bytes}
use Rattle.zvt_rules.specs.Shortest.{is_short, shorten}

-- the header by the place where its body starts
unfoldable pub header_in : Heading → Header
header_in h = record { class = h.class; instruction = h.instruction; start = start h; length = h.size }

unfoldable pub as_header_answer : Reading Heading → Result Header Refusal
as_header_answer (got h) = Ok (header_in h)
as_header_answer (refused r) = Err r

unfoldable pub header_answer : List ℕ → Result Header Refusal
header_answer s = as_header_answer (whole_header s)

-- M9: "The reader reports pair, start and length of the body, number of data objects (O11), and whether the message is shortest." O11: "The
-- reported number of objects is what O10 counts."
unfoldable pub outline_of : Message → Outline
outline_of m =
    record {
      class = m.class;
      instruction = m.instruction;
      start = header_size m.long;
      length = length (body_bytes m.body);
      objects = count_of m;
      shortest = is_short m;
    }

unfoldable pub as_read_answer : Reading Message → Result Outline Refusal
as_read_answer (got m) = Ok (outline_of m)
as_read_answer (refused r) = Err r

unfoldable pub read_answer : List ℕ → Result Outline Refusal
read_answer s = as_read_answer (read_of s)

-- the next message begins where this one's bytes end
unfoldable pub as_first_answer : Reading Message → Result (Outline × ℕ) Refusal
as_first_answer (got m) = Ok (outline_of m, length (message_bytes m))
as_first_answer (refused r) = Err r

unfoldable pub first_answer : List ℕ → Result (Outline × ℕ) Refusal
first_answer s = as_first_answer (first_of s)

-- R37: "Shortening: header, body, 11." R38: "shortening needs as many as it writes". What is written into so much room
unfoldable pub shortened : ℕ → List ℕ → Reading (List ℕ)
shortened room s = and_then (shorten s) λ w. unless (ltb room (length w)) (unplaced no_room) (got w)

unfoldable pub as_shorten_answer : Reading (List ℕ) → Result ℕ Refusal
as_shorten_answer (got w) = Ok (length w)
as_shorten_answer (refused r) = Err r

unfoldable pub shorten_answer : ℕ → List ℕ → Result ℕ Refusal
shorten_answer room s = as_shorten_answer (shortened room s)

-- M12: "Only opening, replying and shortening write messages."
unfoldable pub shorten_leaves : List ℕ → List ℕ → List ℕ
shorten_leaves s out = written_leaves (shortened (length out) s) out
