-- The fields of a message's list, and where each value lies in the message. Definitions only.
use Rattle.std.specs.Prelude.{ℕ, ◌+◌, ◌-◌, List, [], ◌∷◌, length, eqb, Err, None, Ok, Option, Result, Some}
use Rattle.zvt_rules.specs.declared.Listed.{Listed}
use Rattle.zvt_rules.specs.declared.Span.{Span}
use Rattle.zvt_rules.specs.declared.Places.{Places}
use Rattle.zvt_rules.specs.declared.Refusal.{Refusal}
use Rattle.basics.specs.Choice.{pick}
use Rattle.basics.specs.Lists.{part}
use Rattle.zvt_rules.specs.Reading.{Reading, got, refused}
use Rattle.zvt_rules.specs.Fields.{Field, field_id}
use Rattle.zvt_rules.specs.Message.{header_size, Body, bytes, listed, Message, read_of, first_of}
use Rattle.zvt_rules.specs.believed.Writing.{field_bytes, field_value}

-- where a field that begins at place at ends, and the field behind it begins
abbrev pub next_at : ℕ → Field → ℕ
next_at at f = at + length (field_bytes f)

-- such a field. F6: "The answer is the part of the message that holds the field's value, without its id and its length": a value ends where its
-- field ends. F7: "An empty value is a part without bytes"
unfoldable pub listed_at : ℕ → Field → Listed
listed_at at f = record { id = field_id f; from = next_at at f - length (field_value f); to = next_at at f }

-- the fields of a list that begins at place at
unfoldable pub listed_from : ℕ → List Field → List Listed
listed_from at [] = []
listed_from at (f ∷ fs) = listed_at at f ∷ listed_from (next_at at f) fs

-- F9: "The password is no field.": where the list of a body begins that begins at place at
abbrev pub list_at : ℕ → List ℕ → ℕ
list_at at password = at + length password

-- F9: "Where the body is plain, every id is absent."
unfoldable pub listed_body : ℕ → Body → List Listed
listed_body at (bytes s) = []
listed_body at (listed password fs) = listed_from (list_at at password) fs

-- F6: "counted from 0 at the message's start": where the body of a message begins
abbrev pub body_at : Message → ℕ
body_at m = header_size m.long

unfoldable pub listed_message : Reading Message → List Listed
listed_message (got m) = listed_body (body_at m) m.body
listed_message (refused f) = []

-- F9: "the answer is absent where no field of the list has the id, and only there"
unfoldable pub named_listed : ℕ → List Listed → Option Span
named_listed id [] = None
named_listed id (l ∷ ls) = pick (eqb l.id id) (Some (record { from = l.from; to = l.to })) (named_listed id ls)

-- F10: "A message that reading refuses is refused with the same number and, if one is named, the same place."
unfoldable pub asked_of : ℕ → Reading Message → Result (Option Span) Refusal
asked_of id (got m) = Ok (named_listed id (listed_message (got m)))
asked_of id (refused r) = Err r

unfoldable pub field_answer : ℕ → List ℕ → Result (Option Span) Refusal
field_answer id s = asked_of id (read_of s)

-- F11: "Asked for the bytes, that part of the message is handed back, never a copy; where the field is absent or the message refused, the
-- bytes lent for that case are handed back, whole". Where they lie, from where those two lie: a block of memory, and a place in it
unfoldable pub handed_bytes : List ℕ → List ℕ → Result (Option Span) Refusal → List ℕ
handed_bytes s other (Ok None) = other
handed_bytes s other (Ok (Some p)) = part p.from p.to s
handed_bytes s other (Err r) = other

unfoldable pub handed_place : ℕ × ℕ → ℕ × ℕ → Result (Option Span) Refusal → ℕ × ℕ
handed_place s other (Ok None) = other
handed_place s other (Ok (Some p)) = (s.0, p.from + s.1)
handed_place s other (Err r) = other

-- M17: "the ids of the fields in order"
unfoldable pub ids_listed : List Listed → List ℕ
ids_listed [] = []
ids_listed (l ∷ ls) = l.id ∷ ids_listed ls

-- those of the message that s begins with; none where it is refused
unfoldable pub first_ids : List ℕ → List ℕ
first_ids s = ids_listed (listed_message (first_of s))

-- where the values of the fields with some ids lie, all asked for at once, if they are there
unfoldable pub span_of : Result (Option Span) Refusal → Option Span
span_of (Ok place) = place
span_of (Err r) = None

unfoldable pub spans_of : Reading Message → List ℕ → List (Option Span)
spans_of r [] = []
spans_of r (id ∷ ids) = span_of (asked_of id r) ∷ spans_of r ids

-- M6: "a password of three bytes, then a field list": where it lies, if the message has one
unfoldable pub password_in : ℕ → Body → Option Span
password_in at (bytes s) = None
password_in at (listed [] fs) = None
password_in at (listed (b ∷ password) fs) = Some (record { from = at; to = at + length (b ∷ password) })

unfoldable pub password_span : Reading Message → Option Span
password_span (got m) = password_in (body_at m) m.body
password_span (refused f) = None

unfoldable pub places_answer : List ℕ → List ℕ → Places
places_answer ids s = record { password = password_span (read_of s); fields = spans_of (read_of s) ids }
