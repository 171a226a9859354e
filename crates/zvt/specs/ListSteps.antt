-- Steps of the code, private: the list of a message, and its fields one after the other. Definitions only.
use Rattle.std.specs.Prelude.{◌≡◌, ℕ, ◌+◌, ◌<◌, ◌≤◌, List, [], ◌∷◌, length, None, Ok, Option, Some}
use Rattle.zvt_rules.specs.declared.Listed.{Listed}
use Rattle.zvt_rules.specs.declared.Outline.{Outline}
use Rattle.zvt_rules.specs.declared.Span.{Span}
use Rattle.basics.specs.Lists.{part}
use Rattle.zvt_rules.specs.Reading.{Reading, got, refused}
use Rattle.zvt_rules.specs.Limits.{most_body}
use Rattle.zvt_rules.specs.Fields.{Field as field_of, ListRead, list_of}
use Rattle.zvt_rules.specs.Message.{read_of}
use Rattle.basics.specs.believed.Lists.{Bytes}
use Rattle.zvt_rules.specs.Answers.{read_answer}
use Rattle.zvt_rules.specs.Listed.{listed_from, listed_message}
use Rattle.zvt.specs.WritingSteps.{ListReads}

-- the list between two places of s
unfoldable pub list_fields : Reading ListRead → List field_of
list_fields (got r) = r.fields
list_fields (refused f) = []

unfoldable pub fields_between : ℕ → ℕ → List ℕ → List field_of
fields_between a e s = list_fields (list_of [] 0 0 (part a e s))

unfoldable pub listed_in : ℕ → ℕ → List ℕ → List Listed
listed_in a e s = listed_from a (fields_between a e s)

pub record ListIn (a e : ℕ) (s : List ℕ) : Type 0 where
  pub order : a ≤ e
  pub inside : e ≤ length s
  pub short : e ≤ a + most_body
  pub reads : ListReads (part a e s)

-- what stands at a place of such a list: a field, and the list goes on behind it, or nothing
pub record FieldHere (at e : ℕ) (s : List ℕ) (l : Listed) : Type 0 where
  pub some : at < l.to
  pub rest : ListIn l.to e s
  pub all : listed_in at e s ≡ l ∷ listed_in l.to e s

pub data StandsAt (at e : ℕ) (s : List ℕ) : Option Listed → Type 0 where
  field : {l : Listed} → FieldHere at e s l → StandsAt at e s (Some l)
  none : listed_in at e s ≡ [] → StandsAt at e s None

-- where the list of the message that s is lies: no bytes at all where it has none
pub record ListOf (place : Span) (s : List ℕ) : Type 0 where
  pub within : ListIn place.from place.to s
  pub fields : listed_message (read_of s) ≡ listed_in place.from place.to s

-- bytes that were read as that message
abbrev pub Was : List ℕ → Outline → Type 0
Was s m = Bytes s × (read_answer s ≡ Ok m)
