-- Steps of the code, private: what the readers of a header answer, by the definitions of crate zvt_rules. Definitions only.
use Rattle.std.specs.Prelude.{ℕ, ◌+◌, List, length, ltb, Err, Ok, Result}
use Rattle.zvt_rules.specs.Reading.{Reading, got, refused, unplaced, unless, and_then}
use Rattle.zvt_rules.specs.Refusals.{too_long, ends_too_soon}
use Rattle.zvt_rules.specs.Limits.{most_body}
use Rattle.zvt_rules.specs.Message.{Heading, header_of, whole_header}
use Rattle.zvt_rules.specs.Answers.{header_in}
use Rattle.zvt_rules.specs.declared.Header.{Header}
use Rattle.zvt_rules.specs.declared.Refusal.{Refusal}

unfoldable pub as_header : Reading Header → Result Header Refusal
as_header (got h) = Ok h
as_header (refused r) = Err r

unfoldable pub fitting : Header → List ℕ → Result Header Refusal
fitting h s =
    as_header (unless (ltb most_body h.length) (unplaced too_long) (unless (ltb (length s) (h.start + h.length)) (unplaced ends_too_soon) (got h)))

-- a header in the code's terms: the one that s begins with, and the one of a message that s is
abbrev pub in_code : Reading Heading → Result Header Refusal
in_code x = as_header (and_then x λ h. got (header_in h))

abbrev pub first_header : List ℕ → Result Header Refusal
first_header s = in_code (header_of s)

abbrev pub whole_answer : List ℕ → Result Header Refusal
whole_answer s = in_code (whole_header s)
