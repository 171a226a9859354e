-- Steps of the code, private: a message that was read with four ids to look for. Definitions only.
use Rattle.std.specs.Prelude.{ℕ, List, Err, Ok, Result}
use Rattle.zvt_rules.specs.declared.Refusal.{Refusal}
use Rattle.zvt_rules.specs.Reading.{Reading, got, refused}
use Rattle.zvt_rules.specs.Message.{Message, read_of}
use Rattle.zvt_rules.specs.Answers.{outline_of}
use Rattle.zvt_rules.specs.Listed.{password_span, spans_of}
use Rattle.zvt.specs.declared.asking.MessageFound.{MessageFound}

unfoldable pub as_found : List ℕ → Reading Message → Result MessageFound Refusal
as_found ids (got m) = Ok (record { outline = outline_of m; places = record { password = password_span (got m); fields = spans_of (got m) ids } })
as_found ids (refused r) = Err r

unfoldable pub message_found : List ℕ → List ℕ → Result MessageFound Refusal
message_found ids s = as_found ids (read_of s)
