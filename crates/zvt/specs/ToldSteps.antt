-- Steps of the code, private: what the body behind a header tells. Definitions only.
use Rattle.std.specs.Prelude.{◌≡◌, ℕ, List, None, Ok, Option}
use Rattle.zvt_rules.specs.declared.Header.{Header}
use Rattle.zvt_rules.specs.declared.ToldBody.{ToldBody}
use Rattle.zvt_rules.specs.Reading.{Reading, got, refused}
use Rattle.zvt_rules.specs.Message.{Message, read_of}
use Rattle.zvt_rules.specs.Heard.{first_byte, told_answer}
use Rattle.zvt.specs.HeaderSteps.{whole_answer}

-- the header of the message that s is
abbrev pub HeaderOf : Header → List ℕ → Type 0
HeaderOf h s = whole_answer s ≡ Ok h

-- what the message that s is tells, and the first byte of its body
abbrev pub Tells : ToldBody → List ℕ → Type 0
Tells t s = told_answer (read_of s) ≡ Ok t

unfoldable pub first_in : Reading Message → Option ℕ
first_in (got m) = first_byte m.body
first_in (refused f) = None
