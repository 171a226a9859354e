-- What a case asks and answers, and how it is judged: by the definitions that the functions' contracts cite. Definitions only.
use Rattle.std.specs.Prelude.{ℕ, ◌*◌, ◌+◌, Bool, List, [], ◌∷◌, ℤ, length, take, replicate, Err, Ok, Result}
use Rattle.zvt_rules.specs.declared.Refusal.{Refusal}
use Rattle.zvt_rules.specs.Reading.{Reading, got, refused}
use Rattle.zvt_rules.specs.Fields.{Field}
use Rattle.zvt_rules.specs.Message.{Message, read_of}
use Rattle.zvt_rules.specs.Values.{body_fields}
use Rattle.zvt_rules.specs.declared.Outline.{Outline}
use Rattle.zvt_rules.specs.Answers.{read_answer, shorten_answer, shorten_leaves}
use Rattle.zvt_rules.specs.Name.{card_name}
use Rattle.desk_rules.specs.declared.Line.{Line}
use Rattle.desk_rules.specs.declared.Desk.{Desk}
use Rattle.desk_rules.specs.Course.{Call}
use Rattle.desk_rules.specs.Memory.{fresh_desk, lines_of_desk, answer_of, leaves_of}
use Rattle.desk_rules.specs.Turnover.{net_of}
use Rattle.promises.specs.Days.{buffer}

-- ---- a row: what is asked, and what the rules answer

pub data Question : Type 0 where
  -- the message that bytes are; a list of fields, and its card name where the till has none; the bytes with every length shortest
  read list name short : List ℕ → Question
  -- a call after a day of calls; the day itself
  call : List Call → Call → Question
  day : List Call → Question

pub data CaseAnswer : Type 0 where
  -- pair, length of the body, whether every length was shortest, number of objects
  accepted : ℕ → ℕ → Bool → ℕ → CaseAnswer
  fields : List Field → CaseAnswer
  gives : List ℕ → CaseAnswer
  -- the lines, and net turnover
  book : List Line → ℤ → CaseAnswer
  -- the number of refusal
  refusal : ℕ → CaseAnswer

infix 70 ◌⟶◌
pub data CaseRow : Type 0 where
  ◌⟶◌ : Question → CaseAnswer → CaseRow

-- ---- what the definitions answer

-- a refusal by its number, wherever its place is, and values as a row states them
unfoldable pub shown : {A : Type 0} → Result A Refusal → (A → CaseAnswer) → CaseAnswer
shown (Err r) f = refusal r.number
shown (Ok a) f = f a

abbrev pub message_shown : Outline → CaseAnswer
message_shown m = accepted (m.class * 256 + m.instruction) m.length m.shortest m.objects

unfoldable pub list_shown : Reading Message → CaseAnswer
list_shown (got m) = fields (body_fields m.body)
list_shown (refused r) = refusal r.number

-- a list as the body of a status information; an output as long as the message
unfoldable pub status : List ℕ → List ℕ
status s = 0x04 ∷ 0x0F ∷ length s ∷ s

unfoldable pub output : List ℕ → List ℕ
output s = replicate (length s) 0

-- the calls of a day one after another, and then what is asked of the desk; the first refusal is the answer
unfoldable pub after_day : Desk → List Call → (Desk → CaseAnswer) → CaseAnswer
after_day d [] ask = ask d
after_day d (c ∷ cs) ask =
    let a = answer_of d c (length buffer) in
    shown a.reply λ k. after_day a.desk cs ask

-- bytes are those first in the output, as many as were written
unfoldable pub answer_to : Question → CaseAnswer
answer_to (read s) = shown (read_answer s) message_shown
answer_to (list s) = list_shown (read_of (status s))
answer_to (name s) = gives (card_name (status s) [])
answer_to (short s) = shown (shorten_answer (length s) s) λ k. gives (take k (shorten_leaves s (output s)))
answer_to (call cs c) = after_day fresh_desk cs λ d. shown (answer_of d c (length buffer)).reply λ k. gives (take k (leaves_of d c buffer))
answer_to (day cs) = after_day fresh_desk cs λ d. book (lines_of_desk d) (net_of (lines_of_desk d))

-- the answers that the definitions give to a table's rows, and those that stand in them
unfoldable pub computed : List CaseRow → List CaseAnswer
computed [] = []
computed (q ⟶ a ∷ rs) = answer_to q ∷ computed rs

unfoldable pub stated : List CaseRow → List CaseAnswer
stated [] = []
stated (q ⟶ a ∷ rs) = a ∷ stated rs
