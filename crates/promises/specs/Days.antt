-- A day at the desk: calls one after another, each with the buffer that it is lent, answered as the functions' contracts state.
-- Definitions only.
use Rattle.std.specs.Prelude.{◌≡◌, ℕ, List, [], ◌∷◌, length, take, replicate, Err, Ok, Result}
use Rattle.basics.specs.Choice.{pick}
use Rattle.zvt_rules.specs.declared.Refusal.{Refusal}
use Rattle.desk_rules.specs.declared.Desk.{Desk}
use Rattle.desk_rules.specs.declared.Answer.{Answer}
use Rattle.desk_rules.specs.declared.Line.{Line}
use Rattle.desk_rules.specs.Openings.{most_command}
use Rattle.desk_rules.specs.Course.{Call, lane_of, opens, NumbersFit}
use Rattle.desk_rules.specs.Memory.{fresh_desk, lines_of_desk, answer_of, leaves_of}
use Rattle.desk_rules.specs.Runs.{having, Exchange, replies}
use Rattle.desk_rules.specs.Payments.{one_by_one}
use Rattle.promises.specs.Answers.{Takes}

-- a call, and what it is lent for its command or reply; a lost link needs none
pub record DeskTurn : Type 0 where
  pub call : Call
  pub out : List ℕ

unfoldable pub calls_in : List DeskTurn → List Call
calls_in [] = []
calls_in (t ∷ ts) = t.call ∷ calls_in ts

-- room enough for every command and reply
unfoldable pub buffer : List ℕ
buffer = replicate most_command 0

-- a terminal's messages are of bytes: what the functions' parameters are
unfoldable pub OfBytes : List Call → Type 0
OfBytes [] = Unit {0}
OfBytes (c ∷ cs) = NumbersFit c × OfBytes cs

abbrev pub answer_in : Desk → DeskTurn → Answer
answer_in d t = answer_of d t.call (length t.out)

-- every call is taken
unfoldable pub Taken : Desk → List DeskTurn → Type 0
Taken d [] = Unit {0}
Taken d (t ∷ ts) = Takes (answer_in d t).reply × Taken (answer_in d t).desk ts

-- the desk that is left
unfoldable pub desk_after : Desk → List DeskTurn → Desk
desk_after d [] = d
desk_after d (t ∷ ts) = desk_after (answer_in d t).desk ts

-- and the bytes that each call wrote
unfoldable pub bytes_by : Result ℕ Refusal → List ℕ → List ℕ
bytes_by (Ok k) out = take k out
bytes_by (Err r) out = []

unfoldable pub written_in : Desk → List DeskTurn → List (List ℕ)
written_in d [] = []
written_in d (t ∷ ts) = bytes_by (answer_in d t).reply (leaves_of d t.call t.out) ∷ written_in (answer_in d t).desk ts

-- the openings among calls, and the first calls of payments
unfoldable pub openings_in : List Call → List Call
openings_in [] = []
openings_in (c ∷ cs) = pick (opens c) (c ∷ openings_in cs) (openings_in cs)

unfoldable pub firsts : List (List Call) → List Call
firsts [] = []
firsts ([] ∷ ps) = firsts ps
firsts ((c ∷ cs) ∷ ps) = c ∷ firsts ps

-- ---- a day from a fresh book

-- the desk at its end, and the lines of the book then
abbrev pub at_end : List DeskTurn → Desk
at_end day = desk_after fresh_desk day

abbrev pub lines_in : List DeskTurn → List Line
lines_in day = lines_of_desk (at_end day)

-- the calls of lane k in their order, each with what it wrote
abbrev pub replies_at : ℕ → List DeskTurn → List Exchange
replies_at k day = having (λ r. lane_of r.call) k (replies (calls_in day) (written_in fresh_desk day))

-- the turns of lane k in their order
abbrev pub turns_at : ℕ → List DeskTurn → List DeskTurn
turns_at k day = having (λ t. lane_of t.call) k day

-- the third demand: "another run from a fresh book, each payment's calls in their own order, first the ended payments one after another in
-- the order in which they ended, then the calls of each payment still open, lane by lane": each call with what it was lent in this one
pub record OtherDay (day other : List DeskTurn) : Type 0 where
  pub calls : calls_in other ≡ one_by_one (calls_in day)
  pub turns : (k : ℕ) → turns_at k other ≡ turns_at k day
