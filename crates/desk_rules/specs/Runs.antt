-- A run of calls, lane by lane: the calls of a lane, the payments that it opens, and what is replied. Definitions only.
use Rattle.std.specs.Prelude.{ℕ, ◌+◌, List, [], ◌∷◌, eqb}
use Rattle.basics.specs.Choice.{pick}
use Rattle.desk_rules.specs.declared.Lane.{Lane}
use Rattle.desk_rules.specs.declared.Line.{Line}
use Rattle.desk_rules.specs.Course.{Call, lane_of, needs_line}
use Rattle.desk_rules.specs.Desk.{State, lane_at}

-- ---- words for P35: "A call touches the lane that it names and no other."

-- the elements of a list whose number is k, in their order
unfoldable pub having : {A : Type 0} → (A → ℕ) → ℕ → List A → List A
having f k [] = []
having f k (x ∷ xs) = pick (eqb (f x) k) (x ∷ having f k xs) (having f k xs)

-- the lines of lane k, and the calls for it
abbrev pub of_lane : ℕ → List Line → List Line
of_lane k ls = having (λ l. l.lane) k ls

abbrev pub calls_of : ℕ → List Call → List Call
calls_of k cs = having lane_of k cs

-- all that a lane's calls can see and change: the lane, and its own lines
pub record Own : Type 0 where
  pub lane : Lane
  pub lines : List Line

abbrev pub own_of : ℕ → State → Own
own_of k s = record { lane = lane_at s.lanes k; lines = of_lane k s.lines }

-- ---- the third demand: "Payments opened = book lines + open payments"

-- the sum of the elements' numbers
unfoldable pub total : {A : Type 0} → (A → ℕ) → List A → ℕ
total f [] = 0
total f (x ∷ xs) = f x + total f xs

-- 1 for a call that opens a payment, and how many payments are opened
unfoldable pub one_opened : Call → ℕ
one_opened c = pick (needs_line c) 1 0

abbrev pub openings : List Call → ℕ
openings cs = total one_opened cs

-- ---- the third demand: "book, lanes and each reply are those of another run"

-- a call with what it wrote
pub record Exchange : Type 0 where
  pub call : Call
  pub wrote : List ℕ

-- calls, each with what it wrote
unfoldable pub replies : List Call → List (List ℕ) → List Exchange
replies [] ws = []
replies (c ∷ cs) [] = []
replies (c ∷ cs) (w ∷ ws) = record { call = c; wrote = w } ∷ replies cs ws
