-- The lanes and the book together: when a call is accepted, and what it leaves. Definitions only.
use Rattle.std.specs.Prelude.{◌≡◌, ℕ, ◌+◌, Bool, true, false, ◌&&◌, List, [], ◌∷◌, ◌++◌, length, get_or, set, replicate, ltb, leb, Err, Ok, Result}
use Rattle.zvt_rules.specs.declared.Refusal.{Refusal}
use Rattle.basics.specs.Choice.{pick}
use Rattle.zvt_rules.specs.Reading.{unplaced}
use Rattle.zvt_rules.specs.Refusals.{no_such_lane, book_full, no_room}
use Rattle.desk_rules.specs.declared.Lane.{Lane}
use Rattle.desk_rules.specs.declared.Line.{Line}
use Rattle.desk_rules.specs.declared.Moved.{Moved}
use Rattle.desk_rules.specs.declared.Moved.TheVariants.{Stays, Becomes, Ends}
use Rattle.desk_rules.specs.Numbers.{lane_count, book_lines}
use Rattle.desk_rules.specs.Kinds.{booked, is_idle}
use Rattle.desk_rules.specs.Lanes.{idle_lane, line_at, line_taken}
use Rattle.desk_rules.specs.Course.{Call, lane_of, needs_line, moves, writes}

-- eight lanes, and the lines of the book in their order
pub record State : Type 0 where
  pub lanes : List Lane
  pub lines : List Line

unfoldable pub fresh : State
fresh = record { lanes = replicate lane_count idle_lane; lines = [] }

abbrev pub lane_at : List Lane → ℕ → Lane
lane_at ls i = get_or ls i idle_lane

-- P3: the lines that are kept for open payments
unfoldable pub lines_taken : List Lane → ℕ
lines_taken [] = 0
lines_taken (l ∷ ls) = line_taken l + lines_taken ls

-- R18: "lines and open payments"
unfoldable pub load : State → ℕ
load s = length s.lines + lines_taken s.lanes

-- R19: no payment, and nothing else, is open
unfoldable pub all_idle : List Lane → Bool
all_idle [] = true
all_idle (l ∷ ls) = is_idle l.phase && all_idle ls

-- refused with a number and, where it names one, its place (R31); or accepted
pub data Decision : Type 0 where
  refuse : Refusal → Decision
  accept : Decision

unfoldable pub unless_refused : Result Moved Refusal → Decision → Decision
unless_refused (Err r) other = refuse r
unless_refused (Ok Stays) other = other
unless_refused (Ok (Becomes l)) other = other
unless_refused (Ok (Ends outcome settled code)) other = other

-- R30: "Of the numbers in the order of a call, one is given exactly where its row holds and none before it there does."
-- R34: "12, 13, 16, 17, 18, 11." R35: "12, 14, header, 15, body, 11." R36: "12, 14."
unfoldable pub decide : State → Call → ℕ → Decision
decide s c room =
    let l = lane_at s.lanes (lane_of c) in
    pick (leb lane_count (lane_of c)) (refuse (unplaced no_such_lane))
    (unless_refused (moves l s.lines c)
    (pick (needs_line c && leb book_lines (load s)) (refuse (unplaced book_full)) (pick (ltb room (length (writes l c))) (refuse (unplaced no_room)) accept)))

-- P29: "the lane is idle then and remembers nothing"
unfoldable pub lane_after : Lane → Result Moved Refusal → Lane
lane_after l (Err r) = l
lane_after l (Ok Stays) = l
lane_after l (Ok (Becomes m)) = m
lane_after l (Ok (Ends outcome settled code)) = idle_lane

-- P29: "Every end puts one line into the book", of a kind that is booked
abbrev pub line_if : Bool → Line → List Line
line_if true l = l ∷ []
line_if false l = []

unfoldable pub lines_from : ℕ → Lane → Result Moved Refusal → List Line
lines_from i l (Err r) = []
lines_from i l (Ok Stays) = []
lines_from i l (Ok (Becomes m)) = []
lines_from i l (Ok (Ends outcome settled code)) = line_if (booked l.kind) (line_at i l outcome settled code)

-- what an accepted call leaves
unfoldable pub step : State → Call → State
step s c =
    let i = lane_of c in
    let l = lane_at s.lanes i in
    let m = moves l s.lines c in
    record { lanes = set s.lanes i (lane_after l m); lines = s.lines ++ lines_from i l m }

-- accepted, with room enough for what it writes
unfoldable pub Accepts : State → Call → Type 0
Accepts s c = decide s c (length (writes (lane_at s.lanes (lane_of c)) c)) ≡ accept

-- a run of accepted calls, what it leaves and what each call wrote
unfoldable pub Accepted : State → List Call → Type 0
Accepted s [] = Unit {0}
Accepted s (c ∷ cs) = Accepts s c × Accepted (step s c) cs

unfoldable pub run : State → List Call → State
run s [] = s
run s (c ∷ cs) = run (step s c) cs

unfoldable pub wrote : State → List Call → List (List ℕ)
wrote s [] = []
wrote s (c ∷ cs) = writes (lane_at s.lanes (lane_of c)) c ∷ wrote (step s c) cs
