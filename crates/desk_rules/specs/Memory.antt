-- The desk's memory, and what each function answers and leaves, by the course. Definitions only.
use Rattle.std.specs.Prelude.{◌≡◌, ℕ, ◌+◌, ◌≤◌, List, length, get_or, set, take, replicate, ltb, Err, None, Ok, Option, Result, Some}
use Rattle.zvt_rules.specs.declared.Refusal.{Refusal}
use Rattle.basics.specs.Choice.{pick}
use Rattle.zvt_rules.specs.Reading.{unplaced}
use Rattle.zvt_rules.specs.Refusals.{payment_open, no_such_lane}
use Rattle.basics.specs.Buffers.{front}
use Rattle.desk_rules.specs.declared.Lane.{Lane}
use Rattle.desk_rules.specs.declared.Line.{Line}
use Rattle.desk_rules.specs.declared.Moved.{Moved}
use Rattle.desk_rules.specs.declared.Moved.TheVariants.{Stays, Becomes, Ends}
use Rattle.desk_rules.specs.Numbers.{lane_count, book_lines, most_asked}
use Rattle.desk_rules.specs.Kinds.{booked}
use Rattle.desk_rules.specs.Lanes.{blank_line, idle_lane, line_at}
use Rattle.desk_rules.specs.Course.{Call, lane_of, moves, writes}
use Rattle.desk_rules.specs.Desk.{State, lane_at, lines_taken, all_idle, Decision, refuse, accept, decide}
use Rattle.desk_rules.specs.declared.Book.{Book}
use Rattle.desk_rules.specs.declared.Desk.{Desk}
use Rattle.desk_rules.specs.declared.Answer.{Answer}

abbrev pub empty_book : Book
empty_book = record { lines = replicate book_lines blank_line; count = 0 }

abbrev pub fresh_desk : Desk
fresh_desk = record { lanes = replicate lane_count idle_lane; book = empty_book }

-- the lines of the book, and the desk as the course sees it
abbrev pub lines_of_desk : Desk → List Line
lines_of_desk d = take d.book.count d.book.lines

unfoldable pub view : Desk → State
view d = record { lanes = d.lanes; lines = lines_of_desk d }

-- the lane that a call names
abbrev pub lane_for : Desk → Call → Lane
lane_for d c = lane_at d.lanes (lane_of c)

-- no amount above twelve digits
unfoldable pub ToldSmall : Option ℕ → Type 0
ToldSmall None = Unit {0}
ToldSmall (Some a) = a ≤ most_asked

-- P37: what holds of every desk
pub record Valid (d : Desk) : Type 0 where
  pub lanes : length d.lanes ≡ lane_count
  pub lines : length d.book.lines ≡ book_lines
  pub lines_fit : d.book.count + lines_taken d.lanes ≤ book_lines
  pub told : (i : ℕ) → ToldSmall (get_or d.lanes i idle_lane).status.amount
  pub settled : (k : ℕ) → (get_or d.book.lines k blank_line).settled ≤ most_asked

abbrev pub with_line : Book → Line → Book
with_line b l = record { lines = set b.lines b.count l; count = b.count + 1 }

-- P29: "Every end puts one line into the book; the lane is idle then and remembers nothing."
unfoldable pub ended_desk : Desk → ℕ → Line → Desk
ended_desk d i l = record { lanes = set d.lanes i idle_lane; book = pick (booked l.kind) (with_line d.book l) d.book }

-- what a move of lane i leaves
unfoldable pub moved_desk : Desk → ℕ → Result Moved Refusal → Desk
moved_desk d i (Err r) = d
moved_desk d i (Ok Stays) = d
moved_desk d i (Ok (Becomes l)) = record { lanes = set d.lanes i l; book = d.book }
moved_desk d i (Ok (Ends outcome settled code)) = ended_desk d i (line_at i (lane_at d.lanes i) outcome settled code)

unfoldable pub refused_answer : Desk → Refusal → Answer
refused_answer d r = record { reply = Err r; desk = d }

-- R31: "A refusal answers its number and, where it names one (R46), its place, and nothing else." R32: it "leaves the desk and all lent
-- buffers as they were"
unfoldable pub answer_by : Decision → Desk → Call → Answer
answer_by (refuse r) d c = refused_answer d r
answer_by accept d c =
    let l = lane_at d.lanes (lane_of c) in
    record { reply = Ok (length (writes l c)); desk = moved_desk d (lane_of c) (moves l (lines_of_desk d) c) }

unfoldable pub answer_of : Desk → Call → ℕ → Answer
answer_of d c room = answer_by (decide (view d) c room) d c

-- R32: "all lent buffers as they were". R33: "Success leaves the bytes of a lent buffer behind those written as they were."
unfoldable pub leaves_by : Decision → Desk → Call → List ℕ → List ℕ
leaves_by (refuse r) d c out = out
leaves_by accept d c out = front (writes (lane_at d.lanes (lane_of c)) c) out

unfoldable pub leaves_of : Desk → Call → List ℕ → List ℕ
leaves_of d c out = leaves_by (decide (view d) c (length out)) d c out

-- R19: "a payment is open at closing". P36: "Closing leaves an empty book": what is given back is a fresh desk
unfoldable pub close_answer : Desk → Answer
close_answer d = pick (all_idle d.lanes) (record { reply = Ok 0; desk = fresh_desk }) (refused_answer d (unplaced payment_open))

unfoldable pub line_answer : ℕ → List Line → Option Line
line_answer k ls = pick (ltb k (length ls)) (Some (get_or ls k blank_line)) None

unfoldable pub lane_answer : ℕ → List Lane → Result Lane Refusal
lane_answer i ls = pick (ltb i lane_count) (Ok (get_or ls i idle_lane)) (Err (unplaced no_such_lane))
