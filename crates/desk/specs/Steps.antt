-- Steps of the code: what the steps that change a desk ask of it, and a lane that takes a line. Definitions only.
use Rattle.std.specs.Prelude.{◌≡◌, Bool, true, not, ◌&&◌, ℕ, ◌+◌, ◌<◌, ◌≤◌, length, Ok}
use Rattle.desk_rules.specs.declared.Lane.{Lane}
use Rattle.desk_rules.specs.declared.Line.{Line}
use Rattle.desk_rules.specs.declared.Moved.{Moved}
use Rattle.desk_rules.specs.declared.Desk.{Desk}
use Rattle.desk_rules.specs.Numbers.{lane_count, book_lines}
use Rattle.desk_rules.specs.Kinds.{booked, is_idle}
use Rattle.desk_rules.specs.Desk.{lane_at, lines_from}

-- its arrays are whole, and it has that lane
pub record Sized (d : Desk) (i : ℕ) : Type 0 where
  pub lane : i < lane_count
  pub lanes : length d.lanes ≡ lane_count
  pub lines : length d.book.lines ≡ book_lines

-- a line that is booked finds one that is free
abbrev pub BookedFits : Desk → Line → Type 0
BookedFits d l = booked l.kind ≡ true → d.book.count < book_lines

-- the line that a move of lane i adds finds one that is free
abbrev pub LineFits : Desk → ℕ → Moved → Type 0
LineFits d i m = d.book.count + length (lines_from i (lane_at d.lanes i) (Ok m)) ≤ book_lines

-- a line of the book is kept for the lane's open payment
abbrev pub takes_line : Lane → Bool
takes_line l = not (is_idle l.phase) && booked l.kind
