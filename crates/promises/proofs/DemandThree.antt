-- The third demand: "From a fresh day book, any accepted calls on the eight lanes, in any order, up to any moment before the day is
-- closed: book, lanes and each reply are those of another run from a fresh book, each payment's calls in their own order, first the
-- ended payments one after another in the order in which they ended, then the calls of each payment still open, lane by lane.
-- Payments opened = book lines + open payments; net turnover = approved sales less approved reversals and refunds, judged from the
-- terminals' messages by the rules and not from stored sums." A day is any list of calls that the desk accepted. Assumes nothing.
use mathlib.Core.Path.{◌≡◌}
use mathlib.Core.Bool.{true}
use mathlib.Core.Logic.{◌↔◌}
use mathlib.Core.List.{List, []}
use Prim.Native.Nat.{ℕ, ◌+◌, ◌<◌}
use lib.IntN.{pos, ◌-ℤ◌}
use lib.ListN.{length, get_or, take}
use Rattle.desk_rules.specs.declared.Opening.{Opening}
use Rattle.desk_rules.specs.declared.Lane.{Lane}
use Rattle.desk_rules.specs.declared.Line.{Line}
use Rattle.desk_rules.specs.Kinds.{booked}
use Rattle.desk_rules.specs.Lanes.{blank_line}
use Rattle.desk_rules.specs.Openings.{kind_of}
use Rattle.desk_rules.specs.Desk.{State, lane_at, lines_taken}
use Rattle.desk_rules.specs.Memory.{fresh_desk, view}
use Rattle.desk_rules.specs.Runs.{calls_of, openings}
use Rattle.desk_rules.specs.Payments.{Payments, payments_of, one_by_one}
use Rattle.desk_rules.specs.Turnover.{net_of}
use Rattle.desk_rules.specs.believed.Due.{LineDue, LaneIs, Takings}
use Rattle.desk_rules.specs.believed.Grouping.{Grouping}
use Rattle.desk_rules.proofs.Calls.{every-kind}
use Rattle.desk_rules.proofs.Runs as runs
use Rattle.desk_rules.proofs.DayBook as book
use Rattle.desk_rules.proofs.Order as law
use Rattle.desk_rules.proofs.Grouping as grouping
use Rattle.desk_rules.proofs.Net as net
use Rattle.promises.specs.Days.{DeskTurn, calls_in, OfBytes, Taken, at_end, lines_in, replies_at, OtherDay}
use Rattle.promises.proofs.Turns.{a-day, of-desk}
use Rattle.promises.proofs.OtherDays.{another, as-other}

module _ (day : List DeskTurn) (b : OfBytes (calls_in day)) (t : Taken fresh_desk day) where
  -- Terminals that talk at once do to the book and to each other what they would do one after another, with the same buffers lent.
  pub order : (other : List DeskTurn) → OtherDay day other
      → Taken fresh_desk other × (view (at_end other) ≡ view (at_end day)) × ((k : ℕ) → replies_at k other ≡ replies_at k day)
  order = as-other day b t

  -- There is such a run.
  pub other-day : (other : List DeskTurn) × OtherDay day other
  other-day = another day b t

  -- In it each lane's calls stand in their own order, all of them and no others.
  pub same-calls : (k : ℕ) → calls_of k (one_by_one (calls_in day)) ≡ calls_of k (calls_in day)
  same-calls = law.same-calls (calls_in day) (a-day day b t).accepted

  -- Every payment that was opened has its line or is still open: none is lost, and none counted twice.
  pub count : openings (calls_in day) ≡ length (lines_in day) + lines_taken (at_end day).lanes
  unfolding view
  count =
      let its = a-day day b t in
      of-desk (λ (s : State). openings (calls_in day) ≡ length s.lines + lines_taken s.lanes) day its (runs.count (calls_in day) its.accepted).0

  -- The payments of a day are the one grouping of its calls: each is of one lane and ends with the first call that ends it, they stand in
  -- the order in which they ended, and the others are open.
  pub one-grouping : let calls = calls_in day in Grouping calls (payments_of calls) × ((p : Payments) → Grouping calls p → p ≡ payments_of calls)
  one-grouping = let accepted = (a-day day b t).accepted in (grouping.grouped (calls_in day) accepted, grouping.grouped-once (calls_in day) accepted)

  -- Line j is l exactly when l is due, by the rules, for the j-th payment that ended, after the lines before it; and there are as many
  -- lines as payments that ended.
  pub every-line : let ended = (payments_of (calls_in day)).ended in (length ended ≡ length (lines_in day))
      × ((j : ℕ) → j < length (lines_in day) → (l : Line) → (get_or (lines_in day) j blank_line ≡ l) ↔ LineDue (take j (lines_in day)) (get_or ended j []) l)
  unfolding view
  every-line =
      let its = a-day day b t in
      let ended = (payments_of (calls_in day)).ended in
      of-desk
      (λ (s : State). (length ended ≡ length s.lines)
      × ((j : ℕ) → j < length s.lines → (l : Line) → (get_or s.lines j blank_line ≡ l) ↔ LineDue (take j s.lines) (get_or ended j []) l))
      day its (book.lines-ended (calls_in day) its.accepted, book.line-due (calls_in day) its.accepted)

  -- Each lane is l exactly when the calls of its open payment say so: idle where there are none, waiting where only its opening came, else
  -- running.
  pub every-lane : (k : ℕ) (l : Lane) → (lane_at (at_end day).lanes k ≡ l) ↔ LaneIs k (lines_in day) (get_or (payments_of (calls_in day)).ongoing k []) l
  unfolding view
  every-lane =
      let its = a-day day b t in
      let ongoing = (payments_of (calls_in day)).ongoing in
      of-desk (λ (s : State). (k : ℕ) (l : Lane) → (lane_at s.lanes k ≡ l) ↔ LaneIs k s.lines (get_or ongoing k []) l)
      day its (book.lane-due (calls_in day) its.accepted)

  -- The ended payments have takings: approved sales, and approved reversals and refunds, each by its own messages. Net turnover is the one
  -- less the other.
  pub turnover : let Made = Takings [] (payments_of (calls_in day)).ended in
      ((plus : ℕ) × (minus : ℕ) × Made plus minus) × ((plus minus : ℕ) → Made plus minus → net_of (lines_in day) ≡ pos plus -ℤ pos minus)
  unfolding view
  turnover =
      let its = a-day day b t in
      let Made = Takings [] (payments_of (calls_in day)).ended in
      of-desk
      (λ (s : State). ((plus : ℕ) × (minus : ℕ) × Made plus minus) × ((plus minus : ℕ) → Made plus minus → net_of s.lines ≡ pos plus -ℤ pos minus))
      day its (net.turnover-there (calls_in day) its.accepted, net.turnover-due (calls_in day) its.accepted)

-- A payment of every kind takes a line of the book, and so ends with one.
pub every-kind-booked : (o : Opening) → booked (kind_of o) ≡ true
every-kind-booked o = every-kind (kind_of o)
