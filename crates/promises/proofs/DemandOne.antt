-- The first demand: "Every call ends and stays within its memory, for all bytes and all numbers, with nothing left for the caller to
-- test beforehand. A refusal is given exactly where the rules say, with its number, and changes neither the desk nor a byte of
-- the buffers it was lent." The first sentence is each function's own theorem (Ends.antt); here is the second. Assumes nothing.
use mathlib.Core.Path.{◌≡◌}
use mathlib.Core.Logic.Iff
use mathlib.Core.Logic.{◌↔◌}
use mathlib.Core.List.{List}
use Prim.Native.Nat.{ℕ, ◌≤◌}
use lib.ListN.{length, drop}
use Rattle.std.specs.Prelude.{Err, None, Ok, Some}
use Rattle.zvt_rules.specs.declared.Refusal.{Refusal}
use Rattle.zvt_rules.specs.declared.Heard.{Heard}
use Rattle.zvt_rules.specs.Reading.{unplaced}
use Rattle.zvt_rules.specs.Answers.{header_answer, read_answer, first_answer, shorten_answer, shorten_leaves}
use Rattle.zvt_rules.specs.Listed.{field_answer}
use Rattle.zvt_rules.specs.Heard.{hear_answer}
use Rattle.basics.specs.believed.Lists.{Bytes}
use Rattle.zvt_rules.specs.believed.Rows.{WholeNo, ReadNo, FirstNo, ShortNo}
use Rattle.zvt_rules.proofs.RowMessages as rows
use Rattle.zvt_rules.proofs.AnswerLaws as reports
use Rattle.zvt_rules.proofs.HeardLaws as heard
use Rattle.desk_rules.specs.declared.Desk.{Desk}
use Rattle.desk_rules.specs.declared.Lane.{Lane}
use Rattle.desk_rules.specs.declared.Line.{Line}
use Rattle.desk_rules.specs.Course.{Call, NumbersFit}
use Rattle.desk_rules.specs.Desk.{refuse, accept}
use Rattle.desk_rules.specs.believed.Table.{Row}
use Rattle.desk_rules.specs.Memory.{fresh_desk, lines_of_desk, view, Valid, answer_of, leaves_of, close_answer, line_answer, lane_answer}
use Rattle.desk_rules.proofs.Rows.{table}
use Rattle.desk_rules.proofs.Memory as memory
use Rattle.promises.specs.Answers.{Takes, At, Open}
use Rattle.promises.proofs.Answers.{short-says, short-leaves, short-beyond, decided-no, decided-yes, call_same, call-beyond, closing-no, closing-yes, closing_same}
use Rattle.promises.proofs.TheFields.{refused-as-read}
use Rattle.promises.proofs.Asked.{heard-no, heard-yes, lane-no, lane-yes, line-some, line-none}

-- ---- R37: reading and shortening. A refusal is a number and its place; so have the rows (zvt_rules/specs/believed/Rows.antt).
module _ (s : List ℕ) (b : Bytes s) (r : Refusal) where
  -- A header is refused with a number exactly where a row for headers (R39) has that number.
  pub header-refused-exactly : (header_answer s ≡ Err r) ↔ WholeNo s r
  header-refused-exactly = Iff.trans (reports.header-refused-exactly s r) (rows.whole-exactly s b r)

  -- Bytes are refused as a message, with a number and at a place, exactly where a row for header or body (R39 to R44) has both.
  pub read-refused-exactly : (read_answer s ≡ Err r) ↔ ReadNo s r
  read-refused-exactly = Iff.trans (reports.read-refused-exactly s r) (rows.read-no-exactly s b r)

  -- A message that is asked for a field, whichever, is refused just so (F10).
  pub field-refused-exactly : (id : ℕ) → (field_answer id s ≡ Err r) ↔ ReadNo s r
  field-refused-exactly id = Iff.trans (refused-as-read s b id r) read-refused-exactly

  -- What a desk asks of a message is refused where its header is; what the body tells is refused where the message is.
  pub heard-refused-exactly : (hear_answer s ≡ Err r) ↔ WholeNo s r
  heard-refused-exactly = Iff.trans (heard-no s r) header-refused-exactly

  pub told-refused-exactly : (h : Heard) → hear_answer s ≡ Ok h → (h.told ≡ Err r) ↔ ReadNo s r
  told-refused-exactly h e = rw (← (heard-yes s h e).2) (Iff.trans (heard.body-refused-exactly s r) read-refused-exactly)

  -- The same where further messages may follow: then nothing is left over.
  pub first-refused-exactly : (first_answer s ≡ Err r) ↔ FirstNo s r
  first-refused-exactly = Iff.trans (reports.first-refused-exactly s r) (rows.first-no-exactly s b r)

  -- Shortening is refused where reading is, and with 11 where the shortest message does not fit.
  pub shorten-refused-exactly : (room : ℕ) → (shorten_answer room s ≡ Err r) ↔ ShortNo room s r
  shorten-refused-exactly room = Iff.trans (short-says room s r) (rows.short-no-exactly s b room r)

-- ---- R34, R35, R36: the calls of the desk

-- A call is refused with a number and its place exactly where the row of that number holds (desk_rules/specs/believed/Table.antt): of an
-- opening, R34, "12, 13, 16, 17, 18, 11"; of a message, R35, "12, 14, header, 15, body, 11"; of a lost link, R36, "12, 14".
pub refused-exactly : (d : Desk) (c : Call) (room : ℕ) (r : Refusal) → ((answer_of d c room).reply ≡ Err r) ↔ Row (view d) c room (refuse r)
refused-exactly d c room r = Iff.trans (decided-no d c room r) (table (view d) c room (refuse r))

-- Else it is taken: a desk that refuses everything is no desk.
pub taken-exactly : (d : Desk) (c : Call) (room : ℕ) → Takes (answer_of d c room).reply ↔ Row (view d) c room accept
taken-exactly d c room = Iff.trans (decided-yes d c room) (table (view d) c room accept)

-- ---- R19: "a payment is open at closing"
module _ (d : Desk) (v : Valid d) where
  -- The day is not closed over an open payment.
  pub close-refused-exactly : (r : Refusal) → ((close_answer d).reply ≡ Err r) ↔ (Open d × (unplaced 19 ≡ r))
  close-refused-exactly = closing-no d v

  -- Else it is closed, and the next day begins with a fresh desk.
  pub closed-exactly : (((close_answer d).reply ≡ Ok 0) × ((close_answer d).desk ≡ fresh_desk)) ↔ (Open d → ⊥)
  closed-exactly = closing-yes d v

-- ---- R36: "A question about a lane: 12."

-- A lane is asked for in vain exactly where there is no such lane.
pub lane-refused-exactly : (d : Desk) (i : ℕ) (r : Refusal) → (lane_answer i d.lanes ≡ Err r) ↔ ((8 ≤ i) × (unplaced 12 ≡ r))
lane-refused-exactly = lane-no

-- Else the answer is that lane.
pub lane-exactly : (d : Desk) (i : ℕ) → Valid d → (l : Lane) → (lane_answer i d.lanes ≡ Ok l) ↔ At d.lanes i l
lane-exactly = lane-yes

-- A question about a line is not refused: it is answered by that line of the book, and by none exactly behind the last.
pub line-exactly : (d : Desk) (k : ℕ) (l : Line) → (line_answer k (lines_of_desk d) ≡ Some l) ↔ At (lines_of_desk d) k l
line-exactly = line-some

pub no-line-exactly : (d : Desk) (k : ℕ) → (line_answer k (lines_of_desk d) ≡ None) ↔ (length (lines_of_desk d) ≤ k)
no-line-exactly = line-none

-- ---- "and changes neither the desk nor a byte of the buffers it was lent"

-- R32: "A refusal leaves the desk and all lent buffers as they were."
pub refused-unchanged : (d : Desk) (c : Call) (out : List ℕ) (r : Refusal) → (answer_of d c (length out)).reply ≡ Err r
    → ((answer_of d c (length out)).desk ≡ d) × (leaves_of d c out ≡ out)
refused-unchanged = call_same

-- So does a refused closing.
pub close-unchanged : (d : Desk) → Valid d → (r : Refusal) → (close_answer d).reply ≡ Err r → (close_answer d).desk ≡ d
close-unchanged = closing_same

-- A refused shortening leaves the buffer as it was.
pub shorten-unchanged : (s out : List ℕ) (r : Refusal) → shorten_answer (length out) s ≡ Err r → shorten_leaves s out ≡ out
shorten-unchanged = short-leaves

-- R33: "Success leaves the bytes of a lent buffer behind those written as they were."
pub beyond-unchanged : (d : Desk) (c : Call) (out : List ℕ) (k : ℕ) → (answer_of d c (length out)).reply ≡ Ok k
    → drop k (leaves_of d c out) ≡ drop k out
beyond-unchanged = call-beyond

pub shorten-beyond-unchanged : (s out : List ℕ) (k : ℕ) → shorten_answer (length out) s ≡ Ok k
    → drop k (shorten_leaves s out) ≡ drop k out
shorten-beyond-unchanged = short-beyond

-- ---- P37: all that a function presumes of its desk holds of the fresh one, and every call keeps it

-- A desk that these functions gave out may be handed to any of them.
pub fresh-fit : Valid fresh_desk
fresh-fit = memory.fresh-valid

pub call-fit : (d : Desk) (c : Call) (room : ℕ) → Valid d → NumbersFit c → Valid (answer_of d c room).desk
call-fit = memory.answer-valid

pub close-fit : (d : Desk) → Valid d → Valid (close_answer d).desk
close-fit = memory.close-valid
