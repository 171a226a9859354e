-- The book, the lanes, the net turnover and the blocks of a tape as a program prints them, and what a replay tells (T31), in the words of
-- TRIAL.md. Definitions only.
use Rattle.std.specs.Prelude.{ℕ, zero, suc, ◌+◌, ◌*◌, ◌/◌, List, [], ◌∷◌, ◌++◌, length, take, drop, eqb, ℤ, pos, negsuc, Err, None, Ok, Option, Result, Some}
use Rattle.basics.specs.Choice.{pick}
use Rattle.basics.specs.Text.{hex_text, decimal_text}
use Rattle.basics.specs.believed.Text.{ascii}
use Rattle.basics.specs.Lists.{numbered}
use Rattle.zvt_rules.specs.declared.Status.{Status}
use Rattle.desk_rules.specs.Turnover.{net_of}
use Rattle.desk_rules.specs.declared.Kind.{Kind}
use Rattle.desk_rules.specs.declared.Kind.TheVariants.{Sale, Refund, Reversal}
use Rattle.desk_rules.specs.declared.Outcome.{Outcome}
use Rattle.desk_rules.specs.declared.Outcome.TheVariants.{Unclear, Declined, Approved}
use Rattle.desk_rules.specs.declared.Phase.{Phase}
use Rattle.desk_rules.specs.declared.Phase.TheVariants.{Idle, Waiting, Running}
use Rattle.desk_rules.specs.declared.Lane.{Lane}
use Rattle.desk_rules.specs.declared.Line.{Line}
use Rattle.zvt_rules.specs.declared.Refusal.{Refusal}
use Rattle.tape_rules.specs.Block.{block_size}
use Rattle.printing.specs.Answers.{line, number_text, counted_text, bytes_line}

-- ---- the book
abbrev pub kind_text : Kind → List ℕ
kind_text Sale = ascii "sale"
kind_text Refund = ascii "refund"
kind_text Reversal = ascii "reversal"

abbrev pub outcome_text : Outcome → List ℕ
outcome_text Unclear = ascii "unclear"
outcome_text Declined = ascii "declined"
outcome_text Approved = ascii "approved"

abbrev pub ending_text : Outcome → ℕ → List ℕ
ending_text outcome code = line (outcome_text outcome ∷ hex_text code ∷ [])

-- "A line of `book` is `NUMBER LANE KIND ASKED SETTLED RECEIPT OUTCOME CODE`."
unfoldable pub line_text : ℕ → Line → List ℕ
line_text number l =
    line (
    decimal_text number ∷ decimal_text l.lane ∷ kind_text l.kind ∷ decimal_text l.asked ∷ decimal_text l.settled
    ∷ decimal_text l.receipt ∷ outcome_text l.outcome ∷ hex_text l.code ∷ []
    )

-- "one line each, then `end COUNT`"; "The number counts from 1"
abbrev pub lines_text : List Line → List ℕ
lines_text ls = numbered line_text 1 ls

unfoldable pub book_text : List Line → List ℕ
book_text ls = lines_text ls ++ counted_text (ascii "end") (length ls)

-- T31: "The last line is `end`, the place, and `ok` or `refused` with a number."
abbrev pub last_text : ℕ → Result (Unit {0}) Refusal → List ℕ
last_text place (Ok tt) = line (ascii "end" ∷ decimal_text place ∷ ascii "ok" ∷ [])
last_text place (Err r) = line (ascii "end" ∷ decimal_text place ∷ ascii "refused" ∷ decimal_text r.number ∷ [])

-- T31: "The program prints the book, a line for each of its lines"
unfoldable pub replayed_text : List Line → ℕ → Result (Unit {0}) Refusal → List ℕ
replayed_text ls place ending = lines_text ls ++ last_text place ending

-- 64 lines of at most 76 bytes, and the last
abbrev pub book_room : ℕ
book_room = 64 * 76 + 64

-- ---- the lanes: what is remembered, "`-` for what is not"
abbrev pub code_text : Option ℕ → List ℕ
code_text None = ascii "-"
code_text (Some b) = hex_text b

abbrev pub number_or_none : Option ℕ → List ℕ
number_or_none None = ascii "-"
number_or_none (Some n) = decimal_text n

-- code, amount and receipt that a status information told
unfoldable pub status_text : Status → List ℕ
status_text s = line (code_text s.code ∷ number_or_none s.amount ∷ number_or_none s.receipt ∷ [])

-- "A told receipt 0000 is shown as none, as in the book"
abbrev pub shown : Option ℕ → Option ℕ
shown None = None
shown (Some n) = pick (eqb n 0) None (Some n)

abbrev pub remembered : Status → Status
remembered s = record { code = s.code; amount = s.amount; receipt = shown s.receipt }

-- of a lane that is not idle: kind, amount asked and "the one that a reversal named", each with a blank before it
abbrev pub payment_text : Lane → List ℕ
payment_text l = ascii " " ++ (kind_text l.kind ++ (number_text l.asked ++ number_text l.named))

-- "`LANE idle`, `LANE waiting KIND ASKED RECEIPT` or `LANE running KIND ASKED RECEIPT CODE AMOUNT RECEIPT`"
abbrev pub phase_text : ℕ → Lane → Phase → List ℕ
phase_text i l Idle = line (decimal_text i ∷ ascii "idle" ∷ [])
phase_text i l Waiting = line (decimal_text i ∷ ascii "waiting" ∷ kind_text l.kind ∷ decimal_text l.asked ∷ decimal_text l.named ∷ [])
phase_text i l Running =
    line (
    decimal_text i ∷ ascii "running" ∷ kind_text l.kind ∷ decimal_text l.asked ∷ decimal_text l.named
    ∷ code_text l.status.code ∷ number_or_none l.status.amount ∷ number_or_none (shown l.status.receipt) ∷ []
    )

unfoldable pub lane_text : ℕ → Lane → List ℕ
lane_text i l = phase_text i l l.phase

-- "eight lines"
abbrev pub lanes_text : List Lane → List ℕ
lanes_text ls = numbered lane_text 0 ls

-- eight of at most 76 bytes
abbrev pub lanes_room : ℕ
lanes_room = 8 * 76

-- ---- the net turnover: "a number, with `-` before it where it is negative"
unfoldable pub signed_text : ℤ → List ℕ
signed_text (pos n) = line (decimal_text n ∷ [])
signed_text (negsuc n) = line ((ascii "-" ++ decimal_text (suc n)) ∷ [])

abbrev pub net_text : List Line → List ℕ
net_text ls = signed_text (net_of ls)

-- ---- a tape: "one line of hex for each block, then `end COUNT`"
unfoldable pub blocks_text : ℕ → List ℕ → List ℕ
blocks_text zero s = []
blocks_text (suc k) s = bytes_line (take block_size s) ++ blocks_text k (drop block_size s)

unfoldable pub tape_text : List ℕ → List ℕ
tape_text s = let count = length s / block_size in blocks_text count s ++ counted_text (ascii "end") count
