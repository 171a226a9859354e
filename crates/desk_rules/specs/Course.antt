-- The course of a payment: what a call does to its lane. It depends on the lane and on the lane's own lines alone. Definitions only.
use Rattle.std.specs.Prelude.{ℕ, ◌+◌, ◌*◌, Bool, true, false, not, ◌&&◌, List, [], ◌∷◌, eqb, Err, None, Ok, Option, Result, Some}
use Rattle.basics.specs.Choice.{pick}
use Rattle.basics.specs.Lists.{among}
use Rattle.zvt_rules.specs.Reading.{Reading, got, refused, fault_at, unplaced}
use Rattle.zvt_rules.specs.Refusals.{ends_too_soon, lane_not_idle, lane_is_idle, not_allowed, outside_limits}
use Rattle.zvt_rules.specs.Message.{Heading, header_size, whole_header, Message, read_of}
use Rattle.zvt_rules.specs.Heard.{told_in}
use Rattle.basics.specs.believed.Lists.{Bytes}
use Rattle.zvt_rules.specs.declared.Status.{Status}
use Rattle.zvt_rules.specs.declared.ToldBody.{ToldBody}
use Rattle.desk_rules.specs.declared.Kind.{Kind}
use Rattle.desk_rules.specs.declared.Outcome.TheVariants.{Unclear, Declined, Approved}
use Rattle.desk_rules.specs.declared.Phase.{Phase}
use Rattle.desk_rules.specs.declared.Phase.TheVariants.{Idle, Waiting, Running}
use Rattle.desk_rules.specs.declared.Lane.{Lane}
use Rattle.desk_rules.specs.declared.Line.{Line}
use Rattle.desk_rules.specs.declared.Moved.{Moved}
use Rattle.desk_rules.specs.declared.Moved.TheVariants.{Stays, Becomes, Ends}
use Rattle.desk_rules.specs.declared.Opening.{Opening}
use Rattle.zvt_rules.specs.declared.Refusal.{Refusal}
use Rattle.desk_rules.specs.Kinds.{is_reversal, booked, is_idle}
use Rattle.desk_rules.specs.Lanes.{running_lane, reported_lane}
use Rattle.desk_rules.specs.Openings.{kind_of, within_limits, refers_to, last_line, stands, missing_no, opened_lane, command_bytes}

abbrev pub no_move : ℕ → Result Moved Refusal
no_move number = Err (unplaced number)

-- ---- from the terminal
-- P31: "Only an approved line has a settled amount; in others it is 0.": so says every end here that is not approved

abbrev pub pair_is : ℕ → ℕ → ℕ → ℕ → Bool
pair_is class instruction c i = eqb class c && eqb instruction i

-- P15: "80 00 with an empty body makes the lane running." P16: "84 xx with an empty body ends the payment, declined, with code xx".
-- Else R15
unfoldable pub heard_waiting : Lane → Heading → Result Moved Refusal
heard_waiting l h =
    pick (eqb h.size 0)
    (pick (pair_is h.class h.instruction 0x80 0x00) (Ok (Becomes (running_lane l)))
    (pick (eqb h.class 0x84) (Ok (Ends Declined 0 h.instruction)) (no_move not_allowed)))
    (no_move not_allowed)

-- P23: "The settled amount is field 04 of the remembered status; an amount of 0 counts as told." P24: "a remembered status without field
-- 04 means unclear, for every kind". P25: "a reversal is unclear where field 04 says another amount than it asked for"
unfoldable pub settled_as : Kind → ℕ → Option ℕ → Result Moved Refusal
settled_as kind asked None = Ok (Ends Unclear 0 0)
settled_as kind asked (Some a) = pick (is_reversal kind && not (eqb a asked)) (Ok (Ends Unclear 0 0)) (Ok (Ends Approved a 0))

-- P23: "a remembered code 00 means approved, but for P24 and P25". P26: "a remembered code other than 00, or no remembered status, means
-- unclear". P33: "The code at 06 0F is the remembered one, or 0 where nothing is remembered."
unfoldable pub completed_by : Lane → Option ℕ → Result Moved Refusal
completed_by l None = Ok (Ends Unclear 0 0)
completed_by l (Some c) =
    pick (eqb c 0) (settled_as l.kind l.asked l.status.amount) (Ok (Ends Unclear 0 c))

-- P21: "06 1E ends the payment, declined. The first byte of its body is the code, the others are not read; an empty body is refused
-- (1)." R48: "for an empty 06 1E (P21) the first byte behind the body": an empty body ends where it starts
unfoldable pub aborted_by : ℕ → Option ℕ → Result Moved Refusal
aborted_by start None = Err (fault_at ends_too_soon start)
aborted_by start (Some b) = Ok (Ends Declined 0 b)

-- P20: "04 0F with field 27 becomes the remembered status, all of it .. Without field 27 it changes nothing."
unfoldable pub reported_by : Lane → Status → Option ℕ → Result Moved Refusal
reported_by l status None = Ok Stays
reported_by l status (Some c) = Ok (Becomes (reported_lane l status))

-- P22: "06 0F ends the payment." P19: what is left of the pairs that a running lane takes changes nothing
unfoldable pub moved_by : Lane → ℕ → ℕ → ℕ → ToldBody → Result Moved Refusal
moved_by l class instruction start t =
    pick (pair_is class instruction 0x06 0x0F) (completed_by l l.status.code)
    (pick (pair_is class instruction 0x06 0x1E) (aborted_by start t.first)
    (pick (pair_is class instruction 0x04 0x0F) (reported_by l t.status t.status.code) (Ok Stays)))

unfoldable pub after_body : Lane → Reading Message → Result Moved Refusal
after_body l (refused r) = Err r
after_body l (got m) = moved_by l m.class m.instruction (header_size m.long) (told_in m)

-- P19 to P22: the six pairs that a running lane takes; any other is R15, before the body is read
abbrev pub running_pairs : List ℕ
running_pairs = 0x040F ∷ 0x04FF ∷ 0x060F ∷ 0x061E ∷ 0x06D1 ∷ 0x06D3 ∷ []

unfoldable pub heard_running : Lane → List ℕ → Heading → Result Moved Refusal
heard_running l s h =
    pick (among running_pairs (h.class * 256 + h.instruction)) (after_body l (read_of s)) (no_move not_allowed)

unfoldable pub after_header : (Heading → Result Moved Refusal) → Reading Heading → Result Moved Refusal
after_header hears (refused r) = Err r
after_header hears (got h) = hears h

-- R35: "14, header, 15, body"
unfoldable pub heard_by : Phase → Lane → List ℕ → Result Moved Refusal
heard_by Idle l s = no_move lane_is_idle
heard_by Waiting l s = after_header (heard_waiting l) (whole_header s)
heard_by Running l s = after_header (heard_running l s) (whole_header s)

unfoldable pub heard : Lane → List ℕ → Result Moved Refusal
heard l s = heard_by l.phase l s

-- P27: "Where the link is lost, a waiting or running lane ends its payment, unclear". P33: "The code of a lost link is 0."
unfoldable pub lost_by : Lane → Result Moved Refusal
lost_by l = pick (is_idle l.phase) (no_move lane_is_idle) (Ok (Ends Unclear 0 0))

-- ---- opening

-- R34: "13, 16, 17", or another number instead of 17 for a kind that refers to another line
unfoldable pub opened_by : Lane → Opening → Line → Result Moved Refusal
opened_by l o line =
    pick (is_idle l.phase)
    (pick (within_limits o)
    (pick (stands (refers_to o) line) (Ok (Becomes (opened_lane o line))) (no_move (missing_no (refers_to o))))
    (no_move outside_limits))
    (no_move lane_not_idle)

-- ---- the calls: an opening on a lane, a message from its terminal, a lost link
pub data Call : Type 0 where
  opening : ℕ → Opening → Call
  message : ℕ → List ℕ → Call
  lost : ℕ → Call

unfoldable pub lane_of : Call → ℕ
lane_of (opening i o) = i
lane_of (message i s) = i
lane_of (lost i) = i

unfoldable pub opens : Call → Bool
opens (opening i o) = true
opens (message i s) = false
opens (lost i) = false

-- R18: an opening that needs a line of the book
unfoldable pub needs_line : Call → Bool
needs_line (opening i o) = booked (kind_of o)
needs_line (message i s) = false
needs_line (lost i) = false

-- what a function's parameters are: a message is of bytes
unfoldable pub NumbersFit : Call → Type 0
NumbersFit (opening i o) = Unit {0}
NumbersFit (message i s) = Bytes s
NumbersFit (lost i) = Unit {0}

-- what a call does to a lane with those lines
unfoldable pub moves : Lane → List Line → Call → Result Moved Refusal
moves l ls (opening i o) = opened_by l o (last_line i (refers_to o) ls)
moves l ls (message i s) = heard l s
moves l ls (lost i) = lost_by l

-- P18: "A running lane replies 80 00 00 to each accepted message."
abbrev pub reply_bytes : List ℕ
reply_bytes = 0x80 ∷ (0x00 ∷ (0x00 ∷ []))

-- P17: "A waiting lane replies nothing."
unfoldable pub answered : Phase → List ℕ
answered Idle = []
answered Waiting = []
answered Running = reply_bytes

-- what an accepted call writes: an opening its command
unfoldable pub writes : Lane → Call → List ℕ
writes l (opening i o) = command_bytes o
writes l (message i s) = answered l.phase
writes l (lost i) = []
