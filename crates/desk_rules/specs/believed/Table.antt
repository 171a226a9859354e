-- When a call of the desk is refused, with which number and at which place, in the order of the rules; and what the command of an opening
-- says to whoever reads it. Definitions only.
use Rattle.std.specs.Prelude.{◌≡◌, false, ◌⊎◌, List, [], ◌∷◌, ℕ, ◌+◌, ◌*◌, ◌≤◌, ◌<◌, length, get_or, None}
use Rattle.zvt_rules.specs.declared.Refusal.{Refusal}
use Rattle.zvt_rules.specs.declared.Status.{Status}
use Rattle.zvt_rules.specs.Reading.{Reading, got, refused, fault_at, unplaced}
use Rattle.zvt_rules.specs.Fields.{Field, plain}
use Rattle.zvt_rules.specs.Message.{Heading, whole_header, bytes, listed, Message, read_of}
use Rattle.zvt_rules.specs.Digits.{number_of}
use Rattle.basics.specs.believed.Lists.{In}
use Rattle.desk_rules.specs.declared.Kind.TheVariants.{Sale}
use Rattle.desk_rules.specs.declared.Phase.{Phase}
use Rattle.desk_rules.specs.declared.Phase.TheVariants.{Idle, Waiting, Running}
use Rattle.desk_rules.specs.declared.Lane.{Lane}
use Rattle.desk_rules.specs.declared.Line.{Line}
use Rattle.desk_rules.specs.declared.Opening.{Opening}
use Rattle.desk_rules.specs.declared.Opening.TheVariants.{Sale as sale, Refund as refund, Reversal as reversal}
use Rattle.desk_rules.specs.Course.{Call, opening, message, lost}
use Rattle.desk_rules.specs.Desk.{State, Decision, refuse, accept}
use Rattle.desk_rules.specs.believed.LastSale.{Named}
use Rattle.desk_rules.specs.believed.Due.{Reads}

-- ---- rows. R30: "Of the numbers in the order of a call, one is given exactly where its row holds and none before it there does."
unfoldable pub Given : List (Refusal → Type 0) → Decision → Type 0
Given [] d = d ≡ accept
Given (Gives ∷ rows) d = ((r : Refusal) × Gives r × (d ≡ refuse r)) ⊎ (((r : Refusal) → Gives r → ⊥) × Given rows d)

-- a row that gives one number, which names no place (R46); one whose number names a place; and one that gives a reading's refusal
abbrev pub GivesNumber : ℕ → Type 0 → Refusal → Type 0
GivesNumber number Holds r = Holds × (unplaced number ≡ r)

abbrev pub GivesAt : ℕ → ℕ → Type 0 → Refusal → Type 0
GivesAt number place Holds r = Holds × (fault_at number place ≡ r)

abbrev pub Refuses : {A : Type 0} → Reading A → Refusal → Type 0
Refuses x r = x ≡ refused r

-- ---- lanes

-- P29: "the lane is idle then and remembers nothing"
abbrev pub nothing : Status
nothing = record { code = None; amount = None; receipt = None }

abbrev pub idle : Lane
idle = record { phase = Idle; kind = Sale; asked = 0; named = 0; status = nothing }

abbrev pub lane_in : State → ℕ → Lane
lane_in s i = get_or s.lanes i idle

abbrev pub phase_at : State → ℕ → Phase
phase_at s i = (lane_in s i).phase

-- P2: "A payment is open while its lane is waiting or running.": how many are
abbrev pub open_in : Phase → ℕ
open_in Idle = 0
open_in Waiting = 1
open_in Running = 1

unfoldable pub open_payments : List Lane → ℕ
open_payments [] = 0
open_payments (l ∷ ls) = open_in l.phase + open_payments ls

-- ---- opening

-- P4: "1 to 999,999,999,999 cents". P5: "1 to 9,999". P6: "0 to 999,999"
abbrev pub Within : Opening → Type 0
Within (sale amount) = (1 ≤ amount) × (amount ≤ 999_999_999_999)
Within (refund password amount) = (password ≤ 999_999) × ((1 ≤ amount) × (amount ≤ 999_999_999_999))
Within (reversal password receipt) = (password ≤ 999_999) × ((1 ≤ receipt) × (receipt ≤ 9_999))

-- P12: "A reversal needs a sale"
abbrev pub Stands : ℕ → List Line → Opening → Type 0
Stands i ls (sale amount) = Unit {0}
Stands i ls (refund password amount) = Unit {0}
Stands i ls (reversal password receipt) = (sold : Line) × Named i receipt ls sold

-- R38: "A sale needs 13 bytes of room, a refund 16, a reversal 9"
abbrev pub needs : Opening → ℕ
needs (sale amount) = 13
needs (refund password amount) = 16
needs (reversal password receipt) = 9

-- R34: "12, 13, 16, 17, 18, 11". P1: "There are eight lanes, 0 to 7". R18: "lines and open payments are 64 already"
abbrev pub opening_rows : State → ℕ → Opening → ℕ → List (Refusal → Type 0)
opening_rows s i o room =
    GivesNumber 12 (8 ≤ i)
    ∷ GivesNumber 13 (phase_at s i ≡ Idle → ⊥)
    ∷ GivesNumber 16 (Within o → ⊥)
    ∷ GivesNumber 17 (Stands i s.lines o → ⊥)
    ∷ GivesNumber 18 (64 ≤ length s.lines + open_payments s.lanes)
    ∷ GivesNumber 11 (room < needs o)
    ∷ []

-- ---- a message from the terminal

-- P19: "04 FF, 06 D1 and 06 D3"; P20: 04 0F; P21: 06 1E; P22: 06 0F
abbrev pub while_running : List ℕ
while_running = 0x04FF ∷ 0x06D1 ∷ 0x06D3 ∷ 0x040F ∷ 0x061E ∷ 0x060F ∷ []

-- R15: "the pair, or a body that is not empty, is not allowed in this phase". Waiting, P15 and P16; running, P19 to P22
abbrev pub Allowed : Phase → Heading → Type 0
Allowed Idle h = ⊥
Allowed Waiting h = (h.size ≡ 0) × (((h.class ≡ 0x80) × (h.instruction ≡ 0x00)) ⊎ (h.class ≡ 0x84))
Allowed Running h = In (h.class * 256 + h.instruction) while_running

-- R35: "12, 14, header, 15, body, 11. The 1 of P21 belongs to the body." P21: "06 1E .. an empty body is refused (1)". R48: "for an empty 06
-- 1E (P21) the first byte behind the body", where the message ends. R38: "a reply 3"
abbrev pub hearing_rows : State → ℕ → List ℕ → ℕ → List (Refusal → Type 0)
hearing_rows s i b room =
    GivesNumber 12 (8 ≤ i)
    ∷ GivesNumber 14 (phase_at s i ≡ Idle)
    ∷ Refuses (whole_header b)
    ∷ GivesNumber 15 ((h : Heading) × (whole_header b ≡ got h) × (Allowed (phase_at s i) h → ⊥))
    ∷ Refuses (read_of b)
    ∷ GivesAt 1 (length b) (Reads b 0x06 0x1E (bytes []))
    ∷ GivesNumber 11 ((phase_at s i ≡ Running) × (room < 3))
    ∷ []

-- ---- a lost link. R36: "12, 14"
abbrev pub losing_rows : State → ℕ → List (Refusal → Type 0)
losing_rows s i = GivesNumber 12 (8 ≤ i) ∷ GivesNumber 14 (phase_at s i ≡ Idle) ∷ []

-- ---- a call is refused, or accepted, by its rows
abbrev pub Row : State → Call → ℕ → Decision → Type 0
Row s (opening i o) room = Given (opening_rows s i o room)
Row s (message i b) room = Given (hearing_rows s i b room)
Row s (lost i) room = Given (losing_rows s i)

-- ---- what a command says

-- class 06 with that instruction, in the short form, with that password and fields
abbrev pub said : ℕ → List ℕ → List Field → Message
said instruction password fs = record { class = 0x06; instruction = instruction; long = false; body = listed password fs }

-- P7: "The currency in a command is always 0978."
abbrev pub money : List ℕ → List Field
money amount = plain 0x04 amount ∷ plain 0x49 (0x09 ∷ 0x78 ∷ []) ∷ []

-- P9: "A sale is 06 01 with fields 04 and 49, in this order." P10: "A refund is 06 31 with the password and fields 04 and 49, in this
-- order." P11: "A reversal is 06 30 with the password and field 87."
abbrev pub Commands : Opening → Message → Type 0
Commands (sale amount) m = (a : List ℕ) × (number_of a ≡ amount) × (m ≡ said 0x01 [] (money a))
Commands (refund password amount) m = (w : List ℕ) × (a : List ℕ) × (number_of w ≡ password) × (number_of a ≡ amount) × (m ≡ said 0x31 w (money a))
Commands (reversal password receipt) m =
    (w : List ℕ) × (r : List ℕ) × (number_of w ≡ password) × (number_of r ≡ receipt) × (m ≡ said 0x30 w (plain 0x87 r ∷ []))
