-- The kinds of opening, a row for each in every table: what it opens, its limits, the line that it refers to, the amount that it asks
-- for, the receipt that it names, its command, and the opening that a command is. Definitions only.
use Rattle.std.specs.Prelude.{ℕ, zero, suc, ◌+◌, Bool, true, false, ◌&&◌, List, [], ◌∷◌, get_or, eqb, None, Option, Some}
use Rattle.basics.specs.Choice.{pick}
use Rattle.zvt_rules.specs.Fields.{Field, plain}
use Rattle.zvt_rules.specs.Message.{Message, listed}
use Rattle.zvt_rules.specs.believed.Writing.{message_bytes}
use Rattle.zvt_rules.specs.Refusals.{no_sale}
use Rattle.zvt_rules.specs.Digits.{digit_bytes_of, number_of}
use Rattle.desk_rules.specs.declared.Kind.{Kind}
use Rattle.desk_rules.specs.declared.Kind.TheVariants.{Sale, Refund, Reversal}
use Rattle.desk_rules.specs.declared.Line.{Line}
use Rattle.desk_rules.specs.declared.Lane.{Lane}
use Rattle.desk_rules.specs.declared.Opening.{Opening}
use Rattle.desk_rules.specs.declared.Opening.TheVariants.{Sale as sale, Refund as refund, Reversal as reversal}
use Rattle.desk_rules.specs.Numbers.{amount_ok, receipt_ok, password_ok}
use Rattle.desk_rules.specs.Kinds.{is_sale, is_approved}
use Rattle.desk_rules.specs.Lanes.{blank_line, waiting_lane}

-- ---- the kind of payment
abbrev pub kind_of : Opening → Kind
kind_of (sale amount) = Sale
kind_of (refund password amount) = Refund
kind_of (reversal password receipt) = Reversal

-- ---- R16: its numbers are within their limits
abbrev pub within_limits : Opening → Bool
within_limits (sale amount) = amount_ok amount
within_limits (refund password amount) = password_ok password && amount_ok amount
within_limits (reversal password receipt) = password_ok password && receipt_ok receipt

-- ---- the line that it refers to
abbrev pub refers_to : Opening → Option ℕ
refers_to (sale amount) = None
refers_to (refund password amount) = None
refers_to (reversal password receipt) = Some receipt

-- P12: "of the approved sale and reversal lines of its lane with that receipt": the kinds that are looked at, and the receipt
abbrev pub looks_at : Option ℕ → Kind → Bool
looks_at None kind = false
looks_at (Some receipt) Sale = true
looks_at (Some receipt) Refund = false
looks_at (Some receipt) Reversal = true

abbrev pub receipt_named : Option ℕ → ℕ
receipt_named None = 0
receipt_named (Some receipt) = receipt

unfoldable pub concerns : ℕ → Option ℕ → Line → Bool
concerns i r l =
    eqb l.lane i && (eqb l.receipt (receipt_named r) && (is_approved l.outcome && looks_at r l.kind))

unfoldable pub last_from : ℕ → Option ℕ → Line → List Line → Line
last_from i r last [] = last
last_from i r last (l ∷ ls) = last_from i r (pick (concerns i r l) l last) ls

-- P12: "the last" of them, or a blank one where there is none
unfoldable pub last_line : ℕ → Option ℕ → List Line → Line
last_line i r ls = last_from i r blank_line ls

-- P12: "must be a sale"
abbrev pub sold : Line → Bool
sold l = is_approved l.outcome && is_sale l.kind

-- ---- whether that line is there; who refers to nothing needs none
abbrev pub stands : Option ℕ → Line → Bool
stands None line = true
stands (Some receipt) line = sold line

-- ---- and the number of refusal where it is not. R17: "there is no sale to reverse (P12)". For nothing there is none
abbrev pub missing_no : Option ℕ → ℕ
missing_no None = 0
missing_no (Some receipt) = no_sale

-- ---- the amount that it asks for. P13: "A reversal asks for the settled amount of that sale"
abbrev pub asked_by : Opening → Line → ℕ
asked_by (sale amount) line = amount
asked_by (refund password amount) line = amount
asked_by (reversal password receipt) line = line.settled

-- ---- the receipt that it names, 0 for none
abbrev pub named_by : Opening → ℕ
named_by (sale amount) = 0
named_by (refund password amount) = 0
named_by (reversal password receipt) = receipt

-- P8: "makes the idle lane waiting, with nothing remembered"; the line is the one that it refers to
abbrev pub opened_lane : Opening → Line → Lane
opened_lane o line = waiting_lane (kind_of o) (asked_by o line) (named_by o)

-- ---- the command

-- P7: "The currency in a command is always 0978."
abbrev pub money : ℕ → List Field
money amount = plain 0x04 (digit_bytes_of 6 amount) ∷ (plain 0x49 (0x09 ∷ (0x78 ∷ [])) ∷ [])

-- class 06, an instruction, a password or none, and fields
abbrev pub command : ℕ → List ℕ → List Field → Message
command instruction password fs = record { class = 0x06; instruction = instruction; long = false; body = listed password fs }

-- P9, P10, P11
unfoldable pub command_of : Opening → Message
command_of (sale amount) = command 0x01 [] (money amount)
command_of (refund password amount) = command 0x31 (digit_bytes_of 3 password) (money amount)
command_of (reversal password receipt) = command 0x30 (digit_bytes_of 3 password) (plain 0x87 (digit_bytes_of 2 receipt) ∷ [])

unfoldable pub command_bytes : Opening → List ℕ
command_bytes o = message_bytes (command_of o)

-- R38: "A sale needs 13 bytes of room, a refund 16, a reversal 9"; no command is longer than a refund's
abbrev pub most_command : ℕ
most_command = 16

abbrev pub command_size : Opening → ℕ
command_size (sale amount) = 13
command_size (refund password amount) = most_command
command_size (reversal password receipt) = 9

-- ---- the opening that a command on a tape is

-- T15: "A password is recorded as three zero bytes."
abbrev pub without_password : Opening → Opening
without_password (sale amount) = sale amount
without_password (refund password amount) = refund 0 amount
without_password (reversal password receipt) = reversal 0 receipt

-- n bytes of s from place a on, zeros where s has none
unfoldable pub window : ℕ → ℕ → List ℕ → List ℕ
window zero a s = []
window (suc n) a s = get_or s a 0 ∷ window n (a + 1) s

-- what s would open, by its instruction: the number stands where that command has it
unfoldable pub supposed : List ℕ → Opening
supposed s =
    pick (eqb (get_or s 1 0) 0x30) (reversal 0 (number_of (window 2 7 s)))
    (pick (eqb (get_or s 1 0) 0x31) (refund 0 (number_of (window 6 7 s))) (sale (number_of (window 6 4 s))))

unfoldable pub same : List ℕ → List ℕ → Bool
same [] [] = true
same [] (b ∷ t) = false
same (b ∷ s) [] = false
same (b ∷ s) (c ∷ t) = eqb b c && same s t

-- T26: "a command with numbers within their limits (P4, P5) and password 0": just its bytes
unfoldable pub opening_in : List ℕ → Option Opening
opening_in s = let o = supposed s in pick (within_limits o && same s (command_bytes o)) (Some o) None
