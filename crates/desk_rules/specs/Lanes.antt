-- The states of a lane, and the line at a payment's end. Definitions only.
use Rattle.std.specs.Prelude.{ℕ, None, Option, Some}
use Rattle.zvt_rules.specs.declared.Status.{Status}
use Rattle.desk_rules.specs.declared.Kind.{Kind}
use Rattle.desk_rules.specs.declared.Kind.TheVariants.{Sale, Refund, Reversal}
use Rattle.desk_rules.specs.declared.Outcome.{Outcome}
use Rattle.desk_rules.specs.declared.Outcome.TheVariants.{Unclear}
use Rattle.desk_rules.specs.declared.Phase.TheVariants.{Idle, Waiting, Running}
use Rattle.desk_rules.specs.declared.Lane.{Lane}
use Rattle.desk_rules.specs.declared.Line.{Line}
use Rattle.basics.specs.Choice.{pick}
use Rattle.desk_rules.specs.Kinds.{booked, is_idle}

-- nothing remembered
abbrev pub blank_status : Status
blank_status = record { code = None; amount = None; receipt = None }

abbrev pub blank_line : Line
blank_line = record { lane = 0; kind = Sale; asked = 0; settled = 0; receipt = 0; outcome = Unclear; code = 0 }

abbrev pub idle_lane : Lane
idle_lane = record { phase = Idle; kind = Sale; asked = 0; named = 0; status = blank_status }

-- P8: "makes the idle lane waiting, with nothing remembered"
abbrev pub waiting_lane : Kind → ℕ → ℕ → Lane
waiting_lane kind asked named = record { phase = Waiting; kind = kind; asked = asked; named = named; status = blank_status }

-- P15: "makes the lane running"
abbrev pub running_lane : Lane → Lane
running_lane l = record { phase = Running; kind = l.kind; asked = l.asked; named = l.named; status = l.status }

-- P20: "becomes the remembered status, all of it"
abbrev pub reported_lane : Lane → Status → Lane
reported_lane l status = record { phase = l.phase; kind = l.kind; asked = l.asked; named = l.named; status = status }

-- P3: "An open payment takes the place of the line that it will write."
unfoldable pub line_taken : Lane → ℕ
line_taken l = pick (is_idle l.phase) 0 (pick (booked l.kind) 1 0)

-- P32: "field 87 of the remembered status. 0 stands for none, and a told 0000 is none."
abbrev pub told_receipt : Option ℕ → ℕ
told_receipt None = 0
told_receipt (Some r) = r

-- P32: "its receipt is the one that a reversal named or, for another kind, field 87"
unfoldable pub receipt_by : Kind → ℕ → Option ℕ → ℕ
receipt_by Sale named told = told_receipt told
receipt_by Refund named told = told_receipt told
receipt_by Reversal named told = named

-- P30: "A line has lane, kind, amount asked, settled amount, receipt, outcome and code."
unfoldable pub line_at : ℕ → Lane → Outcome → ℕ → ℕ → Line
line_at i l outcome settled code =
    record {
      lane = i;
      kind = l.kind;
      asked = l.asked;
      settled = settled;
      receipt = receipt_by l.kind l.named l.status.receipt;
      outcome = outcome;
      code = code;
    }
