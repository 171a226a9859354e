-- "Which bytes from a terminal made you count this sale?" What an approved line is counted by: a report of code 00 with an amount, the
-- last of the payment's reports, and then a completion. Definitions only.
use Rattle.std.specs.Prelude.{◌≡◌, ℕ, List, [], ◌∷◌, ◌++◌}
use Rattle.zvt_rules.specs.Fields.{Field, field_id}
use Rattle.zvt_rules.specs.Message.{Body}
use Rattle.zvt_rules.specs.Values.{body_fields}
use Rattle.basics.specs.believed.Lists.{In}
use Rattle.zvt_rules.specs.believed.Values.{Tells, TellsNumber}
use Rattle.desk_rules.specs.declared.Kind.{Kind}
use Rattle.desk_rules.specs.declared.Kind.TheVariants.{Reversal}
use Rattle.desk_rules.specs.declared.Outcome.TheVariants.{Approved}
use Rattle.desk_rules.specs.declared.Line.{Line}
use Rattle.desk_rules.specs.Course.{Call, message}
use Rattle.desk_rules.specs.believed.LastSale.{Last}
use Rattle.desk_rules.specs.believed.Due.{Reads, Report, CodeIs, AmountIs, Open}

-- the calls of a payment of that kind, after those lines, that end with a completion after code 00
pub record AfterCode00 (before : List Line) (calls : List Call) (kind : Kind) : Type 0 where
  pub lane : ℕ
  pub sofar : List Call
  pub completion : List ℕ
  pub in_order : calls ≡ sofar ++ (message lane completion ∷ [])
  -- P22: "06 0F ends the payment. Its own fields are read, but what they say plays no part."
  pub body : Body
  pub completes : Reads completion 0x06 0x0F body
  -- P20: the last report of an open payment
  pub asked : ℕ
  pub named : ℕ
  pub told : List (List ℕ)
  pub reported : List ℕ
  pub last : Last Report told reported
  pub its : Open lane before sofar kind asked named told (body_fields last.holds.body)
  pub code : CodeIs (body_fields last.holds.body) 0

-- the fields of that report
abbrev pub fields_of : {before : List Line} {calls : List Call} {kind : Kind} → AfterCode00 before calls kind → List Field
fields_of c = body_fields c.last.holds.body

-- such calls, counted for that amount. P23: "At 06 0F a remembered code 00 means approved, but for P24 and P25. The settled amount is field
-- 04 of the remembered status". P25: "a reversal is unclear where field 04 says another amount than it asked for"
pub record Counted (before : List Line) (calls : List Call) (kind : Kind) (amount : ℕ) : Type 0 where
  pub completed : AfterCode00 before calls kind
  pub settled : AmountIs (fields_of completed) amount
  pub same : kind ≡ Reversal → amount ≡ completed.asked

-- P24: "At 06 0F after code 00, a remembered status without field 04 means unclear, for every kind."
pub record WithoutAmount (before : List Line) (calls : List Call) : Type 0 where
  pub kind : Kind
  pub completed : AfterCode00 before calls kind
  pub none : (f : Field) → In f (fields_of completed) → field_id f ≡ 0x04 → ⊥

-- the report by which a line is counted: a message of the line's own lane among the payment's calls, bytes that are a status information
-- with code 00 and with a field 04 that spells the settled amount
pub record Reported (before : List Line) (calls : List Call) (l : Line) : Type 0 where
  pub counted : Counted before calls l.kind l.settled
  pub own_lane : In (message l.lane counted.completed.reported) calls
  pub code : Tells counted.completed.reported 0x27 (0x00 ∷ [])
  pub field_04 : TellsNumber counted.completed.reported 0x04 l.settled

-- P31: "Only an approved line has a settled amount; in others it is 0."
pub data Settled (before : List Line) (calls : List Call) (l : Line) : Type 0 where
  by_report : l.outcome ≡ Approved → Reported before calls l → Settled before calls l
  nothing : (l.outcome ≡ Approved → ⊥) → l.settled ≡ 0 → Settled before calls l
