-- The line that is due for a payment, the lane while it is open, and the turnover: facts of the payment's own calls and of the lines
-- before it. Definitions only.
use Rattle.std.specs.Prelude.{◌≡◌, ◌⊎◌, Bool, List, [], ◌∷◌, ◌++◌, map, ℕ, ◌+◌, get_or, None, Some}
use Rattle.zvt_rules.specs.Reading.{got}
use Rattle.zvt_rules.specs.Fields.{Field}
use Rattle.zvt_rules.specs.Message.{Body, bytes, read_of}
use Rattle.zvt_rules.specs.Values.{missing, found, value_in, body_fields}
use Rattle.zvt_rules.specs.Digits.{number_of}
use Rattle.zvt_rules.specs.declared.Status.{Status}
use Rattle.desk_rules.specs.declared.Kind.{Kind}
use Rattle.desk_rules.specs.declared.Kind.TheVariants.{Sale, Refund, Reversal}
use Rattle.desk_rules.specs.declared.Outcome.{Outcome}
use Rattle.desk_rules.specs.declared.Outcome.TheVariants.{Unclear, Declined, Approved}
use Rattle.desk_rules.specs.declared.Phase.{Phase}
use Rattle.desk_rules.specs.declared.Phase.TheVariants.{Idle, Waiting, Running}
use Rattle.desk_rules.specs.declared.Lane.{Lane}
use Rattle.desk_rules.specs.declared.Line.{Line}
use Rattle.desk_rules.specs.declared.Opening.{Opening}
use Rattle.desk_rules.specs.declared.Opening.TheVariants.{Sale as sale, Refund as refund, Reversal as reversal}
use Rattle.desk_rules.specs.Course.{Call, opening, message, lost}
use Rattle.desk_rules.specs.believed.LastSale.{NoneOf, Last, Named}

-- ---- what the terminal told

-- the bytes are a message with that pair and body
pub record Reads (s : List ℕ) (class instruction : ℕ) (body : Body) : Type 0 where
  pub long : Bool
  pub whole : read_of s ≡ got (record { class = class; instruction = instruction; long = long; body = body })

-- P20: "04 0F with field 27"
pub record Report (s : List ℕ) : Type 0 where
  pub body : Body
  pub read : Reads s 0x04 0x0F body
  pub code : List ℕ
  pub coded : value_in 0x27 (body_fields body) ≡ found code

-- P20: it "becomes the remembered status, all of it .. and nothing of an earlier one": the fields of the last report, or no fields
-- where there was none
pub data Remembered (messages : List (List ℕ)) : List Field → Type 0 where
  nothing : NoneOf Report messages → Remembered messages []
  report : {s : List ℕ} → (r : Last Report messages s) → Remembered messages (body_fields r.holds.body)

-- what a field of the remembered status says or, where it has none, another
pub data Told {A : Type 0} (status : List Field) (id : ℕ) (says : List ℕ → A) (other : A) : A → Type 0 where
  told : {value : List ℕ} → value_in id status ≡ found value → Told status id says other (says value)
  untold : value_in id status ≡ missing → Told status id says other other

-- the remembered code, and the remembered amount
abbrev pub CodeIs : List Field → ℕ → Type 0
CodeIs status code = (value : List ℕ) × (value_in 0x27 status ≡ found value) × (get_or value 0 0 ≡ code)

abbrev pub AmountIs : List Field → ℕ → Type 0
AmountIs status amount = (value : List ℕ) × (value_in 0x04 status ≡ found value) × (number_of value ≡ amount)

-- ---- what was asked, and how it ended

-- the kind, the amount asked and the receipt named, 0 for none, of an opening on a lane after those lines
pub data Asks (i : ℕ) (before : List Line) : Opening → Kind → ℕ → ℕ → Type 0 where
  -- P4: "The amount that a sale or refund asks for"
  by_sale : {amount : ℕ} → Asks i before (sale amount) Sale amount 0
  by_refund : {password amount : ℕ} → Asks i before (refund password amount) Refund amount 0
  -- P13: "A reversal asks for the settled amount of that sale, which may be 0."
  by_reversal : {password receipt : ℕ} {sold : Line} → Named i receipt before sold
      → Asks i before (reversal password receipt) Reversal sold.settled receipt

-- the outcome, the settled amount and the code of a payment, by the call that ends it. P31: "Only an approved line has a settled
-- amount; in others it is 0."
pub data Ended (i : ℕ) (kind : Kind) (asked : ℕ) (status : List Field) : Call → Outcome → ℕ → ℕ → Type 0 where
  -- P16: "84 xx .. ends the payment, declined, with code xx; 84 00 too." Another body than an empty one is refused (R15)
  not_taken : {s : List ℕ} {xx : ℕ} {body : Body} → Reads s 0x84 xx body → Ended i kind asked status (message i s) Declined 0 xx
  -- P21: "06 1E ends the payment, declined. The first byte of its body is the code, the others are not read"
  aborted : {s : List ℕ} {b : ℕ} {rest : List ℕ} → Reads s 0x06 0x1E (bytes (b ∷ rest)) → Ended i kind asked status (message i s) Declined 0 b
  -- P27: "Where the link is lost, a waiting or running lane ends its payment, unclear". P33: "The code of a lost link is 0."
  link_lost : Ended i kind asked status (lost i) Unclear 0 0
  -- P23: "At 06 0F a remembered code 00 means approved, but for P24 and P25", the two rows below. "The settled amount is field 04 of the
  -- remembered status; an amount of 0 counts as told." P33, here and below: "The code at 06 0F is the remembered one"
  approved : {s : List ℕ} {body : Body} {amount : ℕ} → Reads s 0x06 0x0F body → CodeIs status 0 → AmountIs status amount
      → (kind ≡ Reversal → amount ≡ asked) → Ended i kind asked status (message i s) Approved amount 0
  -- P24: "At 06 0F after code 00, a remembered status without field 04 means unclear, for every kind."
  amount_untold : {s : List ℕ} {body : Body} → Reads s 0x06 0x0F body → CodeIs status 0 → value_in 0x04 status ≡ missing
      → Ended i kind asked status (message i s) Unclear 0 0
  -- P25: "At 06 0F after code 00, a reversal is unclear where field 04 says another amount than it asked for."
  differs : {s : List ℕ} {body : Body} {amount : ℕ} → Reads s 0x06 0x0F body → CodeIs status 0 → AmountIs status amount
      → kind ≡ Reversal → (amount ≡ asked → ⊥) → Ended i kind asked status (message i s) Unclear 0 0
  -- P26: "At 06 0F a remembered code other than 00 .. means unclear."
  other_code : {s : List ℕ} {body : Body} {code : ℕ} → Reads s 0x06 0x0F body → CodeIs status code → (code ≡ 0 → ⊥)
      → Ended i kind asked status (message i s) Unclear 0 code
  -- P26: "or no remembered status, means unclear". P33: "or 0 where nothing is remembered"
  no_status : {s : List ℕ} {body : Body} → Reads s 0x06 0x0F body → value_in 0x27 status ≡ missing
      → Ended i kind asked status (message i s) Unclear 0 0

-- a call that ends a payment. P16: "84 xx". P21: "06 1E". P22: "06 0F". P27: "Where the link is lost"
pub data Ending : Call → Type 0 where
  by_84 : {i xx : ℕ} {s : List ℕ} {body : Body} → Reads s 0x84 xx body → Ending (message i s)
  by_061E : {i : ℕ} {s : List ℕ} {body : Body} → Reads s 0x06 0x1E body → Ending (message i s)
  by_060F : {i : ℕ} {s : List ℕ} {body : Body} → Reads s 0x06 0x0F body → Ending (message i s)
  by_loss : {i : ℕ} → Ending (lost i)

-- P32: "its receipt is the one that a reversal named or, for another kind, field 87 of the remembered status. 0 stands for none, and a
-- told 0000 is none."
pub data ReceiptIs (status : List Field) (named : ℕ) : Kind → ℕ → Type 0 where
  of_reversal : ReceiptIs status named Reversal named
  of_another : {kind : Kind} {receipt : ℕ} → (kind ≡ Reversal → ⊥) → Told status 0x87 number_of 0 receipt → ReceiptIs status named kind receipt

-- ---- a payment

-- an open payment of lane i after those lines: its opening, then messages of its terminal that do not end it, and what they say
pub record Open (i : ℕ) (before : List Line) (calls : List Call) (kind : Kind) (asked named : ℕ) (told : List (List ℕ)) (status : List Field)
    : Type 0 where
  pub first : Opening
  pub in_order : calls ≡ opening i first ∷ map (message i) told
  pub still_open : NoneOf (λ s. Ending (message i s)) told
  pub asks : Asks i before first kind asked named
  pub remembered : Remembered told status

-- the line that is due for a payment's calls, after those lines: P29, P30
pub record LineDue (before : List Line) (calls : List Call) (l : Line) : Type 0 where
  pub sofar : List Call
  pub last : Call
  pub in_order : calls ≡ sofar ++ (last ∷ [])
  pub named : ℕ
  pub told : List (List ℕ)
  pub status : List Field
  pub its : Open l.lane before sofar l.kind l.asked named told status
  pub receipt : ReceiptIs status named l.kind l.receipt
  pub ended : Ended l.lane l.kind l.asked status last l.outcome l.settled l.code

-- ---- the lane of an open payment

-- P8: opening "makes the idle lane waiting"; whatever its terminal told since and did not end it makes it running, by P15
pub data PhaseIs : List (List ℕ) → Phase → Type 0 where
  waiting : PhaseIs [] Waiting
  running : {s : List ℕ} {messages : List (List ℕ)} → PhaseIs (s ∷ messages) Running

-- P20: "code (27), amount (04) and receipt (87)"
pub record StatusIs (status : List Field) (s : Status) : Type 0 where
  pub code : Told status 0x27 (λ value. Some (get_or value 0 0)) None s.code
  pub amount : Told status 0x04 (λ value. Some (number_of value)) None s.amount
  pub receipt : Told status 0x87 (λ value. Some (number_of value)) None s.receipt

-- lane i after those lines, by the calls of its open payment. P29: where there is none, "the lane is idle then and remembers nothing"
pub data LaneIs (i : ℕ) (before : List Line) : List Call → Lane → Type 0 where
  idle : LaneIs i before []
      (record { phase = Idle; kind = Sale; asked = 0; named = 0; status = record { code = None; amount = None; receipt = None } })
  busy : {calls : List Call} {l : Lane} {told : List (List ℕ)} {status : List Field}
      → Open i before calls l.kind l.asked l.named told status → PhaseIs told l.phase → StatusIs status l.status
      → LaneIs i before calls l

-- ---- the turnover

-- what a line adds to it, and what it takes off. P34: "the settled amounts of approved sales less those of approved refunds and reversals"
pub data Counts (l : Line) : ℕ → ℕ → Type 0 where
  adds : l.outcome ≡ Approved → l.kind ≡ Sale → Counts l l.settled 0
  takes : l.outcome ≡ Approved → (l.kind ≡ Refund) ⊎ (l.kind ≡ Reversal) → Counts l 0 l.settled
  neither : (l.outcome ≡ Approved → ⊥) → Counts l 0 0

-- the sums over payments that ended one after another, each with the line that is due for it
pub data Takings : List Line → List (List Call) → ℕ → ℕ → Type 0 where
  none : {before : List Line} → Takings before [] 0 0
  more : {before : List Line} {p : List Call} {ps : List (List Call)} {l : Line} {plus minus plus' minus' : ℕ}
      → LineDue before p l → Counts l plus minus → Takings (before ++ (l ∷ [])) ps plus' minus'
      → Takings before (p ∷ ps) (plus + plus') (minus + minus')
