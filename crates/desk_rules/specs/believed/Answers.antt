-- What a call of the desk writes and leaves, and what closing and the questions to a desk answer. Definitions only.
use Rattle.std.specs.Prelude.{◌≡◌, ◌⊎◌, List, [], ◌∷◌, ◌++◌, ℕ, ◌≤◌, ◌<◌, length, drop, replicate, Err, None, Ok, Option, Result, Some}
use Rattle.zvt_rules.specs.declared.Refusal.{Refusal}
use Rattle.zvt_rules.specs.declared.Status.{Status}
use Rattle.zvt_rules.specs.Reading.{got, unplaced}
use Rattle.zvt_rules.specs.Message.{Body, bytes, Message, read_of}
use Rattle.zvt_rules.specs.Values.{missing, found, value_in, body_fields}
use Rattle.basics.specs.believed.Lists.{Bytes}
use Rattle.desk_rules.specs.declared.Kind.{Kind}
use Rattle.desk_rules.specs.declared.Kind.TheVariants.{Sale}
use Rattle.desk_rules.specs.declared.Outcome.TheVariants.{Unclear}
use Rattle.desk_rules.specs.declared.Phase.TheVariants.{Idle, Waiting, Running}
use Rattle.desk_rules.specs.declared.Lane.{Lane}
use Rattle.desk_rules.specs.declared.Line.{Line}
use Rattle.desk_rules.specs.declared.Opening.{Opening}
use Rattle.desk_rules.specs.declared.Desk.{Desk}
use Rattle.desk_rules.specs.declared.Answer.{Answer}
use Rattle.desk_rules.specs.Course.{Call, opening, message, lost}
use Rattle.desk_rules.specs.Desk.{State, refuse, accept}
use Rattle.desk_rules.specs.Memory.{view}
use Rattle.desk_rules.specs.believed.Due.{Reads, Asks, Ending, StatusIs}
use Rattle.desk_rules.specs.believed.Table.{nothing, idle, lane_in, phase_at, Row, Commands}

-- ---- what an accepted call writes
pub data Writes (s : State) : Call → List ℕ → Type 0 where
  -- P8: "Opening writes the command": bytes that read as it
  command : {i : ℕ} {o : Opening} {w : List ℕ} {m : Message} → Bytes w → read_of w ≡ got m → Commands o m → Writes s (opening i o) w
  -- P17: "A waiting lane replies nothing."
  silent : {i : ℕ} {b : List ℕ} → phase_at s i ≡ Waiting → Writes s (message i b) []
  -- P18: "A running lane replies 80 00 00 to each accepted message."
  reply : {i : ℕ} {b : List ℕ} → phase_at s i ≡ Running → Writes s (message i b) (0x80 ∷ 0x00 ∷ 0x00 ∷ [])
  -- P27: "Where the link is lost, a waiting or running lane .. replies nothing."
  link_lost : {i : ℕ} → Writes s (lost i) []

-- ---- what it makes of its lane

-- P8: "makes the idle lane waiting, with nothing remembered"
abbrev pub waiting : Kind → ℕ → ℕ → Lane
waiting kind asked named = record { phase = Waiting; kind = kind; asked = asked; named = named; status = nothing }

abbrev pub running : Lane → Status → Lane
running l status = record { phase = Running; kind = l.kind; asked = l.asked; named = l.named; status = status }

-- the lane that an accepted call makes of its lane, and the lines that it puts into the book. What the line of an end says is told in Due
pub data Makes (s : State) : Call → ℕ → Lane → List Line → Type 0 where
  -- P8: "makes the idle lane waiting", for what the opening asks
  opened : {i : ℕ} {o : Opening} {kind : Kind} {asked named : ℕ} → Asks i s.lines o kind asked named
      → Makes s (opening i o) i (waiting kind asked named) []
  -- P15: "80 00 with an empty body makes the lane running."
  taken : {i : ℕ} {b : List ℕ} → Reads b 0x80 0x00 (bytes []) → Makes s (message i b) i (running (lane_in s i) (lane_in s i).status) []
  -- P19: "04 FF, 06 D1 and 06 D3 change nothing."
  waits : {i : ℕ} {b : List ℕ} {body : Body} → Reads b 0x04 0xFF body ⊎ Reads b 0x06 0xD1 body ⊎ Reads b 0x06 0xD3 body
      → Makes s (message i b) i (lane_in s i) []
  -- P20: "04 0F with field 27 becomes the remembered status"
  told : {i : ℕ} {b : List ℕ} {body : Body} {value : List ℕ} {status : Status} → Reads b 0x04 0x0F body
      → value_in 0x27 (body_fields body) ≡ found value → StatusIs (body_fields body) status → Makes s (message i b) i (running (lane_in s i) status) []
  -- P20: "Without field 27 it changes nothing."
  untold : {i : ℕ} {b : List ℕ} {body : Body} → Reads b 0x04 0x0F body → value_in 0x27 (body_fields body) ≡ missing
      → Makes s (message i b) i (lane_in s i) []
  -- P29: "Every end puts one line into the book; the lane is idle then and remembers nothing."
  ended : {i : ℕ} {b : List ℕ} {line : Line} → Ending (message i b) → Makes s (message i b) i idle (line ∷ [])
  broken : {i : ℕ} {line : Line} → Ending (lost i) → Makes s (lost i) i idle (line ∷ [])

-- P35: "A call touches the lane that it names and no other."; its lines come behind the others
pub record Leaves (s : State) (c : Call) (t : State) : Type 0 where
  pub at : ℕ
  pub new : List Line
  pub makes : Makes s c at (lane_in t at) new
  pub lines : t.lines ≡ s.lines ++ new
  pub count : length t.lanes ≡ length s.lanes
  pub others : (k : ℕ) → (k ≡ at → ⊥) → lane_in t k ≡ lane_in s k

-- ---- the answer, and what is left of the bytes that were lent for writing

-- R31: "A refusal answers its number and, where it names one (R46), its place, and nothing else." R32: "A refusal leaves the desk and all
-- lent buffers as they were."
abbrev pub refusing : Desk → Refusal → Answer
refusing d r = record { reply = Err r; desk = d }

-- R33: "Success leaves the bytes of a lent buffer behind those written as they were."
pub data Answers (d : Desk) (c : Call) (out : List ℕ) : Answer → List ℕ → Type 0 where
  refusal : {r : Refusal} → Row (view d) c (length out) (refuse r) → Answers d c out (refusing d r) out
  success : {w : List ℕ} {e : Desk} → Row (view d) c (length out) accept → Writes (view d) c w → Leaves (view d) c (view e)
      → Answers d c out (record { reply = Ok (length w); desk = e }) (w ++ drop (length w) out)

-- ---- closing. R19: "a payment is open at closing". P36: "Closing leaves an empty book, and writes nothing." P37: "A desk is fresh, with
-- idle lanes and an empty book"
abbrev pub blank : Line
blank = record { lane = 0; kind = Sale; asked = 0; settled = 0; receipt = 0; outcome = Unclear; code = 0 }

pub data Closes (d : Desk) : Answer → Type 0 where
  open_payment : {i : ℕ} → i < 8 → (phase_at (view d) i ≡ Idle → ⊥) → Closes d (refusing d (unplaced 19))
  closed : ((i : ℕ) → i < 8 → phase_at (view d) i ≡ Idle)
      → Closes d (record { reply = Ok 0; desk = record { lanes = replicate 8 idle; book = record { lines = replicate 64 blank; count = 0 } } })

-- ---- questions. R36: "A question about a lane: 12."
pub data ShowsLane (d : Desk) (i : ℕ) : Result Lane Refusal → Type 0 where
  no_lane : 8 ≤ i → ShowsLane d i (Err (unplaced 12))
  lane : i < 8 → ShowsLane d i (Ok (lane_in (view d) i))

-- the line with so many before it
pub data ShowsLine (d : Desk) (k : ℕ) : Option Line → Type 0 where
  no_line : length (view d).lines ≤ k → ShowsLine d k None
  line : (before after : List Line) {l : Line} → (view d).lines ≡ before ++ (l ∷ after) → length before ≡ k → ShowsLine d k (Some l)
