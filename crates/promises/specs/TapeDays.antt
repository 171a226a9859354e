-- A day on a desk with its tape: its turns, the day of the desk alone, its closing; and days that differ only in what must not be on a tape.
-- T15: "A password is recorded as three zero bytes." T16: "Each byte of the value of fields 22, 23, 24 and 2D of a list is recorded as EE".
-- Definitions only.
use Rattle.std.specs.Prelude.{◌≡◌, ◌⊎◌, ℕ, ◌+◌, ◌*◌, ◌<◌, ◌≤◌, List, [], ◌∷◌, length, Err, Ok}
use Rattle.zvt_rules.specs.Reading.{unplaced}
use Rattle.basics.specs.believed.Lists.{Bytes}
use Rattle.desk_rules.specs.declared.Desk.{Desk}
use Rattle.desk_rules.specs.declared.Opening.{Opening}
use Rattle.desk_rules.specs.declared.Opening.TheVariants.{Refund as refund, Reversal as reversal}
use Rattle.desk_rules.specs.Course.{Call, opening, message, NumbersFit}
use Rattle.desk_rules.specs.Desk.{fresh, wrote}
use Rattle.desk_rules.specs.Memory.{fresh_desk}
use Rattle.desk_rules.specs.Runs.{Exchange, replies}
use Rattle.tape_rules.specs.declared.Taped.{Taped}
use Rattle.tape_rules.specs.declared.ClosedAnswer.{ClosedAnswer}
use Rattle.tape_rules.specs.Records.{Record}
use Rattle.tape_rules.specs.Recording.{fresh_taped}
use Rattle.tape_rules.specs.Taping.{TapeTurn}
use Rattle.tape_rules.specs.believed.Masking.{RecordedAs}
use Rattle.promises.specs.Answers.{Open}
use Rattle.promises.specs.Days.{DeskTurn, calls_in, OfBytes, Taken, desk_after, written_in}

-- a terminal's messages, and the rooms that are lent for blocks, are of bytes: what the functions' parameters are
unfoldable pub LentBytes : List TapeTurn → Type 0
LentBytes [] = Unit {0}
LentBytes (u ∷ us) = (NumbersFit u.call × Bytes u.room) × LentBytes us

-- accepted calls, from a fresh desk on, each with what it wrote
abbrev pub exchanges : List Call → List Exchange
exchanges calls = replies calls (wrote fresh calls)

-- a day at the desk alone: it takes all of these calls and is that desk at the end
pub record DeskAlone (calls : List Call) (desk : Desk) : Type 0 where
  pub day : List DeskTurn
  pub same : calls_in day ≡ calls
  pub bytes : OfBytes (calls_in day)
  pub taken : Taken fresh_desk day
  pub leaves : desk_after fresh_desk day ≡ desk
  pub writes : replies (calls_in day) (written_in fresh_desk day) ≡ exchanges calls

-- R19: "a payment is open at closing". T22: "Closing says how many blocks the day's tape has and how many bytes they hold, and begins a new,
-- empty one.": what is answered, and left
pub data ClosedRow (t : Taped) : ClosedAnswer → Type 0 where
  still_open : Open t.desk → ClosedRow t (record { reply = Err (unplaced 19); blocks = 0; bytes = 0; taped = t })
  all_ended : {blocks bytes : ℕ} → (Open t.desk → ⊥) → bytes ≡ t.tail.full * 504 + t.tail.used → bytes ≤ blocks * 504
      → blocks * 504 < bytes + 504 → ClosedRow t (record { reply = Ok 0; blocks = blocks; bytes = bytes; taped = fresh_taped })

-- records that hold no bytes, as of a lost link, or a message in which nothing is left to hide: it would be recorded as it is
unfoldable pub Hiding : List Record → Type 0
Hiding [] = Unit {0}
Hiding (r ∷ rs) = ((r.content ≡ []) ⊎ RecordedAs r.content r.content) × Hiding rs

-- the same opening, but for the digits of its password. P6: "The password is 0 to 999,999."
pub data AlikeOpening : Opening → Opening → Type 0 where
  refunds : (p q amount : ℕ) → p ≤ 999_999 → q ≤ 999_999 → AlikeOpening (refund p amount) (refund q amount)
  reversals : (p q receipt : ℕ) → p ≤ 999_999 → q ≤ 999_999 → AlikeOpening (reversal p receipt) (reversal q receipt)

-- the same call, but for a password or for the bytes that are hidden in a message: one record is that of both
pub data AlikeCall : Call → Call → Type 0 where
  unchanged : (c : Call) → AlikeCall c c
  openings : (i : ℕ) (o e : Opening) → AlikeOpening o e → AlikeCall (opening i o) (opening i e)
  messages : (i : ℕ) (s t w : List ℕ) → Bytes s → Bytes t → RecordedAs s w → RecordedAs t w → AlikeCall (message i s) (message i t)

-- call by call, with as much room lent to what each writes, and to its blocks
unfoldable pub AlikeDays : List TapeTurn → List TapeTurn → Type 0
AlikeDays [] [] = Unit {0}
AlikeDays [] (v ∷ vs) = ⊥
AlikeDays (u ∷ us) [] = ⊥
AlikeDays (u ∷ us) (v ∷ vs) = AlikeCall u.call v.call × (u.out ≡ v.out) × (length u.room ≡ length v.room) × AlikeDays us vs
