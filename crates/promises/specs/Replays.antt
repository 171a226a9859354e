-- What comes back of a day whose tape was torn off, and where a replay is refused, with which desk: T24 to T30. Definitions only.
use Rattle.std.specs.Prelude.{◌≡◌, ◌⊎◌, ℕ, ◌+◌, ◌*◌, ◌%◌, ◌≤◌, ◌<◌, List, [], ◌∷◌, ◌++◌, length, take, Err, None, Ok, Result}
use Rattle.zvt_rules.specs.declared.Refusal.{Refusal}
use Rattle.zvt_rules.specs.Reading.{unplaced}
use Rattle.desk_rules.specs.declared.Desk.{Desk}
use Rattle.desk_rules.specs.Course.{Call}
use Rattle.desk_rules.specs.Memory.{fresh_desk}
use Rattle.tape_rules.specs.Records.{Record}
use Rattle.tape_rules.specs.Taping.{TapeTurn, Day, fresh_day}
use Rattle.tape_rules.specs.believed.Tapes.{FirstNo, DrawnTape, GoodBlocks}
use Rattle.tape_rules.specs.believed.Recorded.{Joined, DayRecords}
use Rattle.tape_rules.specs.believed.Filed.{Played}
use Rattle.replaying_rules.specs.declared.Standing.{Standing}
use Rattle.replaying_rules.specs.declared.Replayed.{Replayed}
use Rattle.replaying_rules.specs.believed.Records.{Begins, NoneWhole}
use Rattle.replaying_rules.specs.believed.Retold.{at, reply_on, Retold, Stops}
use Rattle.promises.specs.TapeDays.{exchanges}

-- a moment of the day at which it had taken these calls and no more
pub record Moment (day : List TapeTurn) (calls : List Call) (then : Day) : Type 0 where
  pub until : List TapeTurn
  pub later : List TapeTurn
  pub all : until ++ later ≡ day
  pub played : Played fresh_day until then calls

-- what comes back of a day where the first m bytes of its payload p are left, and its tape ends so
pub record Back (day : List TapeTurn) (calls : List Call) (p : List ℕ) (m : ℕ) (e : Result (Unit {0}) Refusal) (r : Replayed) : Type 0 where
  -- the desk of an earlier moment, or of the last one, when these calls had been taken: book and lanes
  pub before : List Call
  pub after : List Call
  pub order : before ++ after ≡ calls
  pub then : Day
  pub moment : Moment day before then
  pub desk : r.desk ≡ then.taped.desk
  -- which calls: those whose own record is whole. The whole records are theirs, but for a reply that may be missing behind the last
  pub whole : List Record
  pub missing : List Record
  pub others : List Record
  pub theirs : DayRecords (exchanges before) (whole ++ missing)
  pub day_has : DayRecords (exchanges calls) (whole ++ (missing ++ others))
  pub a_reply : (missing ≡ []) ⊎ ((i : ℕ) × (missing ≡ reply_on i ∷ []))
  -- where it stopped: behind the whole records, and the next one is not whole in what is left
  pub place : Joined whole (take r.place p)
  pub inside : (r.place ≤ m) × (r.place ≤ length p)
  pub cut : (x : Record) (xs : List Record) → missing ++ others ≡ x ∷ xs → m < r.place + (4 + length x.content)
  pub ending : r.ending ≡ e

-- how a tape ends that was cut off behind n bytes. T19: "Bytes left over at the end of a tape are its last block, hence 1."
pub data CutAt (n : ℕ) : Result (Unit {0}) Refusal → Type 0 where
  between_blocks : n % 512 ≡ 0 → CutAt n (Ok tt)
  within_a_block : (n % 512 ≡ 0 → ⊥) → CutAt n (Err (unplaced 1))

-- a replay is refused, with this desk and at this place: at a record, or at a block behind the last whole one. T29: "The place is the number
-- of payload bytes before it, and the desk is as it stood before it". T30: "also where the last record ends just there"
pub data RefusedAt (s : List ℕ) (f : Refusal) : Desk → ℕ → Type 0 where
  at_a_record : {p rest more : List ℕ} {e : Result (Unit {0}) Refusal} {t : Standing} {r : Record} {n : ℕ} → GoodBlocks s p e
      → Retold (at fresh_desk None) p n t rest → Begins rest r more → Stops t r f → RefusedAt s f t.desk n
  at_a_block : {p rest : List ℕ} {t : Standing} {n : ℕ} (number : ℕ) (first : FirstNo s number) → unplaced number ≡ f
      → DrawnTape p (take (first.at * 512) s) first.at → length p ≡ first.at * 504 → Retold (at fresh_desk None) p n t rest → NoneWhole rest
      → RefusedAt s f t.desk n
