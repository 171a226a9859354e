-- The day book from the tape alone: T24 to T30. A desk's disk was swapped, or the power was cut, and only the tape is left. Assumes nothing.
use mathlib.Core.Path.{◌≡◌, refl, sym, ap, ◌∙◌}
use mathlib.Core.Logic.{◌↔◌}
use mathlib.Core.List.{List}
use Prim.Native.Nat.{ℕ, ◌*◌, ◌/◌, ◌≤◌}
use lib.ListN.{length, take}
use Rattle.std.specs.Prelude.{Err, None, Some}
use Rattle.std.proofs.Common.{Ok, Result}
use Rattle.zvt_rules.specs.declared.Refusal.{Refusal}
use Rattle.basics.specs.believed.Lists.{Bytes}
use Rattle.desk_rules.specs.declared.Desk.{Desk}
use Rattle.desk_rules.specs.declared.Opening.{Opening}
use Rattle.desk_rules.specs.Openings.{command_bytes, opening_in}
use Rattle.desk_rules.specs.Course.{Call}
use Rattle.desk_rules.specs.Desk.{fresh}
use Rattle.desk_rules.specs.Memory.{lines_of_desk, Valid}
use Rattle.tape_rules.specs.Records.{recorded}
use Rattle.tape_rules.specs.Taping.{TapeTurn, Day, fresh_day}
use Rattle.tape_rules.specs.believed.Tapes.{DrawnTape, GoodBlocks}
use Rattle.tape_rules.specs.believed.Filed.{Played}
use Rattle.tape_rules.proofs.GoodLaws.{good-exactly}
use Rattle.replaying_rules.specs.declared.Replayed.{Replayed}
use Rattle.replaying_rules.specs.Replay.{replay_of}
use Rattle.replaying_rules.specs.believed.Retold.{Opens, Replays, calls_made}
use Rattle.replaying_rules.proofs.Rows.{replays-exactly}
use Rattle.replaying_rules.proofs.Calls.{replay-leads}
use Rattle.promises.specs.Answers.{replay_says}
use Rattle.promises.specs.TapeDays.{LentBytes, DeskAlone}
use Rattle.promises.specs.Replays.{Back, CutAt, RefusedAt}
use Rattle.promises.proofs.TapeDays as days
use Rattle.promises.proofs.ReplayedDays as back

-- ---- a day comes back

-- A day is any list of calls, each with the room lent to it, on a fresh desk and an empty file, up to any moment before it is closed.
module _ (day : List TapeTurn) (b : LentBytes day) (at_end : Day) (calls : List Call) (played : Played fresh_day day at_end calls) where
  known : days.Known at_end calls (recorded fresh calls)
  known = days.a-day day b at_end calls played

  -- Of the tape that the desk wrote the replay makes that very desk again: its whole book and its lanes, though the tape has no password and no
  -- card number. It is not refused, and stops at the tape's end.
  pub comes_back : (p : List ℕ) × (n : ℕ) × DrawnTape p at_end.file n
      × (replay_of at_end.file ≡ record { desk = at_end.taped.desk; place = length p; ending = Ok tt })
  comes_back = back.whole_back played known

  -- Of a tape of which only the first bytes of payload are left in good blocks, torn or spoilt behind them in whatever way, there comes back
  -- the desk of an earlier moment of the day, or of the last: that of the calls whose own record is whole in these bytes. So no line is
  -- invented. The place is behind the whole records, and what is refused, if anything is, is the block behind the good ones.
  pub torn-comes-back : (p : List ℕ) (n : ℕ) → DrawnTape p at_end.file n → (torn : List ℕ) (m : ℕ) (e : Result (Unit {0}) Refusal) → GoodBlocks torn (take m p) e
      → Back day calls p m e (replay_of torn)
  torn-comes-back p n d torn m e g =
      let same = days.drawn-is known p n d in
      rw (← same) (back.torn-back played known torn m e ((good-exactly torn _ e).1 (rw same g)))

  -- Cut off at any byte, a tape has its whole blocks left: for every 512 bytes 504 bytes of payload, or as many as there are. Cut between two
  -- blocks it is not refused; else the torn one is refused with 1.
  pub cut-comes-back : (n : ℕ) → n ≤ length at_end.file → (p : List ℕ) × (k : ℕ) × DrawnTape p at_end.file k
      × ((e : Result (Unit {0}) Refusal) × CutAt n e × Back day calls p (n / 512 * 504) e (replay_of (take n at_end.file)))
  cut-comes-back n h = back.cut-back played known n h

  -- The lines that come back are the first ones of the day's book, as they stand in it.
  pub lines-come-back : (p : List ℕ) (m : ℕ) (e : Result (Unit {0}) Refusal) (r : Replayed) → Back day calls p m e r
      → (k : ℕ) × (lines_of_desk r.desk ≡ take k (lines_of_desk at_end.taped.desk))
  lines-come-back p m e r = back.front-lines played known

-- ---- every tape, also one that no desk wrote

-- What is answered is what the rules say, and nothing else.
pub replayed-exactly : (s : List ℕ) → Bytes s → (r : Replayed) → (replay_of s ≡ r) ↔ Replays s r
replayed-exactly = replays-exactly

-- It is refused, with this number, this desk and at this place, exactly where a record is, by its row (21, 23, or as its call is), or where a
-- block is refused (1, 20, 21; 3 does not arise) behind the last whole record.
pub replay-refused-exactly : (s : List ℕ) → Bytes s → (f : Refusal) (d : Desk) (n : ℕ)
    → ((replay_says (replay_of s) ≡ Err f) × ((replay_of s).desk ≡ d) × ((replay_of s).place ≡ n)) ↔ RefusedAt s f d n
replay-refused-exactly = back.refused-at

-- The rules admit one answer, so whoever replays a tape twice has the same twice.
pub one-replay : (s : List ℕ) → Bytes s → (q r : Replayed) → Replays s q → Replays s r → q ≡ r
one-replay s b q r h k = sym ((replays-exactly s b q).1 h) ∙ (replays-exactly s b r).1 k

-- P37: the desk may be handed to any function of the desk.
pub replay-fit : (s : List ℕ) → Bytes s → Valid (replay_of s).desk
replay-fit s b = (replay-leads b ((replays-exactly s b (replay_of s)).0 refl)).valid

-- It is the desk of the calls that the records are: a fresh desk takes them, one after another, and is this one then. Whoever makes them on
-- another day, and no others, has the same desk; and the tape of that day, replayed, gives it too.
pub replays-again : (s : List ℕ) → Bytes s → (r : Replayed) (k : Replays s r) → DeskAlone (calls_made k) r.desk
    × ((day : List TapeTurn) → LentBytes day → (at_end : Day) → Played fresh_day day at_end (calls_made k)
    → (at_end.taped.desk ≡ r.desk) × ((replay_of at_end.file).desk ≡ r.desk))
replays-again s b r k = (
  back.made-alone s b k,
  λ day lent at_end played.
      let same = back.made_again s b k played in
      let (p, n, drawn, whole) = comes_back day lent at_end (calls_made k) played in
      (same, ap (λ (x : Replayed). x.desk) whole ∙ same),
)

-- ---- T26: an opening is known again by its bytes

-- Bytes are an opening exactly where they read as its command, with numbers within their limits and password 0; and no bytes are two.
pub opening-known-exactly : (s : List ℕ) → Bytes s → (o : Opening) → (opening_in s ≡ Some o) ↔ Opens o s
opening-known-exactly = back.known-opening

-- They are just the bytes that the desk writes for it.
pub opening-bytes : (s : List ℕ) → Bytes s → (o : Opening) → Opens o s → s ≡ command_bytes o
opening-bytes = back.its-bytes

pub no-opening-exactly : (s : List ℕ) → Bytes s → (opening_in s ≡ None) ↔ ((o : Opening) → Opens o s → ⊥)
no-opening-exactly = back.known-none
