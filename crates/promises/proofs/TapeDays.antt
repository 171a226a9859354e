-- A day that is played on a desk with its tape: its desk, its file and what is read of that, where the blocks of a call lie in it, and
-- what closing tells of it. Assumes nothing.
use mathlib.Core.Path.{◌≡◌, refl, sym, ap, ◌∙◌}
use mathlib.Core.Logic.{◌↔◌}
use mathlib.Core.List.{List, [], ◌∷◌, ◌++◌}
use Prim.Native.Nat.{ℕ, ◌+◌, ◌-◌, ◌*◌, ◌<◌, ◌≤◌, min}
use native.Mathlib.Omega.{arith}
use lib.ListN.{length, take, drop, replicate, length-append, length-replicate, length-take, length-drop, drop_of_length-le}
use lib.Seq.{take_at, take-take, take-add, drop-append_seam, length-take-le}
use lib.Dec.{ltb}
use borrow.Author.Tests.{ltb-true, ltb-false}
use Rattle.std.proofs.Common.{Ok, Result}
use Rattle.zvt_rules.specs.Reading.{got}
use Rattle.zvt_rules.proofs.Readings.{got_same}
use Rattle.basics.proofs.Tests.{by-test}
use Rattle.desk_rules.specs.declared.Desk.{Desk}
use Rattle.desk_rules.specs.Course.{Call, NumbersFit}
use Rattle.desk_rules.specs.Desk.{fresh, Decision, refuse, accept, Accepted}
use Rattle.desk_rules.specs.Memory.{answer_of}
use Rattle.tape_rules.specs.declared.Taped.{Taped}
use Rattle.tape_rules.specs.declared.TapedAnswer.{TapedAnswer}
use Rattle.tape_rules.specs.declared.ClosedAnswer.{ClosedAnswer}
use Rattle.zvt_rules.specs.declared.Refusal.{Refusal}
use Rattle.tape_rules.specs.Records.{Record, records_of_run, recorded}
use Rattle.tape_rules.specs.Block.{most_number}
use Rattle.tape_rules.specs.Tape.{pieces_of, tape_bytes}
use Rattle.tape_rules.specs.Recording.{fresh_taped, ValidTaped, read_tape}
use Rattle.tape_rules.specs.Taping.{TapeTurn, Day, fresh_day, decide_turn, after_turn, taped_run, kept_if, kept_calls}
use Rattle.tape_rules.specs.believed.Blocks.{used_of}
use Rattle.tape_rules.specs.believed.Tapes.{block_at, DrawnTape}
use Rattle.tape_rules.specs.believed.Recorded.{Joined, and_then, CallRecords, of_opening, unanswered, answered_by, of_lost, DayRecords, EndsBehind, TapedRow, own, no_number, no_space, taken}
use Rattle.tape_rules.specs.believed.Filed.{Filed, Played, over, refused_one, accepted_one}
use Rattle.tape_rules.proofs.Masks.{Each}
use Rattle.tape_rules.proofs.RecordLaws.{joined_once, records-exactly, payload-exactly}
use Rattle.tape_rules.proofs.TapeRows.{payload-drawn, read-tape-drawn}
use Rattle.tape_rules.proofs.TailLaws.{tidy_of}
use Rattle.tape_rules.proofs.Filing.{TurnFits, day-follows, file-follows, file-drawn, full-stays}
use Rattle.tape_rules.proofs.Playing.{TurnOfBytes, fresh-whole, played-exactly}
use Rattle.promises.specs.Days.{DeskTurn, calls_in, OfBytes, Taken, desk_after}
use Rattle.promises.specs.TapeDays.{LentBytes, exchanges, DeskAlone, ClosedRow, still_open, all_ended}
use Rattle.promises.proofs.Answers.{err-not-ok}
use Rattle.promises.proofs.Turns as turns

-- ---- what is lent to a day is of bytes
lent : (us : List TapeTurn) → LentBytes us → Each TurnOfBytes us
unfolding LentBytes
lent [] b = tt
lent (u ∷ us) b = (b.0, lent us b.1)

fits : (us : List TapeTurn) → LentBytes us → Each TurnFits us
unfolding LentBytes
fits [] b = tt
fits (u ∷ us) b = (b.0.0, fits us b.1)

both : (us vs : List TapeTurn) → LentBytes us → LentBytes vs → LentBytes (us ++ vs)
unfolding LentBytes
both [] vs b c = c
both (u ∷ us) vs b c = (b.0, both us vs b.1 c)

kept-fit : (us : List TapeTurn) (d : Day) → LentBytes us → Each NumbersFit (kept_calls d us)
unfolding LentBytes kept_calls kept_if
kept-fit [] d b = tt
kept-fit (u ∷ us) d b = go (decide_turn d u) (kept-fit us (after_turn d u) b.1)
  where
    go : (x : Decision) → Each NumbersFit (kept_calls (after_turn d u) us) → Each NumbersFit (kept_if x u.call (kept_calls (after_turn d u) us))
    go (refuse n) more = more
    go accept more = (b.0.0, more)

-- ---- a day is played in one way
module _ (us : List TapeTurn) (b : LentBytes us) where
  pub played-is : (e : Day) (cs : List Call) → Played fresh_day us e cs ↔ ((taped_run fresh_day us ≡ e) × (kept_calls fresh_day us ≡ cs))
  played-is e cs = played-exactly us fresh_day e cs fresh-whole (lent us b)

-- what is known of it: p is what its accepted calls recorded
pub record Known (e : Day) (cs : List Call) (p : List ℕ) : Type 0 where
  pub payload : recorded fresh cs ≡ p
  pub accepted : Accepted fresh cs
  pub fit : Each NumbersFit cs
  pub valid : ValidTaped e.taped
  pub file : e.file ≡ tape_bytes p
  pub few : length (pieces_of p) ≤ most_number
  pub drawn : DrawnTape p e.file (length (pieces_of p))
  pub ends : EndsBehind 0 p e.taped.tail

pub a-day : (us : List TapeTurn) → LentBytes us → (e : Day) (cs : List Call) → Played fresh_day us e cs → Known e cs (recorded fresh cs)
a-day us b e cs played =
    let k = (played-is us b e cs).0 played in
    rw (k.0, k.1) at computed
  where
    computed : Known (taped_run fresh_day us) (kept_calls fresh_day us) (recorded fresh (kept_calls fresh_day us))
    computed =
        let n = fits us b in
        let f = file-follows us n in
        let d = file-drawn us n in
        record {
          payload = refl;
          accepted = f.0;
          fit = kept-fit us fresh_day b;
          valid = ((day-follows us n).files.valid, rw f.2 (tidy_of _));
          file = f.3;
          few = f.4;
          drawn = d.0;
          ends = d.1;
        }

-- ---- its records, and what is read of its file
module _ {e : Day} {cs : List Call} {p : List ℕ} (k : Known e cs p) where
  pub its-records : (rs : List Record) × DayRecords (exchanges cs) rs × Joined rs p
  its-records = (payload-exactly fresh cs k.accepted k.fit p).1 k.payload

  pub records-are : (rs : List Record) → Joined rs p ↔ DayRecords (exchanges cs) rs
  records-are rs =
      let its = its-records in
      let same = records-exactly fresh cs k.accepted k.fit in (
        λ j. rw (joined_once rs its.0 p j its.2) its.1,
        λ d. rw (sym ((same rs).0 d) ∙ (same its.0).0 its.1) its.2,
      )

  pub run-records : (rs : List Record) → Joined rs p → records_of_run fresh cs ≡ rs
  run-records rs j = (records-exactly fresh cs k.accepted k.fit rs).0 ((records-are rs).0 j)

  pub file-reads : (room : ℕ) → length p ≤ room → read_tape e.file room ≡ got p
  file-reads room h = (read-tape-drawn e.file p room).1 ((length (pieces_of p), k.drawn), h)

  -- no other payload is drawn on its file
  pub drawn-is : (q : List ℕ) (n : ℕ) → DrawnTape q e.file n → p ≡ q
  drawn-is q n d = got_same (sym ((payload-drawn e.file p).1 (length (pieces_of p), k.drawn)) ∙ (payload-drawn e.file q).1 (n, d))

  pub read_is : (room : ℕ) (q : List ℕ) → read_tape e.file room ≡ got q → p ≡ q
  read_is room q h = let d = ((read-tape-drawn e.file q room).0 h).0 in drawn-is q d.0 d.1

  -- how many bytes block j has: none where there is no such block
  used-at : (j : ℕ) → used_of (block_at j e.file) ≡ min 504 (length p - j * 504)
  used-at j =
      let n = length (pieces_of p) in
      by-test (ltb j n)
      (λ t. (k.drawn.blocks j (ltb-true j n t)).used ∙ length-take 504 (drop (j * 504) p) ∙ ap (min 504) (length-drop (j * 504) p))
      (λ t.
      let beyond = ltb-false j n t in
      rw (drop_of_length-le e.file {i = j * 512} (omega arith)) (omega arith))

  -- where it is full, the tail counts it
  is-full : (j : ℕ) → used_of (block_at j e.file) ≡ 504 → j < e.taped.tail.full
  is-full j h = omega (arith, used-at j)

  -- T22: what closing says is what the file has
  pub closing-tells : {a : ClosedAnswer} {n : ℕ} → ClosedRow e.taped a → a.reply ≡ Ok n
      → DrawnTape p e.file a.blocks × (length p ≡ a.bytes) × (a.taped ≡ fresh_taped)
  closing-tells (still_open o) h = absurd (err-not-ok h)
  closing-tells (all_ended {blocks} {bytes} o held least most) h =
      let n : length (pieces_of p) ≡ blocks = omega arith in
      (rw n at k.drawn, omega arith, refl)

-- ---- T23: only the end changes
part_same : (n m : ℕ) (s t : List ℕ) → take (n + m) s ≡ take (n + m) t → take m (drop n s) ≡ take m (drop n t)
part_same n m s t e =
    let h : take n s ≡ take n t = sym (take-take n (n + m) s (omega arith)) ∙ ap (take n) e ∙ take-take n (n + m) t (omega arith) in
    let both : take n t ++ take m (drop n s) ≡ take n t ++ take m (drop n t) = rw h at (sym (take-add n m s) ∙ e ∙ take-add n m t) in
    sym (drop-append_seam (take n t) (take m (drop n s))) ∙ ap (drop (length (take n t))) both ∙ drop-append_seam (take n t) (take m (drop n t))

-- where the first n blocks are the same, each of them is
block_same : (n j : ℕ) (s t : List ℕ) → take (n * 512) s ≡ take (n * 512) t → j < n → block_at j s ≡ block_at j t
block_same n j s t e l =
    let few : j * 512 + 512 ≤ n * 512 = omega arith in
    part_same (j * 512) 512 s t
    (sym (take-take (j * 512 + 512) (n * 512) s few) ∙ ap (take (j * 512 + 512)) e ∙ take-take (j * 512 + 512) (n * 512) t few)

pub full-is-kept : (us vs : List TapeTurn) → LentBytes us → LentBytes vs → (d e : Day) (cs ds : List Call)
    → Played fresh_day us d cs → Played fresh_day (us ++ vs) e ds → (j : ℕ) → used_of (block_at j d.file) ≡ 504
    → block_at j e.file ≡ block_at j d.file
full-is-kept us vs b c d e cs ds first then j h =
    let before = (played-is us b d cs).0 first in
    let after = (played-is (us ++ vs) (both us vs b c) e ds).0 then in
    let l = is-full (a-day us b d cs first) j h in
    let stays = full-stays us vs (fits us b) (fits vs c) (j + 1) (rw before.0 (omega arith)) in
    block_same (j + 1) j e.file d.file (rw (before.0, after.0) at stays) (omega arith)

-- ---- an accepted call: the desk alone takes it, and its blocks lie behind the full ones
some_bytes : {r : Record} {rs : List Record} {s : List ℕ} → Joined (r ∷ rs) s → 1 ≤ length s
some_bytes (and_then lane direction high low content rs s e l most more) = omega arith

some-records : {c : Call} {out : List ℕ} {rs : List Record} {s : List ℕ} → CallRecords c out rs → Joined rs s → 1 ≤ length s
some-records (of_opening i o command w r) j = some_bytes j
some-records (unanswered i s w r) j = some_bytes j
some-records (answered_by i s w b t r) j = some_bytes j
some-records (of_lost i) j = some_bytes j

pub record Placed (t : Taped) (c : Call) (out : ℕ) (a : TapedAnswer) (left : List ℕ) : Type 0 where
  pub alone : answer_of t.desk c out ≡ record { reply = a.reply; desk = a.taped.desk }
  first : a.first ≡ t.tail.full + 1
  some : 1 ≤ a.blocks
  held : a.blocks * 512 ≤ length left

pub placed : {t : Taped} {c : Call} {out : ℕ} {room : List ℕ} {a : TapedAnswer} {left : List ℕ} {k : ℕ}
    → TapedRow t c out room a left → a.reply ≡ Ok k → Placed t c out a left
placed (own h) e = absurd (err-not-ok e)
placed (no_number h p l) e = absurd (err-not-ok e)
placed (no_space h p few l) e = absurd (err-not-ok e)
placed {t} {c} {out} {room} (taken {n} {q} {s} h p few l ends drawn) e =
    let r = some-records p.drawn.1 p.drawn.2 in
    let size = length-append (take t.tail.used t.tail.part) p.records in
    record {
      alone = ap (λ (x : Result ℕ Refusal). record { reply = x; desk = (answer_of t.desk c out).desk }) h;
      first = refl;
      some = omega (arith, ap length p.behind);
      held = omega (arith, length-append s (drop (n * 512) room));
    }

-- ---- the accepted calls are a day at the desk alone
record Follows (d : Desk) (cs : List Call) (e : Desk) : Type 0 where
  day : List DeskTurn
  same : calls_in day ≡ cs
  taken : Taken d day
  leaves : desk_after d day ≡ e

follows : {d e : Day} {us : List TapeTurn} {cs : List Call} → Played d us e cs → Follows d.taped.desk cs e.taped.desk
unfolding calls_in Taken desk_after
follows over = record { day = []; same = refl; taken = tt; leaves = refl }
follows (refused_one row more) = follows more
follows (accepted_one {d} {u} {a} {k} row y reply new more) =
    let r = follows more in
    let c = u.call in
    let x = ap (answer_of d.taped.desk c) (length-replicate {A = ℕ} u.out 0) ∙ (placed row reply).alone in
    record {
      day = record { call = c; out = replicate u.out 0 } ∷ r.day;
      same = ap (λ (cs : List Call). c ∷ cs) r.same;
      taken = rw (x, reply) ((k, refl), r.taken);
      leaves = rw x r.leaves;
    }

pub of_bytes : (cs : List Call) → Each NumbersFit cs → OfBytes cs
unfolding OfBytes
of_bytes [] b = tt
of_bytes (c ∷ cs) b = (b.0, of_bytes cs b.1)

pub alone : {us : List TapeTurn} {e : Day} {cs : List Call} {p : List ℕ} → Played fresh_day us e cs → Known e cs p → DeskAlone cs e.taped.desk
alone {cs} played k =
    let f = follows played in
    let b : OfBytes (calls_in f.day) = rw f.same (of_bytes cs k.fit) in
    record {
      day = f.day;
      same = f.same;
      bytes = b;
      taken = f.taken;
      leaves = f.leaves;
      writes = rw ((turns.a-day f.day b f.taken).wrote_same, f.same);
    }

-- ---- T23: where the blocks of an accepted call lie
module _ {e : Day} {cs : List Call} {p : List ℕ} (k : Known e cs p) {c : Call} {out n : ℕ} {room left : List ℕ} {a : TapedAnswer}
    (row : TapedRow e.taped c out room a left) (reply : a.reply ≡ Ok n) where
  -- a write that is torn off leaves each full block
  pub torn-off : (torn : List ℕ) → take ((a.first - 1) * 512) torn ≡ take ((a.first - 1) * 512) e.file → (j : ℕ)
      → used_of (block_at j e.file) ≡ 504 → block_at j torn ≡ block_at j e.file
  torn-off torn same j u = block_same (a.first - 1) j torn e.file same (omega (arith, is-full k j u, (placed row reply).first))

  module _ {after : List ℕ} (f : Filed a left e.file after) where
    -- the blocks before stay, those of the call are the last, and of what was there one short block at most was written anew
    pub at-the-end : (take ((a.first - 1) * 512) after ≡ take ((a.first - 1) * 512) e.file)
        × (length after ≡ (a.first - 1 + a.blocks) * 512)
        × (length e.file ≤ a.first * 512)
        × (used_of (block_at (a.first - 1) e.file) < 504)
    at-the-end =
        let h = placed row reply in
        let at = (a.first - 1) * 512 in
        let old = take at e.file in
        let new = take (a.blocks * 512) left in
        let rest = drop ((a.first - 1 + a.blocks) * 512) e.file in
        let before : length old ≡ at = length-take-le at e.file (omega arith) in
        let blocks = length-take-le (a.blocks * 512) left h.held in
        let behind = length-drop ((a.first - 1 + a.blocks) * 512) e.file in (
          rw f (take_at old (new ++ rest) at before),
          rw f (omega (arith, length-append old (new ++ rest), length-append new rest)),
          omega arith,
          omega (arith, used-at k (a.first - 1)),
        )
