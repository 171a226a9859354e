-- A day, replayed: the desk of its calls, moments of it, and what comes back of a tape that was torn off. Assumes nothing.
use mathlib.Core.Path.{◌≡◌, refl, sym, ap, subst, ◌∙◌}
use mathlib.Core.Logic.{◌↔◌}
use mathlib.Core.List.{List, [], ◌∷◌, ◌++◌, append_assoc, append-nil}
use Prim.Native.Nat.{ℕ, ◌*◌, ◌/◌, ◌%◌, ◌≤◌}
use native.Mathlib.Omega.{arith}
use lib.ListN.{length, take, length-append}
use lib.Seq.{take-append_seam}
use lib.Dec.{eqb}
use borrow.Author.Tests.{eqb-true, eqb-false}
use Rattle.std.proofs.Common.{Err, None, Ok, Result, Some}
use Rattle.zvt_rules.specs.declared.Refusal.{Refusal}
use Rattle.basics.specs.believed.Lists.{Bytes}
use Rattle.basics.proofs.Tests.{by-test}
use Rattle.desk_rules.specs.declared.Desk.{Desk}
use Rattle.desk_rules.specs.declared.Line.{Line}
use Rattle.desk_rules.specs.declared.Answer.{Answer}
use Rattle.desk_rules.specs.declared.Opening.{Opening}
use Rattle.desk_rules.specs.Openings.{command_bytes, opening_in}
use Rattle.desk_rules.specs.Course.{Call, NumbersFit}
use Rattle.desk_rules.specs.Desk.{State, fresh, step, Accepted, run}
use Rattle.desk_rules.specs.Memory.{fresh_desk, lines_of_desk, view, Valid, lane_for, answer_of}
use Rattle.desk_rules.proofs.Commands.{writes_short}
use Rattle.desk_rules.proofs.Recognised.{opening-exactly}
use Rattle.desk_rules.proofs.Lanes.{accepts-room, accepts-any}
use Rattle.desk_rules.proofs.Runs.{run-append}
use Rattle.desk_rules.proofs.Memory.{accepted-answer, fresh-valid, view-fresh}
use Rattle.tape_rules.specs.Records.{Record, records_of_run, joined, recorded}
use Rattle.tape_rules.specs.Tape.{pieces_of}
use Rattle.tape_rules.specs.Good.{good_of}
use Rattle.tape_rules.specs.Taping.{TapeTurn, Day, fresh_day}
use Rattle.tape_rules.specs.believed.Tapes.{DrawnTape, all_good, up_to}
use Rattle.tape_rules.specs.believed.Filed.{Played, over, refused_one, accepted_one}
use Rattle.tape_rules.proofs.Masks.{Each}
use Rattle.tape_rules.proofs.RecordLaws.{Small, joined-exactly, joined-append, records-exactly}
use Rattle.tape_rules.proofs.CutOff.{cut_ending, good-cut}
use Rattle.replaying_rules.specs.declared.Replayed.{Replayed}
use Rattle.replaying_rules.specs.Replay.{replay_of}
use Rattle.replaying_rules.specs.believed.Retold.{Opens, answers, Replays, to_the_end, up_to_a_record, calls_made}
use Rattle.replaying_rules.proofs.MeaningLaws.{opens-exactly, none-exactly}
use Rattle.replaying_rules.proofs.Rows.{replays-exactly}
use Rattle.replaying_rules.proofs.Days.{desk_run, next-view, next-valid, run-view, CutOff, records-cut}
use Rattle.replaying_rules.proofs.Calls.{replay-leads, replay-torn, replay-day}
use Rattle.promises.specs.Answers.{replay_says}
use Rattle.promises.specs.Days.{DeskTurn, calls_in, buffer, OfBytes, Taken, desk_after}
use Rattle.promises.specs.TapeDays.{DeskAlone}
use Rattle.promises.specs.Replays.{Back, CutAt, between_blocks, within_a_block, RefusedAt, at_a_record, at_a_block}
use Rattle.promises.proofs.Answers.{err-not-ok, err-same, decided-yes}
use Rattle.promises.proofs.Turns as turns
use Rattle.promises.proofs.TapeDays.{Known, placed, its-records, of_bytes}

-- ---- the desk of a day is that of its calls
-- what a call that was answered leaves does not depend on its room
room-free : (d : Desk) (c : Call) (room k : ℕ) → (answer_of d c room).reply ≡ Ok k → (answers d c).desk ≡ (answer_of d c room).desk
unfolding view
room-free d c room k e =
    let h = (decided-yes d c room).0 (k, e) in
    let enough = accepts-room (view d) c 16 (accepts-any (view d) c room h) (writes_short (lane_for d c) c) in
    ap (λ (a : Answer). a.desk) (accepted-answer d c 16 enough) ∙ sym (ap (λ (a : Answer). a.desk) (accepted-answer d c room h))

pub played-desk : {d e : Day} {us : List TapeTurn} {cs : List Call} → Played d us e cs → e.taped.desk ≡ desk_run d.taped.desk cs
unfolding desk_run
played-desk over = refl
played-desk (refused_one row more) = played-desk more
played-desk (accepted_one {d} {u = u} {cs = cs} {a} {k} row y reply new more) =
    let alone = (placed row reply).alone in
    let d = d.taped.desk in
    let left = room-free d u.call u.out k (ap (λ (x : Answer). x.reply) alone ∙ reply) ∙ ap (λ (x : Answer). x.desk) alone in
    played-desk more ∙ ap (λ (x : Desk). desk_run x cs) (sym left)

-- ---- moments of a day
record Until (d : Day) (us : List TapeTurn) (cs : List Call) : Type 0 where
  until : List TapeTurn
  later : List TapeTurn
  all : until ++ later ≡ us
  then : Day
  played : Played d until then cs

at_once : (d : Day) (us : List TapeTurn) → Until d us []
at_once d us = record { until = []; later = us; all = refl; then = d; played = over }

until-split : {d e : Day} {us : List TapeTurn} {cs : List Call} → Played d us e cs → (before after : List Call) → before ++ after ≡ cs → Until d us before
until-split {d} {us = us} k [] after h = at_once d us
until-split over (b ∷ before) after h = absurd (omega (arith, ap length h))
until-split {cs = cs} (refused_one {d} {e = e} {u = u} {us} row more) (b ∷ before) after h =
    let m = until-split {d = d} {e = e} {us = us} {cs = cs} more (b ∷ before) after h in
    record {
      until = u ∷ m.until;
      later = m.later;
      all = ap (λ (xs : List TapeTurn). u ∷ xs) m.all;
      then = m.then;
      played = refused_one row m.played;
    }
until-split (accepted_one {d} {u = u} {us} {cs} row y reply new more) (b ∷ before) after h =
    let rest : before ++ after ≡ cs = cc in
    let same : u.call ≡ b = cc in
    let m = until-split more before after rest in
    subst (λ (c : Call). Until d (u ∷ us) (c ∷ before)) same (record {
      until = u ∷ m.until;
      later = m.later;
      all = ap (λ (xs : List TapeTurn). u ∷ xs) m.all;
      then = m.then;
      played = accepted_one row y reply new m.played;
    })

-- ---- the front of a run
accepted-front : (s : State) (bs cs : List Call) → Accepted s (bs ++ cs) → Accepted s bs
unfolding Accepted
accepted-front s [] cs a = tt
accepted-front s (b ∷ bs) cs a = (a.0, accepted-front (step s b) bs cs a.1)

each-front : {A : Type 0} (P : A → Type 0) (xs ys : List A) → Each P (xs ++ ys) → Each P xs
each-front P [] ys h = tt
each-front P (x ∷ xs) ys h = (h.0, each-front P xs ys h.1)

lines-grow : (cs : List Call) (s : State) → (more : List Line) × ((run s cs).lines ≡ s.lines ++ more)
unfolding run step
lines-grow [] s = ([], sym (append-nil s.lines))
lines-grow (c ∷ cs) s =
    let g = lines-grow cs (step s c) in
    (_, g.1 ∙ append_assoc s.lines _ g.0)

lines_of : (cs : List Call) → Accepted fresh cs → Each NumbersFit cs → lines_of_desk (desk_run fresh_desk cs) ≡ (run fresh cs).lines
unfolding view
lines_of cs a n = ap (λ (s : State). s.lines) (rw view-fresh at (run-view cs fresh_desk fresh-valid (rw view-fresh a) n))

-- ---- calls, each with room for what it writes
lent : List Call → List DeskTurn
lent [] = []
lent (c ∷ cs) = record { call = c; out = buffer } ∷ lent cs

lent-calls : (cs : List Call) → calls_in (lent cs) ≡ cs
unfolding calls_in lent
lent-calls [] = refl
lent-calls (c ∷ cs) = ap (λ (xs : List Call). c ∷ xs) (lent-calls cs)

lent_runs : (cs : List Call) (d : Desk) → Valid d → Accepted (view d) cs → Each NumbersFit cs → Taken d (lent cs) × (desk_after d (lent cs) ≡ desk_run d cs)
unfolding Accepted Taken desk_after desk_run lent buffer view
lent_runs [] d v a n = (tt, refl)
lent_runs (c ∷ cs) d v a n =
    let more = lent_runs cs (answers d c).desk (next-valid d c v a.0 n.0) (rw (next-view d c v a.0 n.0) a.1) n.1 in
    (((decided-yes d c 16).1 (accepts-room (view d) c 16 a.0 (writes_short (lane_for d c) c)), more.0), more.1)

alone-so : (cs : List Call) (d : Desk) → Accepted (view fresh_desk) cs → Each NumbersFit cs → desk_run fresh_desk cs ≡ d → DeskAlone cs d
alone-so cs d a n e =
    let k = lent_runs cs fresh_desk fresh-valid a n in
    let b : OfBytes (calls_in (lent cs)) = rw (lent-calls cs) (of_bytes cs n) in
    record {
      day = lent cs;
      same = lent-calls cs;
      bytes = b;
      taken = k.0;
      leaves = k.1 ∙ e;
      writes = rw ((turns.a-day (lent cs) b k.0).wrote_same, lent-calls cs);
    }

-- ---- what comes back of a tape of which the first bytes are left
module _ {us : List TapeTurn} {e : Day} {cs : List Call} {p : List ℕ} (played : Played fresh_day us e cs) (k : Known e cs p) where
  small-records : Each Small (records_of_run fresh cs)
  small-records =
      let r = its-records k in
      let same = (records-exactly fresh cs k.accepted k.fit r.0).0 r.1 in
      rw same ((joined-exactly r.0 p).0 r.2).1

  module _ (m : ℕ) (x : Result (Unit {0}) Refusal) (c : CutOff fresh_desk cs m 0 x) where
    abbrev others : List Record
    others = records_of_run (view (desk_run fresh_desk c.before)) c.after

    records-so : records_of_run fresh cs ≡ c.whole ++ (c.missing ++ others)
    records-so =
        rw view-fresh at (records-cut fresh_desk cs fresh-valid (rw view-fresh k.accepted) k.fit m 0 x c)

    abbrev size : ℕ
    size = length (joined c.whole)

    payload-is : p ≡ joined c.whole ++ joined (c.missing ++ others)
    unfolding recorded
    payload-is = sym k.payload ∙ ap joined records-so ∙ joined-append c.whole (c.missing ++ others)

    front-is : take size p ≡ joined c.whole
    front-is = ap (take size) payload-is ∙ take-append_seam (joined c.whole) (joined (c.missing ++ others))

    size-most : size ≤ length p
    size-most = omega (arith, ap length payload-is, length-append (joined c.whole) (joined (c.missing ++ others)))

    pub comes : (r : Replayed) → r ≡ record { desk = desk_run fresh_desk c.before; place = length (joined c.whole); ending = x }
        → Back us cs p m x r
    comes r same =
        let b = c.before in
        let order = c.all in
        let t = until-split played b c.after order in
        let a : Accepted fresh b = accepted-front fresh b c.after (rw order k.accepted) in
        let n : Each NumbersFit b = each-front NumbersFit b c.after (rw order k.fit) in
        rw same
        record {
          before = b;
          after = c.after;
          order = order;
          then = t.then;
          moment = record { until = t.until; later = t.later; all = t.all; played = t.played };
          desk = sym (played-desk t.played);
          whole = c.whole;
          missing = c.missing;
          others = others;
          theirs = (records-exactly fresh b a n (c.whole ++ c.missing)).1 (rw view-fresh at (sym c.taken));
          day_has = (records-exactly fresh cs k.accepted k.fit _).1 records-so;
          a_reply = c.lacks;
          place = rw front-is ((joined-exactly c.whole (joined c.whole)).1 (refl, each-front Small c.whole _ (rw records-so at small-records)));
          inside = (c.within, size-most);
          cut = c.next;
          ending = refl;
        }

  -- whatever is left of the tape, its good blocks hold the first bytes of the day's payload
  pub torn-back : (s : List ℕ) (m : ℕ) (x : Result (Unit {0}) Refusal) → good_of s ≡ record { payload = take m p; ending = x } → Back us cs p m x (replay_of s)
  torn-back s m x g =
      let t = replay-torn cs k.accepted k.fit s m x (g ∙ rw (← k.payload)) in
      comes m x t.0 (replay_of s) t.1

  -- all of it
  pub whole_back : (q : List ℕ) × (n : ℕ) × DrawnTape q e.file n
      × (replay_of e.file ≡ record { desk = e.taped.desk; place = length q; ending = Ok tt })
  whole_back =
      let f = k.few in
      let all = replay-day cs k.accepted k.fit (rw k.payload (omega arith)) in
      (p, length (pieces_of p), k.drawn, rw (k.file, played-desk played, ← k.payload) all)

  -- and its first bytes
  pub cut-back : (n : ℕ) → n ≤ length e.file → (q : List ℕ) × (j : ℕ) × DrawnTape q e.file j
      × ((x : Result (Unit {0}) Refusal) × CutAt n x × Back us cs q (n / 512 * 504) x (replay_of (take n e.file)))
  cut-back n h =
      let f = k.few in
      let g = good-cut p n (omega arith) (rw k.file at h) in
      (p, length (pieces_of p), k.drawn, (cut_ending n, cut-so, torn-back (take n e.file) (n / 512 * 504) (cut_ending n) (rw k.file g)))
    where
      cut-so : CutAt n (cut_ending n)
      cut-so = by-test (eqb (n % 512) 0) (λ t. rw t (between_blocks (eqb-true (n % 512) 0 t))) (λ t. rw t (within_a_block (eqb-false (n % 512) 0 t)))

  -- ---- lines are only added
  pub front-lines : {q : List ℕ} {m : ℕ} {x : Result (Unit {0}) Refusal} {r : Replayed} → Back us cs q m x r
      → (j : ℕ) × (lines_of_desk r.desk ≡ take j (lines_of_desk e.taped.desk))
  front-lines {r = r} b =
      let before = b.before in
      let a : Accepted fresh (before ++ b.after) = rw b.order k.accepted in
      let n : Each NumbersFit (before ++ b.after) = rw b.order k.fit in
      let first = lines_of before (accepted-front fresh before b.after a) (each-front NumbersFit before b.after n) in
      let all = lines_of cs k.accepted k.fit in
      let grow = lines-grow b.after (run fresh before) in
      let split : (run fresh cs).lines ≡ (run fresh before).lines ++ grow.0 =
      ap (λ (xs : List Call). (run fresh xs).lines) (sym b.order) ∙ ap (λ (s : State). s.lines) (run-append fresh before b.after) ∙ grow.1
      in
      let here : lines_of_desk r.desk ≡ (run fresh before).lines =
      ap lines_of_desk (b.desk ∙ played-desk b.moment.played) ∙ first
      in
      let there : lines_of_desk e.taped.desk ≡ (run fresh cs).lines = ap lines_of_desk (played-desk played) ∙ all in
      (length (run fresh before).lines, here ∙ sym (ap (take (length (run fresh before).lines)) (there ∙ split) ∙ take-append_seam (run fresh before).lines grow.0))

-- ---- every tape
module _ (s : List ℕ) (b : Bytes s) where
  refused-so : {r : Replayed} {f : Refusal} → Replays s r → replay_says r ≡ Err f → RefusedAt s f r.desk r.place
  refused-so (to_the_end (all_good n d) k last) h = absurd (err-not-ok (sym h))
  refused-so (to_the_end (up_to n first d full) k last) h = at_a_block n first (err-same h) d full k last
  refused-so (up_to_a_record g k begun stop) h = rw (← (err-same h)) (at_a_record g k begun stop)

  says_so : {f : Refusal} {d : Desk} {n : ℕ} → RefusedAt s f d n → replay_of s ≡ record { desk = d; place = n; ending = Err f }
  says_so (at_a_record g k begun stop) = (replays-exactly s b _).1 (up_to_a_record g k begun stop)
  says_so (at_a_block n first same d full k last) = (replays-exactly s b _).1 (rw (← same) (to_the_end (up_to n first d full) k last))

  pub refused-at : (f : Refusal) (d : Desk) (n : ℕ)
      → ((replay_says (replay_of s) ≡ Err f) × ((replay_of s).desk ≡ d) × ((replay_of s).place ≡ n)) ↔ RefusedAt s f d n
  refused-at f d n = (
    λ (e, desk, place). rw (← desk, ← place) (refused-so ((replays-exactly s b _).0 refl) e),
    λ k. rw (says_so k) (refl, refl, refl),
  )

  -- ---- the calls of a replay are a day at the desk alone
  module _ {r : Replayed} (k : Replays s r) where
    pub made-alone : DeskAlone (calls_made k) r.desk
    made-alone = let l = replay-leads b k in alone-so (calls_made k) r.desk l.accepted l.fit l.leaves

    -- and leave the same desk on every day
    pub made_again : {us : List TapeTurn} {e : Day} → Played fresh_day us e (calls_made k) → e.taped.desk ≡ r.desk
    made_again played = played-desk played ∙ (replay-leads b k).leaves

-- ---- T26
module _ (s : List ℕ) (b : Bytes s) where
  pub known-opening : (o : Opening) → (opening_in s ≡ Some o) ↔ Opens o s
  known-opening o = opens-exactly o s b

  pub its-bytes : (o : Opening) → Opens o s → s ≡ command_bytes o
  its-bytes o k = ((opening-exactly s o).0 ((opens-exactly o s b).1 k)).0

  pub known-none : (opening_in s ≡ None) ↔ ((o : Opening) → Opens o s → ⊥)
  known-none = none-exactly s b
