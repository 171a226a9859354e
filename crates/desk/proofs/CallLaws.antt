-- What a call of the desk answers and leaves, by the tests that the code makes one after the other. Assumes nothing.
use mathlib.Core.Path.{ap, refl, ◌≡◌, sym, ◌∙◌}
use mathlib.Core.Bool.{true, false, ◌&&◌}
use mathlib.Core.List.{List, ◌++◌}
use Prim.Native.Nat.{ℕ, ◌≤◌, ◌<◌}
use native.Mathlib.Omega.{arith}
use lib.ListN.{length, take, drop}
use lib.Seq.{take-length}
use Rattle.std.proofs.Common.{min, Err, Ok}
use Rattle.buffers.proofs.Copies.{copied-all}
use lib.Dec.{leb}
use borrow.Author.Tests.{le-leb, lt-leb, lt-ltb, le-ltb}
use Rattle.basics.proofs.Tests.{never}
use Rattle.desk_rules.specs.Desk.{Decision}
use Rattle.zvt_rules.specs.declared.Refusal.{Refusal}
use Rattle.zvt_rules.specs.Reading.{unplaced}
use Rattle.basics.specs.Buffers.{front}
use Rattle.desk_rules.specs.declared.Outcome.{Outcome}
use Rattle.desk_rules.specs.declared.Outcome.TheVariants.{Unclear}
use Rattle.desk_rules.specs.declared.Lane.{Lane}
use Rattle.desk_rules.specs.declared.Moved.{Moved}
use Rattle.desk_rules.specs.declared.Moved.TheVariants.{Stays, Becomes, Ends}
use Rattle.desk_rules.specs.declared.Desk.{Desk}
use Rattle.desk_rules.specs.declared.Answer.{Answer}
use Rattle.desk_rules.specs.Numbers.{lane_count, book_lines}
use Rattle.desk_rules.specs.Kinds.{is_idle}
use Rattle.desk_rules.specs.Course.{no_move, lost_by, Call, lane_of, needs_line, NumbersFit, writes}
use Rattle.desk_rules.specs.Lanes.{line_at}
use Rattle.desk_rules.specs.Desk.{lane_at, load, refuse, accept, unless_refused, decide, lines_from}
use Rattle.desk_rules.specs.Memory.{view, lane_for, Valid, moved_desk, refused_answer, answer_of, leaves_of}
use Rattle.desk.specs.Steps.{BookedFits, LineFits}
use Rattle.desk_rules.proofs.Calls.{Passes}
use Rattle.desk_rules.proofs.Lanes.{passing}
use Rattle.desk_rules.proofs.Memory.{move_of, refused-same, accepted-answer, refused-leaves, accepted-leaves, answer-valid}

-- a move that is no refusal
pub passes-ok : (m : Moved) → Passes (Ok m)
passes-ok Stays = tt
passes-ok (Becomes l) = tt
passes-ok (Ends outcome settled code) = tt

-- the line at an end, if it is booked, is free
pub booked-fits : (d : Desk) (i : ℕ) (outcome : Outcome) (settled code : ℕ) → LineFits d i (Ends outcome settled code)
    → BookedFits d (line_at i (lane_at d.lanes i) outcome settled code)
unfolding lines_from line_at
booked-fits d i outcome settled code h b = let k = rw b at h in omega arith

-- what bytes::copy leaves of bytes that are w
pub copied : (s w out : List ℕ) → s ≡ w → take (length s) s ++ drop (length s) out ≡ front w out
copied s w out e = rw (take-length, e)

-- what buffers::copy leaves of such bytes, where there is room for all of them
pub copied-front : (s w out left : List ℕ) (n : ℕ) → s ≡ w → length w ≤ length out → n ≡ min (length s) (length out)
    → left ≡ take n s ++ drop n out
    → left ≡ front w out
copied-front s w out left n e room size bytes = (copied-all s out left n (rw e room) size bytes).1 ∙ copied s w out e

-- what a lost link does to an idle lane, and to one that is not
pub lost-idle : (l : Lane) → is_idle l.phase ≡ true → lost_by l ≡ no_move 14
unfolding lost_by
lost-idle l e = rw e

pub lost-open : (l : Lane) → is_idle l.phase ≡ false → lost_by l ≡ Ok (Ends Unclear 0 0)
unfolding lost_by
lost-open l e = rw e

-- ---- the decision

module _ (d : Desk) (c : Call) (room : ℕ) where
  pub no_lane : lane_count ≤ lane_of c → decide (view d) c room ≡ refuse (unplaced 12)
  unfolding decide
  no_lane h = rw (le-leb lane_count (lane_of c) h)

  module _ (h : lane_of c < lane_count) where
    pub not-moved : (r : Refusal) → move_of d c ≡ Err r → decide (view d) c room ≡ refuse r
    unfolding decide view unless_refused
    not-moved r e = rw (lt-leb lane_count (lane_of c) h, e)

    module _ (p : Passes (move_of d c)) where
      pub no_line : needs_line c && leb book_lines (load (view d)) ≡ true → decide (view d) c room ≡ refuse (unplaced 18)
      unfolding decide view
      no_line q = rw (lt-leb lane_count (lane_of c) h, passing (move_of d c) _ p, q)

      module _ (q : needs_line c && leb book_lines (load (view d)) ≡ false) where
        pub no_room : room < length (writes (lane_for d c) c) → decide (view d) c room ≡ refuse (unplaced 11)
        unfolding decide view
        no_room k = rw (lt-leb lane_count (lane_of c) h, passing (move_of d c) _ p, q, lt-ltb room (length (writes (lane_for d c) c)) k)

        pub goes_on : length (writes (lane_for d c) c) ≤ room → decide (view d) c room ≡ accept
        unfolding decide view
        goes_on k = rw (lt-leb lane_count (lane_of c) h, passing (move_of d c) _ p, q, le-ltb room (length (writes (lane_for d c) c)) k)

-- ---- what follows from it: the answer, the content of the lent buffer, and a valid desk

abbrev pub Answers : Desk → Call → List ℕ → Answer → List ℕ → Type 0
Answers d c out r exit = (r ≡ answer_of d c (length out)) × ((exit ≡ leaves_of d c out) × Valid r.desk)

module _ (d : Desk) (v : Valid d) (c : Call) (n : NumbersFit c) (out : List ℕ) (r : Answer) where
  valid : r ≡ answer_of d c (length out) → Valid r.desk
  valid e = rw e (answer-valid d c (length out) v n)

  pub refused_as : (k : Refusal) → decide (view d) c (length out) ≡ refuse k → r ≡ refused_answer d k → Answers d c out r out
  refused_as k e f =
      let same = f ∙ sym (refused-same d c (length out) k e) in
      (same, (sym (refused-leaves d c out k e), valid same))

  pub taken_as : (exit : List ℕ) → decide (view d) c (length out) ≡ accept
      → r ≡ record { reply = Ok (length (writes (lane_for d c) c)); desk = moved_desk d (lane_of c) (move_of d c) }
      → exit ≡ front (writes (lane_for d c) c) out
      → Answers d c out r exit
  taken_as exit e f g =
      let same = f ∙ sym (accepted-answer d c (length out) e) in
      (same, (g ∙ sym (accepted-leaves d c out e), valid same))

-- so many bytes were written, and that desk is given back
pub written : {n m : ℕ} {d e : Desk} → n ≡ m → d ≡ e → ◌≡◌ {A = Answer} (record { reply = Ok n; desk = d }) (record { reply = Ok m; desk = e })
written p q = rw (p, q)

pub valid-refused : (d : Desk) (r : Answer) (n : Refusal) → Valid d → r ≡ refused_answer d n → Valid r.desk
unfolding refused_answer
valid-refused d r n v e = rw e v

-- ---- the reply says how the call was decided
module _ (d : Desk) (c : Call) (room : ℕ) where
  pub reply-refused : (r : Refusal) → (answer_of d c room).reply ≡ Err r → decide (view d) c room ≡ refuse r
  unfolding refused_answer
  reply-refused r e = go (decide (view d) c room) refl
    where
      go : (x : Decision) → decide (view d) c room ≡ x → decide (view d) c room ≡ refuse r
      go (refuse n) q =
          let said : Err n ≡ Err r = ap (λ (i : Answer). i.reply) (sym (refused-same d c room n q)) ∙ e in
          cc
      go accept q =
          let said : Ok _ ≡ Err r = ap (λ (i : Answer). i.reply) (sym (accepted-answer d c room q)) ∙ e in
          never cc

  pub reply-accepted : (k : ℕ) → (answer_of d c room).reply ≡ Ok k → (decide (view d) c room ≡ accept) × (k ≡ length (writes (lane_for d c) c))
  unfolding refused_answer
  reply-accepted k e = go (decide (view d) c room) refl
    where
      go : (x : Decision) → decide (view d) c room ≡ x → (decide (view d) c room ≡ accept) × (k ≡ length (writes (lane_for d c) c))
      go (refuse n) q =
          let said : Err n ≡ Ok k = ap (λ (i : Answer). i.reply) (sym (refused-same d c room n q)) ∙ e in
          never cc
      go accept q =
          let said : Ok (length (writes (lane_for d c) c)) ≡ Ok k = ap (λ (i : Answer). i.reply) (sym (accepted-answer d c room q)) ∙ e in
          (q, cc)
