-- What every desk is: the fresh one, and each that a call or closing leaves; and each follows the course. Assumes nothing.
use mathlib.Core.Path.{◌≡◌, refl, ap, ◌∙◌}
use mathlib.Core.Bool.{Bool, true, false, ◌&&◌}
use mathlib.Core.List.{List, [], ◌∷◌, ◌++◌, append-nil}
use Prim.Native.Nat.{ℕ, zero, suc, ◌+◌, ◌≤◌, ◌<◌}
use native.Mathlib.Numerals.{add-one}
use native.Mathlib.Omega.{arith}
use lib.ListN.{length, get_or, set, replicate, length-set}
use lib.Seq.{length-take-le, set-get_or, take-suc-set}
use lib.Dec.{ltb, leb}
use borrow.Author.Tests.{leb-false, ltb-false}
use Rattle.std.proofs.Common.{Err, Ok, Result}
use Rattle.zvt_rules.specs.declared.Refusal.{Refusal}
use Rattle.basics.specs.Choice.{pick}
use Rattle.basics.specs.Buffers.{front}
use Rattle.basics.proofs.Tests.{pick-test}
use Rattle.desk_rules.specs.declared.Lane.{Lane}
use Rattle.desk_rules.specs.declared.Line.{Line}
use Rattle.desk_rules.specs.declared.Moved.{Moved}
use Rattle.desk_rules.specs.declared.Moved.TheVariants.{Stays, Becomes, Ends}
use Rattle.desk_rules.specs.declared.Book.{Book}
use Rattle.desk_rules.specs.declared.Desk.{Desk}
use Rattle.desk_rules.specs.declared.Answer.{Answer}
use Rattle.desk_rules.specs.Numbers.{lane_count, book_lines}
use Rattle.desk_rules.specs.Kinds.{booked}
use Rattle.desk_rules.specs.Lanes.{blank_line, idle_lane, line_at, line_taken}
use Rattle.desk_rules.specs.Course.{Call, lane_of, needs_line, NumbersFit, moves, writes}
use Rattle.desk_rules.specs.Runs.{one_opened}
use Rattle.desk_rules.specs.Desk.{fresh, lane_at, lines_taken, all_idle, load, Decision, refuse, accept, decide, lane_after, line_if, lines_from, step}
use Rattle.desk_rules.specs.Memory.{fresh_desk, lines_of_desk, view, lane_for, ToldSmall, Valid, with_line, ended_desk, moved_desk, refused_answer, answer_by, answer_of, leaves_by, leaves_of, close_answer}
use Rattle.desk_rules.proofs.Calls.{Passes}
use Rattle.desk_rules.proofs.Lanes.{total-set, lines-taken-total, not-refused, passed}
use Rattle.desk_rules.proofs.LineCount.{kept}
use Rattle.desk_rules.proofs.Amounts.{Small, LaneFits, LinesFit, Fits, moves-fit}

-- ---- lists

-- what holds of all elements holds after one more is put in
set_all : {A : Type 0} (P : A → Type 0) (ls : List A) (i : ℕ) (a d : A) → P a → ((k : ℕ) → P (get_or ls k d)) → (k : ℕ) → P (get_or (set ls i a) k d)
set_all P [] i a d p h k = h k
set_all P (x ∷ ls) zero a d p h zero = p
set_all P (x ∷ ls) zero a d p h (suc k) = h (suc k)
set_all P (x ∷ ls) (suc i) a d p h zero = h 0
set_all P (x ∷ ls) (suc i) a d p h (suc k) = set_all P ls i a d p (λ j. h (suc j)) k

replicate-all : {A : Type 0} (P : A → Type 0) (n : ℕ) (d : A) → P d → (k : ℕ) → P (get_or (replicate n d) k d)
replicate-all P zero d p k = p
replicate-all P (suc n) d p zero = p
replicate-all P (suc n) d p (suc k) = replicate-all P n d p k

-- ---- the lines that are kept for lanes

line-taken-in : (ls : List Lane) (i : ℕ) → line_taken (get_or ls i idle_lane) ≤ lines_taken ls
unfolding lines_taken line_taken
line-taken-in [] i = omega arith
line-taken-in (l ∷ ls) zero = omega arith
line-taken-in (l ∷ ls) (suc i) = omega (arith, line-taken-in ls i)

lines-taken-set : (ls : List Lane) (i : ℕ) (l : Lane) → i < length ls
    → lines_taken (set ls i l) + line_taken (get_or ls i idle_lane) ≡ lines_taken ls + line_taken l
lines-taken-set ls i l h = simp lines-taken-total (total-set line_taken ls i l idle_lane h)

-- ---- what every desk is

pub fresh-valid : Valid fresh_desk
unfolding lines_taken line_taken ToldSmall
fresh-valid =
    record {
      lanes = refl;
      lines = refl;
      lines_fit = omega arith;
      told = replicate-all LaneFits lane_count idle_lane tt;
      settled = replicate-all (λ (l : Line). Small l.settled) book_lines blank_line (omega arith);
    }

-- what a move of lane i leaves finds its lines
abbrev pub MoveFits : Desk → ℕ → Result Moved Refusal → Type 0
MoveFits d i m =
    let l = lane_at d.lanes i in
    d.book.count + lines_taken d.lanes + (line_taken (lane_after l m) + length (lines_from i l m)) ≤ book_lines + line_taken l

module _ (d : Desk) (v : Valid d) where
  pub load_is : load (view d) ≡ d.book.count + lines_taken d.lanes
  unfolding load view
  load_is = ap (λ (n : ℕ). n + lines_taken d.lanes) (length-take-le d.book.count d.book.lines (omega (arith, v.lines_fit, v.lines)))

  module _ (i : ℕ) (h : i < lane_count) where
    -- another lane, and a book that leaves it its line
    changed-valid : (l : Lane) (b : Book) → LaneFits l → length b.lines ≡ book_lines → LinesFit b.lines
        → b.count + lines_taken d.lanes + line_taken l ≤ book_lines + line_taken (lane_at d.lanes i)
        → Valid (record { lanes = set d.lanes i l; book = b })
    changed-valid l b f n k few =
        record {
          lanes = simp length-set v.lanes;
          lines = n;
          lines_fit = omega (arith, lines-taken-set d.lanes i l (omega (arith, v.lanes)));
          told = set_all LaneFits d.lanes i l idle_lane f v.told;
          settled = k;
        }

    moved-valid : (m : Result Moved Refusal) → MoveFits d i m → Fits m → Valid (moved_desk d i m)
    unfolding moved_desk ended_desk line_at lane_after lines_from ToldSmall
    moved-valid (Err x) r f = v
    moved-valid (Ok Stays) r f = v
    moved-valid (Ok (Becomes l)) r f = changed-valid l d.book f v.lines v.settled (omega arith)
    moved-valid (Ok (Ends outcome settled code)) r f = go (booked (lane_at d.lanes i).kind) r
      where
        line : Line
        line = line_at i (lane_at d.lanes i) outcome settled code

        go : (b : Bool)
            → d.book.count + lines_taken d.lanes + (line_taken idle_lane + length (line_if b line)) ≤ book_lines + line_taken (lane_at d.lanes i)
            → Valid (record { lanes = set d.lanes i idle_lane; book = pick b (with_line d.book line) d.book })
        go true e =
            changed-valid idle_lane (with_line d.book line) tt (simp length-set v.lines)
            (set_all (λ (l : Line). Small l.settled) d.book.lines d.book.count line blank_line f v.settled) (omega arith)
        go false e = changed-valid idle_lane d.book tt v.lines v.settled (omega arith)

    -- ---- the desk follows the course

    moved_view : (m : Result Moved Refusal) → MoveFits d i m → let l = lane_at d.lanes i in
        view (moved_desk d i m) ≡ record { lanes = set d.lanes i (lane_after l m); lines = lines_of_desk d ++ lines_from i l m }
    unfolding view moved_desk ended_desk line_at lane_after lines_from
    moved_view (Err x) r = rw (set-get_or, append-nil)
    moved_view (Ok Stays) r = rw (set-get_or, append-nil)
    moved_view (Ok (Becomes l)) r = rw append-nil
    moved_view (Ok (Ends outcome settled code)) r = go (booked (lane_at d.lanes i).kind) r
      where
        line : Line
        line = line_at i (lane_at d.lanes i) outcome settled code

        go : (b : Bool)
            → d.book.count + lines_taken d.lanes + (line_taken idle_lane + length (line_if b line)) ≤ book_lines + line_taken (lane_at d.lanes i)
            → view (record { lanes = set d.lanes i idle_lane; book = pick b (with_line d.book line) d.book })
            ≡ record { lanes = set d.lanes i idle_lane; lines = lines_of_desk d ++ line_if b line }
        go true e = rw (add-one, take-suc-set d.book.lines d.book.count line (omega (arith, line-taken-in d.lanes i, v.lines)))
        go false e = rw append-nil

-- what a call does to the lane that it names
abbrev pub move_of : Desk → Call → Result Moved Refusal
move_of d c = moves (lane_for d c) (lines_of_desk d) c

-- what an accepted call tells
pub record Taken (d : Desk) (c : Call) (room : ℕ) : Type 0 where
  pub lane : lane_of c < lane_count
  pub passes : Passes (move_of d c)
  pub few : needs_line c && leb book_lines (load (view d)) ≡ false
  pub fits : length (writes (lane_for d c) c) ≤ room

module _ (d : Desk) (c : Call) (room : ℕ) where
  pub taken : decide (view d) c room ≡ accept → Taken d c room
  unfolding decide view
  taken e =
      let a = not-refused (leb lane_count (lane_of c)) _ _ e in
      let b = passed (move_of d c) _ a.1 in
      let f = not-refused (needs_line c && leb book_lines (load (view d))) _ _ b.1 in
      let g = not-refused (ltb room (length (writes (lane_for d c) c))) _ _ f.1 in
      record {
        lane = leb-false lane_count (lane_of c) a.0;
        passes = b.0;
        few = f.0;
        fits = ltb-false room (length (writes (lane_for d c) c)) g.0;
      }

  taken-fits : Valid d → Taken d c room → MoveFits d (lane_of c) (move_of d c)
  unfolding one_opened
  taken-fits v t = go (needs_line c) (kept (lane_of c) (lane_for d c) (lines_of_desk d) c t.passes) t.few
    where
      m : Result Moved Refusal
      m = move_of d c

      go : (o : Bool)
          → line_taken (lane_after (lane_for d c) m) + length (lines_from (lane_of c) (lane_for d c) m) ≡ line_taken (lane_for d c) + pick o 1 0
          → o && leb book_lines (load (view d)) ≡ false → MoveFits d (lane_of c) m
      go true k e = omega (arith, leb-false book_lines (load (view d)) e, load_is d v)
      go false k e = omega (arith, v.lines_fit)

  -- the line that an accepted call adds is free
  pub taken-line : Valid d → decide (view d) c room ≡ accept
      → d.book.count + length (lines_from (lane_of c) (lane_for d c) (move_of d c)) ≤ book_lines
  taken-line v e = omega (arith, taken-fits v (taken e), line-taken-in d.lanes (lane_of c))

  -- ---- an answer

  pub refused-same : (n : Refusal) → decide (view d) c room ≡ refuse n → answer_of d c room ≡ refused_answer d n
  unfolding answer_of answer_by
  refused-same n e = rw (e, answer_by)

  pub accepted-answer : decide (view d) c room ≡ accept
      → answer_of d c room ≡ record { reply = Ok (length (writes (lane_for d c) c)); desk = moved_desk d (lane_of c) (move_of d c) }
  unfolding answer_of answer_by
  accepted-answer e = rw (e, answer_by)

  pub follows : Valid d → decide (view d) c room ≡ accept → view (answer_of d c room).desk ≡ step (view d) c
  unfolding step view
  follows v e =
      let t = taken e in
      ap (λ (a : Answer). view a.desk) (accepted-answer e) ∙ moved_view d v (lane_of c) t.lane (move_of d c) (taken-fits v t)

  pub answer-valid : Valid d → NumbersFit c → Valid (answer_of d c room).desk
  unfolding refused_answer
  answer-valid v n = go (decide (view d) c room) refl
    where
      go : (x : Decision) → decide (view d) c room ≡ x → Valid (answer_of d c room).desk
      go (refuse k) e = rw (refused-same k e) v
      go accept e =
          let t = taken e in
          let i = lane_of c in
          rw (accepted-answer e)
          (moved-valid d v i t.lane (move_of d c) (taken-fits v t)
          (moves-fit (lane_for d c) (lines_of_desk d) c (v.told i) n))

module _ (d : Desk) (c : Call) (out : List ℕ) where
  pub refused-leaves : (n : Refusal) → decide (view d) c (length out) ≡ refuse n → leaves_of d c out ≡ out
  unfolding leaves_of leaves_by
  refused-leaves n e = rw (e, leaves_by)

  pub accepted-leaves : decide (view d) c (length out) ≡ accept
      → leaves_of d c out ≡ front (writes (lane_for d c) c) out
  unfolding leaves_of leaves_by
  accepted-leaves e = rw (e, leaves_by)

pub view-fresh : view fresh_desk ≡ fresh
unfolding view fresh
view-fresh = refl

pub close-valid : (d : Desk) → Valid d → Valid (close_answer d).desk
unfolding close_answer refused_answer
close-valid d v = pick-test (λ (a : Answer). Valid a.desk) (all_idle d.lanes) (λ _. fresh-valid) (λ _. v)
