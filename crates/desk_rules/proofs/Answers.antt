-- What a call of the desk writes, leaves and answers is what the second writing says and nothing else; so are closing and the
-- questions to a desk. Assumes nothing.
use mathlib.Core.Path.{◌≡◌, refl, sym, ap, ◌∙◌, subst}
use mathlib.Core.Bool.{Bool, true, false, ◌&&◌, ◌||◌, false≢true, and-eq-true_iff}
use mathlib.Core.Logic.{◌↔◌, ◌⊎◌, inl, inr, ⊎_elim}
use mathlib.Core.List.{List, [], ◌∷◌}
use Prim.Native.Nat.{ℕ, zero, suc, ◌+◌, ◌*◌, ◌<◌}
use native.Mathlib.Omega.{arith}
use lib.ListN.{length, get_or, take, length-append, length-set}
use lib.Seq.{length-take-le, split_at, get_or_at, get_or-set_same, get_or-set_other, ext_get_or}
use lib.Dec.{eqb, ltb}
use borrow.Author.Tests.{eqb-true, eq-eqb, ne_eqb, ltb-true, ltb-false, lt-ltb, le-ltb}
use Rattle.std.proofs.Common.{Err, Ok, Option, Result, Some}
use Rattle.zvt_rules.specs.declared.Refusal.{Refusal}
use Rattle.basics.specs.Choice.{pick}
use Rattle.basics.specs.Lists.{among}
use Rattle.zvt_rules.specs.Reading.{Reading, got, refused, unplaced}
use Rattle.zvt_rules.specs.Fields.{Field}
use Rattle.zvt_rules.specs.Message.{Heading, header_size, whole_header, Message, read_of, message_of, body_of, layout_of, start}
use Rattle.zvt_rules.specs.Values.{Found, missing, found, value_in, body_fields, code_of, code_in, status_in, status_fields}
use Rattle.zvt_rules.specs.believed.Writing.{message_bytes}
use Rattle.basics.specs.believed.Lists.{Bytes, In}
use Rattle.zvt_rules.specs.Heard.{told_in}
use Rattle.basics.proofs.Lists.{in-none, in-first}
use Rattle.zvt_rules.proofs.Readings.{got_same, then-got, then-on}
use Rattle.basics.proofs.Tests.{true-false, pick-test, case, eqb-test}
use Rattle.zvt_rules.proofs.MessageBytes.{read-sound}
use Rattle.desk_rules.specs.declared.Outcome.TheVariants.{Unclear, Declined}
use Rattle.desk_rules.specs.declared.Phase.{Phase}
use Rattle.desk_rules.specs.declared.Phase.TheVariants.{Idle, Waiting, Running}
use Rattle.desk_rules.specs.declared.Lane.{Lane}
use Rattle.desk_rules.specs.declared.Line.{Line}
use Rattle.desk_rules.specs.declared.Moved.{Moved}
use Rattle.desk_rules.specs.declared.Moved.TheVariants.{Stays, Becomes, Ends}
use Rattle.desk_rules.specs.declared.Opening.{Opening}
use Rattle.desk_rules.specs.declared.Desk.{Desk}
use Rattle.desk_rules.specs.declared.Answer.{Answer}
use Rattle.desk_rules.specs.Numbers.{lane_count}
use Rattle.desk_rules.specs.Kinds.{is_idle}
use Rattle.desk_rules.specs.Lanes.{blank_line}
use Rattle.desk_rules.specs.Openings.{within_limits, refers_to, last_line, stands, opened_lane}
use Rattle.desk_rules.specs.Course.{running_pairs, pair_is, heard_waiting, reported_by, moved_by, after_body, heard_running, lost_by, answered, opened_by, Call, opening, message, lost, lane_of, NumbersFit, moves, writes}
use Rattle.desk_rules.specs.Memory.{fresh_desk, view, lines_of_desk, Valid, refused_answer, answer_of, leaves_of, close_answer, line_answer, lane_answer}
use Rattle.desk_rules.specs.Desk.{State, lane_at, all_idle, Decision, refuse, accept, decide, lane_after, lines_from, step}
use Rattle.desk_rules.specs.believed.Due.{Reads, by_84, by_061E, by_060F, by_loss}
use Rattle.desk_rules.specs.believed.Table.{lane_in, phase_at, idle, while_running, Commands}
use Rattle.desk_rules.specs.believed.Answers.{Writes, command, silent, reply, link_lost, running, Makes, opened, taken, waits, told, untold, ended, broken, Leaves, Answers, refusal, success, refusing, Closes, open_payment, closed, ShowsLane, no_lane, lane, ShowsLine, no_line, line}
use Rattle.desk_rules.proofs.Heard.{heard-cases}
use Rattle.desk_rules.proofs.Commands.{command-exactly}
use Rattle.desk_rules.proofs.Due.{reads, status-is, status-there, asks-are, ask}
use Rattle.desk_rules.proofs.Calls.{Passes, every-kind, plain-read, empty-read, both, Closing, completed-closes, aborted-closes}
use Rattle.desk_rules.proofs.Lanes.{accept-parts, accepts-any}
use Rattle.desk_rules.proofs.Memory.{refused-same, accepted-answer, follows, refused-leaves, accepted-leaves}
use Rattle.desk_rules.proofs.Rows.{idle-test, pairs-test, table, past, accepted-within}

-- ---- what is written

from-command : {s : State} {i : ℕ} {o : Opening} {w : List ℕ} → Writes s (opening i o) w
    → Bytes w × ((m : Message) × (read_of w ≡ got m) × Commands o m)
from-command (command b r c) = (b, (_, r, c))

from-reply : {s : State} {i : ℕ} {b w : List ℕ} → Writes s (message i b) w → w ≡ answered (phase_at s i)
unfolding answered
from-reply (silent e) = rw e
from-reply (reply e) = rw e

from-lost : {s : State} {i : ℕ} {w : List ℕ} → Writes s (lost i) w → w ≡ []
from-lost link_lost = refl

-- an accepted call writes what it must, and nothing else
pub writes-exactly : (s : State) (c : Call) (room : ℕ) (w : List ℕ) → decide s c room ≡ accept
    → (w ≡ writes (lane_at s.lanes (lane_of c)) c) ↔ Writes s c w
unfolding writes lane_of answered
writes-exactly s (opening i o) room w a =
    let k = command-exactly o w (accepted-within s i o room a) in
    (λ e. let x = k.0 e in command x.0 x.1.1 x.1.2, λ h. k.1 (from-command h))
writes-exactly s (message i b) room w a = (λ e. rw e (go (phase_at s i) refl), from-reply)
  where
    open-lane : phase_at s i ≡ Idle → ⊥
    open-lane e = (past _ _ (past _ _ ((table s (message i b) room accept).0 a)).1).0 (unplaced 14) (e, refl)

    go : (p : Phase) → phase_at s i ≡ p → Writes s (message i b) (answered p)
    go Idle e = absurd (open-lane e)
    go Waiting e = silent e
    go Running e = reply e
writes-exactly s (lost i) room w a = (λ e. rw e link_lost, from-lost)

-- ---- what a message makes of its lane

-- the header's pair is the message's
pub same-pair : (b : List ℕ) (h : Heading) (m : Message) → whole_header b ≡ got h → read_of b ≡ got m
    → (m.class ≡ h.class) × (m.instruction ≡ h.instruction) × (m.long ≡ h.long)
unfolding read_of message_of
same-pair b h m w r =
    let t = then-got (body_of (start h) _ (layout_of h.class h.instruction)) _ m (sym (then-on _ h w) ∙ r) in
    let e = sym (got_same t.2) in
    (ap (λ (x : Message). x.class) e, ap (λ (x : Message). x.instruction) e, ap (λ (x : Message). x.long) e)

pair-bytes : (b : List ℕ) (m : Message) → Bytes b → read_of b ≡ got m → (m.class < 256) × (m.instruction < 256)
unfolding message_bytes Bytes
pair-bytes b m n r = let all = subst Bytes (sym (read-sound b m n r).0) n in (all 0, all 1)

-- a move is one that the second writing knows, where it is not refused
Fits : State → Call → ℕ → Result Moved Refusal → Type 0
Fits s c i m = Passes m → Makes s c i (lane_after (lane_at s.lanes i) m) (lines_from i (lane_at s.lanes i) m)

module _ (s : State) (c : Call) (i : ℕ) where
  refuses : (r : Refusal) → Fits s c i (Err r)
  unfolding Fits
  refuses r h = absurd h

  stays : Makes s c i (lane_in s i) [] → Fits s c i (Ok Stays)
  unfolding Fits lane_after lines_from
  stays k h = k

  becomes : (n : Lane) → Makes s c i n [] → Fits s c i (Ok (Becomes n))
  unfolding Fits lane_after lines_from
  becomes n k h = k

  ends : ((line : Line) → Makes s c i idle (line ∷ [])) → (m : Result Moved Refusal) → Closing m → Fits s c i m
  unfolding Fits lane_after lines_from
  ends e (Err r) k h = absurd h
  ends e (Ok Stays) k h = absurd k
  ends e (Ok (Becomes n)) k h = absurd k
  ends e (Ok (Ends outcome settled code)) k h = rw (every-kind (lane_at s.lanes i).kind) (e _)

module _ (s : State) (i : ℕ) (b : List ℕ) where
  by-waiting : (h : Heading) → whole_header b ≡ got h → Fits s (message i b) i (heard_waiting (lane_at s.lanes i) h)
  unfolding heard_waiting
  by-waiting h w =
      pick-test (Fits s (message i b) i) (eqb h.size 0)
      (λ n. pick-test (Fits s (message i b) i) (pair_is h.class h.instruction 0x80 0x00)
      (λ e.
      let p = both h.class h.instruction 0x80 0x00 e in
      becomes _ _ _ _ (taken (reads b _ 0x80 0x00 (empty-read b h w (omega (arith, p.0)) (eqb-true h.size 0 n)) p.0 p.1)))
      (λ _. pick-test (Fits s (message i b) i) (eqb h.class 0x84)
      (λ e.
      let p = eqb-true h.class 0x84 e in
      ends _ _ _ (λ _. ended (by_84 (reads b _ 0x84 h.instruction (plain-read b h w (omega arith)) p refl))) (Ok (Ends Declined 0 h.instruction)) tt)
      (λ _. refuses _ _ _ _)))
      (λ _. refuses _ _ _ _)

  by_report : (m : Message) → Reads b 0x04 0x0F m.body → (lane_at s.lanes i).phase ≡ Running
      → let st = status_in (body_fields m.body) in Fits s (message i b) i (reported_by (lane_at s.lanes i) st st.code)
  unfolding status_in code_in code_of reported_by
  by_report m r on = go (value_in 0x27 (body_fields m.body)) refl
    where
      go : (x : Found) → value_in 0x27 (body_fields m.body) ≡ x
          → Fits s (message i b) i (reported_by (lane_at s.lanes i) (status_in (body_fields m.body)) (code_of x))
      go missing e = stays _ _ _ (untold r e)
      go (found v) e = becomes _ _ _ _ (rw on (told r e (status-there (body_fields m.body))))

  one_of : {X : Type 0} {x k : ℕ} {ks : List ℕ} → (x ≡ k → X) → (In x ks → X) → In x (k ∷ ks) → X
  one_of here later i = ⊎_elim here later (in-first i)

  -- of the six pairs, three change nothing
  by-pair : (m : Message) → Bytes b → read_of b ≡ got m → In (m.class * 256 + m.instruction) while_running
      → pair_is m.class m.instruction 0x06 0x0F ≡ false → pair_is m.class m.instruction 0x06 0x1E ≡ false
      → pair_is m.class m.instruction 0x04 0x0F ≡ false → Makes s (message i b) i (lane_in s i) []
  by-pair m n r o f1 f2 f3 = go o
    where
      small : (m.class < 256) × (m.instruction < 256)
      small = pair-bytes b m n r

      is : (c k : ℕ) → k < 256 → c * 256 + k ≡ m.class * 256 + m.instruction → (m.class ≡ c) × (m.instruction ≡ k)
      is c k l e = (omega (arith, small.1), omega (arith, small.1))

      paired : (c k : ℕ) → k < 256 → c * 256 + k ≡ m.class * 256 + m.instruction → Reads b c k m.body
      paired c k l e = reads b m c k r (is c k l e).0 (is c k l e).1

      other : (c k : ℕ) → k < 256 → c * 256 + k ≡ m.class * 256 + m.instruction → pair_is m.class m.instruction c k ≡ false → ⊥
      other c k l e f = let p = is c k l e in true-false ((and-eq-true_iff _ _).1 (eq-eqb _ _ p.0, eq-eqb _ _ p.1)) f

      go : In (m.class * 256 + m.instruction) while_running → Makes s (message i b) i (lane_in s i) []
      go = one_of (λ e. waits (inl (paired 0x04 0xFF (omega arith) (sym e))))
          (one_of (λ e. waits (inr (inl (paired 0x06 0xD1 (omega arith) (sym e)))))
          (one_of (λ e. waits (inr (inr (paired 0x06 0xD3 (omega arith) (sym e)))))
          (one_of (λ e. absurd (other 0x04 0x0F (omega arith) (sym e) f3))
          (one_of (λ e. absurd (other 0x06 0x1E (omega arith) (sym e) f2))
          (one_of (λ e. absurd (other 0x06 0x0F (omega arith) (sym e) f1)) in-none)))))

  by-moved : (m : Message) → Bytes b → read_of b ≡ got m → In (m.class * 256 + m.instruction) while_running
      → (lane_at s.lanes i).phase ≡ Running → Fits s (message i b) i (moved_by (lane_at s.lanes i) m.class m.instruction (header_size m.long) (told_in m))
  unfolding moved_by told_in status_fields
  by-moved m n r o on =
      pick-test (Fits s (message i b) i) (pair_is m.class m.instruction 0x06 0x0F)
      (λ e. let p = both m.class m.instruction 0x06 0x0F e in ends _ _ _ (λ _. ended (by_060F (reads b m 0x06 0x0F r p.0 p.1))) _ (completed-closes _ _))
      (λ f1. pick-test (Fits s (message i b) i) (pair_is m.class m.instruction 0x06 0x1E)
      (λ e. let p = both m.class m.instruction 0x06 0x1E e in ends _ _ _ (λ _. ended (by_061E (reads b m 0x06 0x1E r p.0 p.1))) _ (aborted-closes _ _))
      (λ f2. pick-test (Fits s (message i b) i) (pair_is m.class m.instruction 0x04 0x0F)
      (λ e. let p = both m.class m.instruction 0x04 0x0F e in rw e (by_report m (reads b m 0x04 0x0F r p.0 p.1) on))
      (λ f3. stays _ _ _ (by-pair m n r o f1 f2 f3))))

  by-running : Bytes b → (h : Heading) → whole_header b ≡ got h → (lane_at s.lanes i).phase ≡ Running
      → Fits s (message i b) i (heard_running (lane_at s.lanes i) b h)
  unfolding heard_running after_body
  by-running n h w e =
      pick-test (Fits s (message i b) i) (among running_pairs (h.class * 256 + h.instruction))
      (λ t. body (read_of b) refl ((pairs-test _).0 t) e) (λ _. refuses _ _ _ _)
    where
      body : (x : Reading Message) → read_of b ≡ x → In (h.class * 256 + h.instruction) while_running
          → (lane_at s.lanes i).phase ≡ Running → Fits s (message i b) i (after_body (lane_at s.lanes i) x)
      body (refused f) r o on = refuses _ _ _ _
      body (got m) r o on = let p = same-pair b h m w r in by-moved m n r (rw (p.0, p.1) o) on

-- ---- what a call makes of its lane

makes : (s : State) (c : Call) → NumbersFit c → Fits s c (lane_of c) (moves (lane_at s.lanes (lane_of c)) s.lines c)
unfolding moves lane_of opened_by lost_by NumbersFit
makes s (opening i o) n =
    let P = Fits s (opening i o) i in
    pick-test P (is_idle (lane_at s.lanes i).phase)
    (λ _. pick-test P (within_limits o)
    (λ _. pick-test P (stands (refers_to o) (last_line i (refers_to o) s.lines)) (λ e. becomes _ _ _ _ (opened (ask i s.lines o e))) (λ _. refuses _ _ _ _)) (λ _. refuses _ _ _ _))
    (λ _. refuses _ _ _ _)
makes s (message i b) n =
    heard-cases (Fits s (message i b) i) (lane_at s.lanes i) b (refuses _ _ _) (λ h w _. by-waiting s i b h w) (λ h w e. by-running s i b n h w e)
makes s (lost i) n =
    pick-test (Fits s (lost i) i) (is_idle (lane_at s.lanes i).phase) (λ _. refuses _ _ _ _) (λ _. ends _ _ _ (λ _. broken by_loss) (Ok (Ends Unclear 0 0)) tt)

-- ---- and nothing else

-- the lane and the number of lines that a message makes, by what it is read as
again : Lane → Found → List Field → Lane
again l missing fs = l
again l (found v) fs = running l (status_in fs)

made : Lane → Reading Message → Lane × ℕ
made l (refused f) = (l, 0)
made l (got m) =
    pick (pair_is m.class m.instruction 0x80 0x00) (running l l.status, 0)
    (pick (eqb m.class 0x84 || (pair_is m.class m.instruction 0x06 0x1E || pair_is m.class m.instruction 0x06 0x0F)) (idle, 1)
    (pick (pair_is m.class m.instruction 0x04 0x0F) (again l (value_in 0x27 (body_fields m.body)) (body_fields m.body), 0) (l, 0)))

-- and of any call
made_by : State → Call → Lane × ℕ
made_by s (opening i o) = (opened_lane o (last_line i (refers_to o) s.lines), 0)
made_by s (message i b) = made (lane_in s i) (read_of b)
made_by s (lost i) = (idle, 1)

by-message : {s : State} {i j : ℕ} {b : List ℕ} {n : Lane} {new : List Line} → Makes s (message i b) j n new
    → (j ≡ i) × ((n, length new) ≡ made_by s (message i b))
unfolding made_by made again
by-message (taken r) = (refl, rw r.whole)
by-message (waits e) = (refl, ⊎_elim (λ r. rw r.whole) (⊎_elim (λ r. rw r.whole) (λ r. rw r.whole)) e)
by-message (told r e st) = (refl, rw (r.whole, e, status-is st))
by-message (untold r e) = (refl, rw (r.whole, e))
by-message (ended (by_84 r)) = (refl, rw r.whole)
by-message (ended (by_061E r)) = (refl, rw r.whole)
by-message (ended (by_060F r)) = (refl, rw r.whole)

by-opening : {s : State} {i j : ℕ} {o : Opening} {n : Lane} {new : List Line} → Makes s (opening i o) j n new
    → (j ≡ i) × ((n, length new) ≡ made_by s (opening i o))
unfolding made_by
by-opening (opened k) = (refl, rw (asks-are k))

by-lost : {s : State} {i j : ℕ} {n : Lane} {new : List Line} → Makes s (lost i) j n new → (j ≡ i) × ((n, length new) ≡ made_by s (lost i))
unfolding made_by
by-lost (broken e) = (refl, refl)

one-made : {s : State} {j : ℕ} {n : Lane} {new : List Line} (c : Call) → Makes s c j n new → (j ≡ lane_of c) × ((n, length new) ≡ made_by s c)
unfolding lane_of
one-made (opening i o) h = by-opening h
one-made (message i b) h = by-message h
one-made (lost i) h = by-lost h

-- ---- what a call leaves

-- what an accepted call leaves is as the second writing says
pub leaves : (s : State) (c : Call) (room : ℕ) → length s.lanes ≡ lane_count → NumbersFit c → decide s c room ≡ accept → Leaves s c (step s c)
unfolding step Fits
leaves s c room e n a =
    let t = accept-parts s c (accepts-any s c room a) in
    let l = lane_at s.lanes (lane_of c) in
    let m = moves l s.lines c in
    record {
      at = lane_of c;
      new = lines_from (lane_of c) l m;
      makes = rw (get_or-set_same s.lanes (lane_of c) (lane_after l m) idle (omega (arith, t.lane))) (makes s c n t.moved);
      lines = refl;
      count = simp length-set;
      others = λ k o. get_or-set_other s.lanes (lane_of c) k (lane_after l m) idle o;
    }

lane-left : (s t : State) (c : Call) → Leaves s c t → (k : ℕ) → (k ≡ lane_of c → ⊥) ⊎ (k ≡ lane_of c)
    → lane_in t k ≡ pick (eqb k (lane_of c)) (made_by s c).0 (lane_in s k)
lane-left s t c h k (inl o) = rw (ne_eqb k (lane_of c) o) (h.others k (λ e. o (e ∙ (one-made c h.makes).0)))
lane-left s t c h k (inr e) =
    let m = one-made c h.makes in
    rw (eq-eqb k (lane_of c) e) (ap (lane_in t) (e ∙ sym m.0) ∙ ap (λ (x : Lane × ℕ). x.0) m.1)

-- and of no other lanes, nor of another number of lines
pub leaves-one : (s t u : State) (c : Call) → Leaves s c t → Leaves s c u → (t.lanes ≡ u.lanes) × (length t.lines ≡ length u.lines)
leaves-one s t u c h k = (
  ext_get_or idle t.lanes u.lanes (h.count ∙ sym k.count)
      (λ j _. let o = case (eqb-test j (lane_of c)) inr inl in lane-left s t c h j o ∙ sym (lane-left s u c k j o)),
  ap length h.lines ∙ length-append s.lines h.new ∙ ap (λ (n : ℕ). length s.lines + n) (as_many h ∙ sym (as_many k))
      ∙ sym (ap length k.lines ∙ length-append s.lines k.new),
)
  where
    as_many : {t : State} (h : Leaves s c t) → length h.new ≡ (made_by s c).1
    as_many h = ap (λ (x : Lane × ℕ). x.1) (one-made c h.makes).1

-- ---- the answer to a call
module _ (d : Desk) (c : Call) (out : List ℕ) (v : Valid d) (n : NumbersFit c) where
  -- it is the one of the second writing
  pub answers : Answers d c out (answer_of d c (length out)) (leaves_of d c out)
  unfolding refused_answer view
  answers = go (decide (view d) c (length out)) refl
    where
      go : (x : Decision) → decide (view d) c (length out) ≡ x → Answers d c out (answer_of d c (length out)) (leaves_of d c out)
      go (refuse k) e = rw (refused-same d c (length out) k e, refused-leaves d c out k e) (refusal ((table (view d) c (length out) (refuse k)).0 e))
      go accept e =
          rw (accepted-answer d c (length out) e, accepted-leaves d c out e)
          (success ((table (view d) c (length out) accept).0 e) ((writes-exactly (view d) c (length out) _ e).0 refl)
          (subst (Leaves (view d) c) (sym (follows d c (length out) v e) ∙ ap (λ (a : Answer). view a.desk) (accepted-answer d c (length out) e))
          (leaves (view d) c (length out) v.lanes n e)))

  -- and there is no other: reply, written bytes, lanes and the number of lines are these
  pub answers_one : {a : Answer} {o : List ℕ} → Answers d c out a o
      → (a.reply ≡ (answer_of d c (length out)).reply) × (o ≡ leaves_of d c out) × (a.desk.lanes ≡ (answer_of d c (length out)).desk.lanes)
      × (length (view a.desk).lines ≡ length (view (answer_of d c (length out)).desk).lines)
  unfolding refused_answer view
  answers_one (refusal {r = k} r) =
      let e = (table (view d) c (length out) (refuse k)).1 r in
      let s = refused-same d c (length out) k e in
      (rw s, rw (refused-leaves d c out k e), rw s, rw s)
  answers_one (success {w = w} {e = desk} r x l) =
      let e = (table (view d) c (length out) accept).1 r in
      let same = (writes-exactly (view d) c (length out) w e).1 x in
      let one = leaves-one (view d) (view desk) (step (view d) c) c l (leaves (view d) c (length out) v.lanes n e) in
      let f = follows d c (length out) v e in (
        rw (accepted-answer d c (length out) e, same),
        rw (accepted-leaves d c out e, same),
        one.0 ∙ ap (λ (s : State). s.lanes) (sym f),
        one.1 ∙ ap (λ (s : State). length s.lines) (sym f),
      )

-- ---- closing

-- every lane is idle, or some is not
pub idle-or-not : (ls : List Lane) → (all_idle ls ≡ true) ⊎ ((i : ℕ) × (i < length ls) × ((lane_at ls i).phase ≡ Idle → ⊥))
unfolding all_idle
idle-or-not [] = inl refl
idle-or-not (l ∷ ls) = go (is_idle l.phase) refl (idle-or-not ls)
  where
    go : (t : Bool) → is_idle l.phase ≡ t → (all_idle ls ≡ true) ⊎ ((i : ℕ) × (i < length ls) × ((lane_at ls i).phase ≡ Idle → ⊥))
        → (t && all_idle ls ≡ true) ⊎ ((i : ℕ) × (i < length (l ∷ ls)) × ((lane_at (l ∷ ls) i).phase ≡ Idle → ⊥))
    go false e r = inr (0, omega arith, λ q. false≢true (sym e ∙ ap is_idle q))
    go true e (inl r) = inl r
    go true e (inr r) = inr (suc r.0, omega (arith, r.1), r.2)

-- and where every lane is, each is
pub all_are : (ls : List Lane) (i : ℕ) → all_idle ls ≡ true → (lane_at ls i).phase ≡ Idle
unfolding all_idle
all_are [] i e = refl
all_are (l ∷ ls) zero e = (idle-test l.phase).0 ((and-eq-true_iff (is_idle l.phase) (all_idle ls)).0 e).0
all_are (l ∷ ls) (suc i) e = all_are ls i ((and-eq-true_iff (is_idle l.phase) (all_idle ls)).0 e).1

-- the day is closed where no payment is open, and refused with 19 where one is
pub close-exactly : (d : Desk) → Valid d → (a : Answer) → (close_answer d ≡ a) ↔ Closes d a
unfolding close_answer refused_answer view
close-exactly d v a = (λ e. subst (Closes d) e found, given)
  where
    closes : all_idle d.lanes ≡ true → close_answer d ≡ record { reply = Ok 0; desk = fresh_desk }
    closes t = rw t

    held : (i : ℕ) → ((lane_at d.lanes i).phase ≡ Idle → ⊥) → close_answer d ≡ refusing d (unplaced 19)
    held i o = pick-test (λ (x : Answer). x ≡ refusing d (unplaced 19)) (all_idle d.lanes) (λ t. absurd (o (all_are d.lanes i t))) (λ _. refl)

    found : Closes d (close_answer d)
    found =
        ⊎_elim (λ t. rw (closes t) (closed (λ i _. all_are d.lanes i t)))
        (λ k. rw (held k.0 k.2) (open_payment {i = k.0} (omega (arith, k.1, v.lanes)) k.2)) (idle-or-not d.lanes)

    given : {x : Answer} → Closes d x → close_answer d ≡ x
    given (open_payment {i = i} l o) = held i o
    given (closed h) = ⊎_elim closes (λ k. absurd (k.2 (h k.0 (omega (arith, k.1, v.lanes))))) (idle-or-not d.lanes)

-- ---- questions

-- a lane is refused with 12 where there is none, and else it is that lane
pub lane-exactly : (d : Desk) (i : ℕ) (a : Result Lane Refusal) → (lane_answer i d.lanes ≡ a) ↔ ShowsLane d i a
unfolding lane_answer view
lane-exactly d i a = (λ e. subst (ShowsLane d i) e found, given)
  where
    found : ShowsLane d i (lane_answer i d.lanes)
    found = pick-test (ShowsLane d i) (ltb i lane_count) (λ t. lane (ltb-true i 8 t)) (λ f. no_lane (ltb-false i 8 f))

    given : {x : Result Lane Refusal} → ShowsLane d i x → lane_answer i d.lanes ≡ x
    given (no_lane h) = rw (le-ltb i 8 h)
    given (lane h) = rw (lt-ltb i 8 h)

-- a line is the one with that number, and End where there is none
pub line-exactly : (d : Desk) (k : ℕ) (a : Option Line) → (line_answer k (lines_of_desk d) ≡ a) ↔ ShowsLine d k a
unfolding line_answer view
line-exactly d k a = (λ e. subst (ShowsLine d k) e found, given)
  where
    found : ShowsLine d k (line_answer k (lines_of_desk d))
    found =
        pick-test (ShowsLine d k) (ltb k (length (lines_of_desk d)))
        (λ t. let h = ltb-true k (length (lines_of_desk d)) t in
        line (take k (lines_of_desk d)) _ (split_at (lines_of_desk d) k blank_line h) (length-take-le k (lines_of_desk d) (omega arith)))
        (λ f. no_line (ltb-false k (length (lines_of_desk d)) f))

    given : {x : Option Line} → ShowsLine d k x → line_answer k (lines_of_desk d) ≡ x
    given (no_line h) = rw (le-ltb k (length (lines_of_desk d)) h)
    given (line before after {l} e n) =
        let h : k < length (lines_of_desk d) = omega (arith, ap length e, length-append before (l ∷ after)) in
        rw (lt-ltb k (length (lines_of_desk d)) h) (ap Some (ap (λ (ls : List Line). get_or ls k blank_line) e ∙ get_or_at before l after blank_line k n))
