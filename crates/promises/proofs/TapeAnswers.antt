-- What an answer of the tape's functions says of the reading or the decision behind it. Assumes nothing.
use mathlib.Core.Path.{◌≡◌, refl, sym, ap, ◌∙◌}
use mathlib.Core.Logic.{◌↔◌, ◌⊎◌, inl, inr}
use mathlib.Core.List.{List, []}
use Prim.Native.Nat.{ℕ, ◌+◌, ◌-◌, ◌<◌, ◌≤◌}
use native.Mathlib.Omega.{arith}
use lib.ListN.{length, take, drop}
use lib.Dec.{ltb}
use Rattle.std.proofs.Common.{Err, None, Ok, Result}
use Rattle.zvt_rules.specs.declared.Refusal.{Refusal}
use Rattle.zvt_rules.specs.Reading.{Reading, got, refused, unplaced, written_leaves}
use Rattle.basics.proofs.Tests.{pick-test}
use Rattle.desk_rules.specs.declared.Answer.{Answer}
use Rattle.desk_rules.specs.declared.Phase.TheVariants.{Idle}
use Rattle.desk_rules.specs.declared.Lane.{Lane}
use Rattle.desk_rules.specs.declared.Line.{Line}
use Rattle.desk_rules.specs.declared.Desk.{Desk}
use Rattle.desk_rules.specs.Course.{Call, lost, NumbersFit, writes}
use Rattle.desk_rules.specs.Desk.{State, Decision, refuse, accept, decide}
use Rattle.desk_rules.specs.Memory.{view, Valid, refused_answer, answer_of, leaves_of, close_answer}
use Rattle.desk_rules.specs.believed.Table.{Given, Row, idle, phase_at}
use Rattle.desk_rules.specs.believed.Answers.{Makes, broken}
use Rattle.desk_rules.proofs.Rows.{table}
use Rattle.desk_rules.proofs.Answers.{leaves}
use Rattle.desk_rules.proofs.Memory.{refused-same, accepted-answer, accepted-leaves, follows}
use Rattle.tape_rules.specs.declared.Taped.{Taped}
use Rattle.tape_rules.specs.declared.TapedAnswer.{TapedAnswer}
use Rattle.tape_rules.specs.declared.ClosedAnswer.{ClosedAnswer}
use Rattle.tape_rules.specs.declared.Held.{Held}
use Rattle.tape_rules.specs.Block.{most_number}
use Rattle.tape_rules.specs.Tape.{blocks_for}
use Rattle.tape_rules.specs.Good.{good_of, held_answer}
use Rattle.tape_rules.specs.Tails.{Tidy, changed_pieces, changed_blocks, decide_keep}
use Rattle.tape_rules.specs.Recording.{fresh_taped, ValidTaped, block_answer, written_answer, records_of, then_keep, decide_taped, taped_answer, taped_out, taped_room, held_bytes, close_taped}
use Rattle.tape_rules.specs.believed.Tapes.{GoodBlocks}
use Rattle.tape_rules.proofs.GoodLaws.{good-exactly}
use Rattle.tape_rules.proofs.Taping.{taped-taken, taped-refused, taped-accepted, ten-blocks, tape-enough, closed, close-kept}
use Rattle.promises.specs.Answers.{Open}
use Rattle.promises.specs.TapeDays.{ClosedRow, still_open, all_ended}
use Rattle.promises.proofs.Answers.{err-same, err-not-ok, refuse-same, said, said-no, said-yes, left-same, left-first, left-beyond, closing-no, closing-yes}

-- ---- what is written into a buffer
written-said : (x : Reading (List ℕ)) → written_answer x ≡ said length x
unfolding written_answer said
written-said (got w) = refl
written-said (refused f) = refl

pub written-says : (x : Reading (List ℕ)) (r : Refusal) → (written_answer x ≡ Err r) ↔ (x ≡ refused r)
written-says x = said-no length x (written-said x)

pub written-size : (x : Reading (List ℕ)) (k : ℕ) → (written_answer x ≡ Ok k) ↔ ((w : List ℕ) × (x ≡ got w) × (length w ≡ k))
written-size x = said-yes length x (written-said x)

pub written_from : (x : Reading (List ℕ)) (out w : List ℕ) → x ≡ got w
    → (written_answer x ≡ Ok (length w)) × (take (length w) (written_leaves x out) ≡ w)
written_from x out w e = ((written-size x (length w)).1 (w, e, refl), left-first x out w (length w) e refl)

pub written-got : (x : Reading (List ℕ)) (out w : List ℕ)
    → (x ≡ got w) ↔ ((written_answer x ≡ Ok (length w)) × (take (length w) (written_leaves x out) ≡ w))
written-got x out w = (
  written_from x out w,
  λ h. let g = (written-size x (length w)).0 h.0 in g.1 ∙ ap got (sym (left-first x out g.0 (length w) g.1 g.2) ∙ h.1),
)

pub written_same : (x : Reading (List ℕ)) (out : List ℕ) (n : Refusal) → written_answer x ≡ Err n → written_leaves x out ≡ out
written_same x out n e = left-same x out n ((written-says x n).0 e)

module _ (x : Reading (List ℕ)) (out : List ℕ) (k : ℕ) (e : written_answer x ≡ Ok k) where
  pub written-beyond : drop k (written_leaves x out) ≡ drop k out
  written-beyond = let h = (written-size x k).0 e in left-beyond x out h.0 k h.1 h.2

-- ---- what is read of a block
block-said : (x : Reading (List ℕ)) → block_answer x ≡ said length x
unfolding block_answer said
block-said (got p) = refl
block-said (refused f) = refl

pub block-says : (x : Reading (List ℕ)) (r : Refusal) → (block_answer x ≡ Err r) ↔ (x ≡ refused r)
block-says x = said-no length x (block-said x)

pub block-holds : (x : Reading (List ℕ)) (k : ℕ) → (block_answer x ≡ Ok k) ↔ ((p : List ℕ) × (x ≡ got p) × (length p ≡ k))
block-holds x = said-yes length x (block-said x)

-- ---- a call of a desk with its tape
bare : {number : ℕ} {r : Refusal} → refuse (unplaced number) ≡ refuse r → r.place ≡ None
bare e = ap (λ (x : Refusal). x.place) (sym (refuse-same e))

module _ (t : Taped) (c : Call) (out room : List ℕ) where
  abbrev answer : TapedAnswer
  answer = taped_answer t c (length out) (length room)

  abbrev decision : Decision
  decision = decide_taped t c (length out) (length room)

  abbrev desk_says : Answer
  desk_says = answer_of t.desk c (length out)

  decision-no : (n : Refusal) → answer.reply ≡ Err n → decision ≡ refuse n
  decision-no n = to decision refl
    where
      to : (x : Decision) → decision ≡ x → answer.reply ≡ Err n → decision ≡ refuse n
      to (refuse m) e h = e ∙ ap refuse (err-same (rw (taped-refused t c out room m e).0 at h))
      to accept e h = absurd (err-not-ok (sym (rw (taped-accepted t c out room e).0 at h)))

  decision-yes : (k : ℕ) → answer.reply ≡ Ok k → decision ≡ accept
  decision-yes k = to decision refl
    where
      to : (x : Decision) → decision ≡ x → answer.reply ≡ Ok k → decision ≡ accept
      to (refuse m) e h = absurd (err-not-ok (sym (ap (λ (a : TapedAnswer). a.reply) (taped-refused t c out room m e).0) ∙ h))
      to accept e h = e

  -- a refusal is the desk's, or one for the tape's sake
  pub taped-own : (n : Refusal) → answer.reply ≡ Err n → (desk_says.reply ≡ Err n) ⊎ (n.place ≡ None)
  unfolding decide_taped then_keep decide_keep refused_answer
  taped-own n h = go (decide (view t.desk) c (length out)) refl (decision-no n h)
    where
      Bare : Decision → Type 0
      Bare x = x ≡ refuse n → n.place ≡ None

      go : (x : Decision) → decide (view t.desk) c (length out) ≡ x → then_keep x t.tail (records_of t c) (length room) ≡ refuse n
          → (desk_says.reply ≡ Err n) ⊎ (n.place ≡ None)
      go (refuse m) e q = inl (rw (refused-same t.desk c (length out) m e) (ap Err (refuse-same q)))
      go accept e q =
          inr
          (pick-test Bare (ltb (most_number - t.tail.full) (length (changed_pieces t.tail (records_of t c)))) (λ _. bare)
          (λ _. pick-test Bare (ltb (length room) (length (changed_blocks t.tail (records_of t c)))) (λ _. bare)
          (λ _ z. absurd (let y : ◌≡◌ {A = ℕ} 0 1 = cc in omega arith))) q)

  pub taped-same : (n : Refusal) → answer.reply ≡ Err n
      → (answer.taped ≡ t) × (taped_out t c (length room) out ≡ out) × (taped_room t c (length out) room ≡ room)
  taped-same n h =
      let k = taped-refused t c out room n (decision-no n h) in
      (ap (λ (a : TapedAnswer). a.taped) k.0, k.1, k.2)

  -- what the desk without a tape answers and leaves
  abbrev AsDesk : Type 0
  AsDesk = (answer.reply ≡ desk_says.reply) × (answer.taped.desk ≡ desk_says.desk) × (taped_out t c (length room) out ≡ leaves_of t.desk c out)

  accepted-as-desk : decision ≡ accept → AsDesk
  accepted-as-desk e =
      let a = taped-accepted t c out room e in
      let own = (taped-taken t c (length out) (length room) e).0 in (
        ap (λ (x : TapedAnswer). x.reply) a.0 ∙ sym (ap (λ (x : Answer). x.reply) (accepted-answer t.desk c (length out) own)),
        ap (λ (x : TapedAnswer). x.taped.desk) a.0,
        a.1 ∙ sym (accepted-leaves t.desk c out own),
      )

  pub taped-as-desk : (k : ℕ) → answer.reply ≡ Ok k → AsDesk
  taped-as-desk k h = accepted-as-desk (decision-yes k h)

  module _ (v : ValidTaped t) (n : NumbersFit c) where
    tidy : Tidy t.tail
    tidy = v.1

    pub blocks-most : answer.blocks ≤ 10
    blocks-most = go decision refl
      where
        go : (x : Decision) → decision ≡ x → answer.blocks ≤ 10
        go (refuse m) e = rw (taped-refused t c out room m e).0 (omega arith)
        go accept e = ten-blocks t c tidy n (length out) (length room) e

    pub room-enough : t.tail.full + 10 ≤ 4_294_967_295 → 5_120 ≤ length room → answer.reply ≡ desk_says.reply
    unfolding refused_answer
    room-enough few much = go (decide (view t.desk) c (length out)) refl
      where
        same : decision ≡ decide (view t.desk) c (length out)
        same = tape-enough t c tidy n (length out) (length room) few much

        go : (x : Decision) → decide (view t.desk) c (length out) ≡ x → answer.reply ≡ desk_says.reply
        go (refuse m) e = rw ((taped-refused t c out room m (same ∙ e)).0, refused-same t.desk c (length out) m e)
        go accept e = (accepted-as-desk (same ∙ e)).0

-- a lost link on an open lane is taken by the desk, and so with 5,120 bytes lent; its lane is idle then
broken-idle : {s : State} {i at : ℕ} {l : Lane} {new : List Line} → Makes s (lost i) at l new → (at ≡ i) × (l ≡ idle)
broken-idle (broken e) = (refl, refl)

lost-idle : (d : Desk) (i : ℕ) → Valid d → decide (view d) (lost i) 0 ≡ accept → phase_at (view (answer_of d (lost i) 0).desk) i ≡ Idle
unfolding view NumbersFit
lost-idle d i v e =
    let k = leaves (view d) (lost i) 0 v.lanes tt e in
    let m = broken-idle k.makes in
    ap (λ (s : State). phase_at s i) (follows d (lost i) 0 v e) ∙ ap (λ (l : Lane). l.phase) (rw m.0 at m.1)

pub lost-taken : (t : Taped) → ValidTaped t → (i : ℕ) (room : List ℕ) → i < 8 → (phase_at (view t.desk) i ≡ Idle → ⊥)
    → t.tail.full + 10 ≤ 4_294_967_295 → 5_120 ≤ length room → let a = taped_answer t (lost i) 0 (length room) in
    (a.reply ≡ Ok 0) × (phase_at (view a.taped.desk) i ≡ Idle)
unfolding Given NumbersFit writes
lost-taken t v i room l busy few much =
    let row : Row (view t.desk) (lost i) 0 accept = inr (λ n g. omega (arith, g.0), inr (λ n g. busy g.0, refl)) in
    let e = (table (view t.desk) (lost i) 0 accept).1 row in
    let says = (room-enough t (lost i) [] room v tt few much ∙ ap (λ (a : Answer). a.reply) (accepted-answer t.desk (lost i) 0 e)) in
    (says, rw (taped-as-desk t (lost i) [] room 0 says).1 (lost-idle t.desk i v.0 e))

-- ---- closing
module _ (t : Taped) (v : ValidTaped t) where
  valid : Valid t.desk
  valid = v.0

  kept : Open t.desk → close_taped t ≡ record { reply = Err (unplaced 19); blocks = 0; bytes = 0; taped = t }
  kept o = close-kept t _ ((closing-no t.desk valid (unplaced 19)).1 (o, refl))

  ended : (Open t.desk → ⊥)
      → close_taped t ≡ record { reply = Ok 0; blocks = blocks_for (held_bytes t.tail); bytes = held_bytes t.tail; taped = fresh_taped }
  ended n = closed t 0 ((closing-yes t.desk valid).1 n).0

  row-closed : {a : ClosedAnswer} → ClosedRow t a → close_taped t ≡ a
  row-closed (still_open o) = kept o
  row-closed (all_ended {blocks} {bytes} n held least most) =
      let pieces : blocks_for (held_bytes t.tail) ≡ blocks = omega arith in
      ended n ∙ rw (pieces, ← held)

  closed-row : ClosedRow t (close_taped t)
  closed-row = go (close_answer t.desk).reply refl
    where
      go : (r : Result ℕ Refusal) → (close_answer t.desk).reply ≡ r → ClosedRow t (close_taped t)
      go (Ok k) e =
          let n : Open t.desk → ⊥ = λ o. err-not-ok (sym ((closing-no t.desk valid (unplaced 19)).1 (o, refl)) ∙ e) in
          rw (ended n) (all_ended {blocks = blocks_for (held_bytes t.tail)} n refl (omega arith) (omega arith))
      go (Err r) e = let o = ((closing-no t.desk valid r).0 e).0 in rw (kept o) (still_open o)

  pub close-exactly : (a : ClosedAnswer) → (close_taped t ≡ a) ↔ ClosedRow t a
  close-exactly a = (λ e. rw e at closed-row, row-closed)

-- ---- the good blocks of a tape
pub held-drawn : (s : List ℕ) (h : Held) → (held_answer (good_of s) ≡ h) ↔ ((p : List ℕ) × GoodBlocks s p h.ending × (length p ≡ h.bytes))
held-drawn s h = (
  λ e. rw (← e) ((good_of s).payload, (good-exactly s _ _).0 refl, refl),
  λ (p, g, size). ap held_answer ((good-exactly s p h.ending).1 g) ∙ rw size,
)
