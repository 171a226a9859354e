-- The two writings of a payment agree: what is due for its calls is what the course computes, and there is one line and one lane.
-- Assumes nothing.
use mathlib.Core.Path.{◌≡◌, refl, ap, ap₂, sym, subst, ◌∙◌}
use mathlib.Core.Logic.{◌↔◌, ◌⊎◌, inl, inr, ⊎_elim}
use mathlib.Core.Bool.{true, false≢true}
use mathlib.Core.List.{List, [], ◌∷◌, ◌++◌, map, append_assoc}
use Prim.Native.Nat.{ℕ}
use native.Mathlib.Omega.{arith}
use lib.Dec.{eqb}
use lib.ListN.{get_or}
use borrow.Author.Tests.{eqb-true, eq-eqb, ne_eqb}
use Rattle.std.proofs.Common.{None, Ok, Result, Some}
use Rattle.zvt_rules.specs.Reading.{Reading, got, refused}
use Rattle.zvt_rules.specs.Fields.{Field}
use Rattle.zvt_rules.specs.Message.{Body, bytes, listed, Message, read_of}
use Rattle.zvt_rules.specs.Values.{is_status, Found, missing, found, value_in, code_of, amount_of, receipt_of, code_in, amount_in, receipt_in, status_in, body_fields, status_fields, status_of}
use Rattle.zvt_rules.specs.Digits.{number_of}
use Rattle.zvt_rules.specs.declared.Status.{Status}
use Rattle.zvt_rules.specs.Heard.{first_byte}
use Rattle.basics.proofs.Tests.{pick-test, case, eqb-test, either, never}
use Rattle.desk_rules.specs.declared.Kind.{Kind}
use Rattle.desk_rules.specs.declared.Kind.TheVariants.{Sale, Refund, Reversal}
use Rattle.desk_rules.specs.declared.Outcome.{Outcome}
use Rattle.desk_rules.specs.declared.Outcome.TheVariants.{Unclear, Declined, Approved}
use Rattle.desk_rules.specs.declared.Phase.{Phase}
use Rattle.desk_rules.specs.declared.Phase.TheVariants.{Waiting, Running}
use Rattle.desk_rules.specs.declared.Lane.{Lane}
use Rattle.desk_rules.specs.declared.Line.{Line}
use Rattle.desk_rules.specs.declared.Moved.{Moved}
use Rattle.desk_rules.specs.declared.Moved.TheVariants.{Ends}
use Rattle.desk_rules.specs.declared.Opening.{Opening}
use Rattle.desk_rules.specs.declared.Opening.TheVariants.{Sale as sale, Refund as refund, Reversal as reversal}
use Rattle.zvt_rules.specs.declared.Refusal.{Refusal}
use Rattle.desk_rules.specs.Lanes.{blank_status, blank_line, waiting_lane, told_receipt, receipt_by, line_at}
use Rattle.desk_rules.specs.Openings.{refers_to, last_line, sold, stands, opened_lane}
use Rattle.desk_rules.specs.Course.{pair_is, settled_as, completed_by, aborted_by, Call, opening, message, lost, lane_of}
use Rattle.desk_rules.specs.Runs.{of_lane}
use Rattle.desk_rules.specs.Payments.{ends_by, ends}
use Rattle.desk_rules.specs.believed.LastSale.{NoneOf, Named}
use Rattle.desk_rules.specs.believed.Due.{Reads, Report, Remembered, nothing, report, Told, told, untold, CodeIs, AmountIs, Asks, by_sale, by_refund, by_reversal, Ended, not_taken, aborted, link_lost, approved, amount_untold, differs, other_code, no_status, Ending, by_84, by_061E, by_060F, by_loss, ReceiptIs, of_reversal, of_another, Open, LineDue, PhaseIs, waiting, running, StatusIs, LaneIs, idle, busy}
use Rattle.desk_rules.proofs.NamedSale.{named-is, named-there}
use Rattle.desk_rules.proofs.Judge.{or_else, remembered, recalled, verdict_of, verdict}
use Rattle.desk_rules.proofs.Calls.{both}
use Rattle.desk_rules.proofs.Lanes.{last-local}

-- ---- what a field tells

told-as : {A : Type 0} {fs : List Field} {id : ℕ} {says : List ℕ → A} {other x : A} (f : Found → A)
    → f missing ≡ other → ((v : List ℕ) → f (found v) ≡ says v) → Told fs id says other x → f (value_in id fs) ≡ x
told-as f m s (told {value = value} e) = ap f e ∙ s value
told-as f m s (untold e) = ap f e ∙ m

tell : {A : Type 0} (fs : List Field) (id : ℕ) (says : List ℕ → A) (other : A) → (x : A) × Told fs id says other x
tell fs id says other = go (value_in id fs) refl
  where
    go : (v : Found) → value_in id fs ≡ v → (x : _) × Told fs id says other x
    go missing e = (other, untold e)
    go (found v) e = (says v, told e)

pub code_is : (fs : List Field) (c : ℕ) → CodeIs fs c → (status_in fs).code ≡ Some c
unfolding status_in code_in code_of
code_is fs c k = rw (k.1, k.2)

pub amount-is : (fs : List Field) (n : ℕ) → AmountIs fs n → (status_in fs).amount ≡ Some n
unfolding status_in amount_in amount_of
amount-is fs n k = rw (k.1, k.2)

amount-none : (fs : List Field) → value_in 0x04 fs ≡ missing → (status_in fs).amount ≡ None
unfolding status_in amount_in amount_of
amount-none fs m = rw m

receipt-is : {fs : List Field} {named n : ℕ} {kind : Kind} → ReceiptIs fs named kind n → receipt_by kind named (status_in fs).receipt ≡ n
unfolding status_in receipt_in receipt_of receipt_by
receipt-is of_reversal = refl
receipt-is {kind = Sale} (of_another k t) = told-as (λ v. told_receipt (receipt_of v)) refl (λ v. refl) t
receipt-is {kind = Refund} (of_another k t) = told-as (λ v. told_receipt (receipt_of v)) refl (λ v. refl) t
receipt-is {kind = Reversal} (of_another k t) = absurd (k refl)

-- some receipt is told, and it is that one
pub receipt-there : (fs : List Field) (named : ℕ) (k : Kind) → ReceiptIs fs named k (receipt_by k named (status_in fs).receipt)
receipt-there fs named k = let r = some k in subst (ReceiptIs fs named k) (sym (receipt-is r.1)) r.1
  where
    some : (k : Kind) → (r : ℕ) × ReceiptIs fs named k r
    some Sale = let t = tell fs 0x87 number_of 0 in (t.0, of_another {kind = Sale} (λ e. never (cc e)) t.1)
    some Refund = let t = tell fs 0x87 number_of 0 in (t.0, of_another {kind = Refund} (λ e. never (cc e)) t.1)
    some Reversal = (named, of_reversal)

pub status-is : {fs : List Field} {st : Status} → StatusIs fs st → status_in fs ≡ st
unfolding status_in code_in code_of amount_in amount_of receipt_in receipt_of
status-is {fs} s = rw (told-as code_of refl (λ v. refl) s.code, told-as amount_of refl (λ v. refl) s.amount, told-as receipt_of refl (λ v. refl) s.receipt)

-- some status is told by any fields
pub status-there : (fs : List Field) → StatusIs fs (status_in fs)
status-there fs =
    let c = tell fs 0x27 (λ v. Some (get_or v 0 0)) None in
    let a = tell fs 0x04 (λ v. Some (number_of v)) None in
    let r = tell fs 0x87 (λ v. Some (number_of v)) None in
    let s : StatusIs fs (record { code = c.0; amount = a.0; receipt = r.0 }) = record { code = c.1; amount = a.1; receipt = r.1 } in
    subst (StatusIs fs) (sym (status-is s)) s

-- ---- what is remembered

-- a message that was read, with its pair
pub reads : (s : List ℕ) (m : Message) (class instruction : ℕ) → read_of s ≡ got m → m.class ≡ class → m.instruction ≡ instruction
    → Reads s class instruction m.body
reads s m class instruction e p q =
    record { long = m.long; whole = e ∙ ap₂ (λ (x y : ℕ). got (record { class = x; instruction = y; long = m.long; body = m.body })) p q }

-- the calls that end a payment
ended_by : (s : List ℕ) (i : ℕ) (r : Reading Message) → read_of s ≡ r → ends_by r ≡ true → Ending (message i s)
unfolding ends_by
ended_by s i (refused f) e t = absurd (false≢true t)
ended_by s i (got m) e t =
    let pair = both m.class m.instruction in
    ⊎_elim (λ h. by_84 (reads s m 0x84 _ e (eqb-true _ _ h) refl))
    (λ u. ⊎_elim (λ h. by_061E (reads s m 0x06 0x1E e (pair 0x06 0x1E h).0 (pair 0x06 0x1E h).1))
    (λ h. by_060F (reads s m 0x06 0x0F e (pair 0x06 0x0F h).0 (pair 0x06 0x0F h).1))
    (either (pair_is m.class m.instruction 0x06 0x1E) _ u))
    (either (eqb m.class 0x84) _ t)

ending-ends : {c : Call} → Ending c → ends c ≡ true
unfolding ends ends_by
ending-ends (by_84 h) = rw h.whole
ending-ends (by_061E h) = rw h.whole
ending-ends (by_060F h) = rw h.whole
ending-ends by_loss = refl

pub ending-exactly : (c : Call) → (ends c ≡ true) ↔ Ending c
unfolding ends
ending-exactly (opening i o) = (λ e. absurd (false≢true e), ending-ends)
ending-exactly (message i s) = (ended_by s i (read_of s) refl, ending-ends)
ending-exactly (lost i) = (λ e. by_loss, ending-ends)

-- a report tells what its fields say, and that is remembered
pub report-status : (s : List ℕ) (r : Report s) → status_of s ≡ status_in (body_fields r.body)
unfolding status_of status_fields
report-status s r = rw r.read.whole

heeded : (st : Status) (s : List ℕ) (r : Report s) → remembered st s ≡ status_in (body_fields r.body)
unfolding remembered status_in code_in code_of or_else
heeded st s r = rw (report-status s r, r.coded)

-- a message is a report, or changes nothing that is remembered; and not both
heard : (s : List ℕ) → Report s ⊎ ((st : Status) → remembered st s ≡ st)
unfolding remembered status_of status_fields status_in code_in code_of or_else value_in
heard s = go (read_of s) refl
  where
    Kept : List Field → Type 0
    Kept fs = (st : Status) → or_else (status_in fs).code (status_in fs) st ≡ st

    field : (m : Message) → read_of s ≡ got m → is_status m ≡ true → (v : Found) → value_in 0x27 (body_fields m.body) ≡ v
        → Report s ⊎ Kept (body_fields m.body)
    field m e t missing f = inr λ st. rw f
    field m e t (found v) f =
        let p = both m.class m.instruction 0x04 0x0F t in
        inl (record { body = m.body; read = reads s m 0x04 0x0F e p.0 p.1; code = v; coded = f })

    go : (r : Reading Message) → read_of s ≡ r → Report s ⊎ Kept (status_fields r)
    go (refused f) e = inr λ st. refl
    go (got m) e =
        pick-test (λ fs. Report s ⊎ Kept fs) (is_status m) (λ t. field m e t (value_in 0x27 (body_fields m.body)) refl) (λ _. inr λ st. refl)

silent : (s : List ℕ) → ((st : Status) → remembered st s ≡ st) → Report s → ⊥
silent s same r =
    let e : Some (get_or r.code 0 0) ≡ blank_status.code =
    sym (code_is (body_fields r.body) _ (r.code, r.coded, refl)) ∙ ap (λ (t : Status). t.code) (sym (heeded blank_status s r) ∙ same blank_status) in
    never cc

passed-over : (s : List ℕ) → (Report s → ⊥) → (st : Status) → remembered st s ≡ st
passed-over s n = ⊎_elim (λ r. absurd (n r)) (λ f. f) (heard s)

none-recalled : (st : Status) (ss : List (List ℕ)) → NoneOf Report ss → recalled st ss ≡ st
unfolding recalled NoneOf
none-recalled st [] n = refl
none-recalled st (s ∷ ss) n = ap (λ (x : Status). recalled x ss) (passed-over s n.0 st) ∙ none-recalled st ss n.1

last-recalled : (st : Status) (before after : List (List ℕ)) (s : List ℕ) (r : Report s) → NoneOf Report after
    → recalled st (before ++ (s ∷ after)) ≡ status_in (body_fields r.body)
unfolding recalled
last-recalled st [] after s r n = ap (λ (x : Status). recalled x after) (heeded st s r) ∙ none-recalled _ after n
last-recalled st (b ∷ before) after s r n = last-recalled (remembered st b) before after s r n

pub recalled-is : {ss : List (List ℕ)} {fs : List Field} → Remembered ss fs → recalled blank_status ss ≡ status_in fs
unfolding status_in code_in code_of amount_in amount_of receipt_in receipt_of value_in
recalled-is {ss} (nothing n) = none-recalled blank_status ss n
recalled-is (report {s = s} l) = ap (recalled blank_status) l.all ∙ last-recalled blank_status l.before l.after s l.holds l.later

-- one message more
pub none_more : {A : Type 0} (P : A → Type 0) (xs : List A) (x : A) → NoneOf P xs → (P x → ⊥) → NoneOf P (xs ++ (x ∷ []))
unfolding NoneOf
none_more P [] x n h = (h, tt)
none_more P (y ∷ xs) x n h = (n.0, none_more P xs x n.1 h)

pub remember : (ss : List (List ℕ)) (fs : List Field) (s : List ℕ) → Remembered ss fs
    → (gs : List Field) × Remembered (ss ++ (s ∷ [])) gs × (remembered (status_in fs) s ≡ status_in gs)
unfolding NoneOf
remember ss fs s m =
    ⊎_elim (λ r. (_, report (record { before = ss; after = []; all = refl; holds = r; later = tt }), heeded (status_in fs) s r))
    (λ same. (fs, go fs (silent s same) m, same (status_in fs))) (heard s)
  where
    go : (fs : List Field) → (Report s → ⊥) → Remembered ss fs → Remembered (ss ++ (s ∷ [])) fs
    go fs h (nothing n) = nothing (none_more Report ss s n h)
    go fs h (report l) =
        report (record {
          before = l.before;
          after = l.after ++ (s ∷ []);
          all = ap (λ (x : List (List ℕ)). x ++ (s ∷ [])) l.all ∙ append_assoc l.before _ _;
          holds = l.holds;
          later = none_more Report l.after s l.later h;
        })

-- ---- what was asked

pub asks-are : {i : ℕ} {before : List Line} {o : Opening} {k : Kind} {a n : ℕ} → Asks i before o k a n
    → opened_lane o (last_line i (refers_to o) before) ≡ waiting_lane k a n
asks-are by_sale = refl
asks-are by_refund = refl
asks-are {i} {before} (by_reversal {receipt = receipt} {sold = sold} h) =
    ap (λ (l : Line). waiting_lane Reversal l.settled receipt) (named-is i receipt before sold h).0

pub ask : (i : ℕ) (before : List Line) (o : Opening) → let line = last_line i (refers_to o) before in
    stands (refers_to o) line ≡ true → Asks i before o (opened_lane o line).kind (opened_lane o line).asked (opened_lane o line).named
ask i before (sale amount) e = by_sale
ask i before (refund password amount) e = by_refund
ask i before (reversal password receipt) e = by_reversal (named-there i receipt before e)

-- what is asked by a lane's own lines is asked by the whole book
ask-local : {i : ℕ} {o : Opening} {k : Kind} {a n : ℕ} (before : List Line) → Asks i (of_lane i before) o k a n → Asks i before o k a n
unfolding last_line
ask-local before by_sale = by_sale
ask-local before by_refund = by_refund
ask-local {i} before (by_reversal {receipt = receipt} {sold = line} h) =
    let k = named-is i receipt (of_lane i before) line h in
    let e : last_line i (Some receipt) before ≡ line = last-local i (Some receipt) blank_line before ∙ k.0 in
    by_reversal (subst (Named i receipt before) e (named-there i receipt before (ap sold e ∙ k.1)))

-- ---- how it ended

settles : (k : Kind) (a amount : ℕ) → (k ≡ Reversal → amount ≡ a) → settled_as k a (Some amount) ≡ Ok (Ends Approved amount 0)
unfolding settled_as
settles Sale a amount r = refl
settles Refund a amount r = refl
settles Reversal a amount r = rw (eq-eqb amount a (r refl))

-- a lane with that status, and the call that ends its payment
module _ (i : ℕ) (l : Lane) (fs : List Field) (same : l.status ≡ status_in fs) where
  completed : {s : List ℕ} {body : Body} → Reads s 0x06 0x0F body → verdict l (message i s) ≡ completed_by l (status_in fs).code
  unfolding verdict verdict_of
  completed h = rw (h.whole, same)

  remembers : l.status.amount ≡ (status_in fs).amount
  remembers = ap (λ (x : Status). x.amount) same

  verdict-is : {c : Call} {o : Outcome} {s code : ℕ} → Ended i l.kind l.asked fs c o s code → verdict l c ≡ Ok (Ends o s code)
  unfolding verdict verdict_of first_byte aborted_by completed_by settled_as status_in code_in code_of
  verdict-is (not_taken h) = rw h.whole
  verdict-is (aborted h) = rw h.whole
  verdict-is link_lost = refl
  verdict-is (approved {amount = amount} h z t r) =
      completed h ∙ rw (code_is fs 0 z, remembers, amount-is fs amount t) (settles l.kind l.asked amount r)
  verdict-is (amount_untold h z m) = completed h ∙ rw (code_is fs 0 z, remembers, amount-none fs m)
  verdict-is (differs {amount = amount} h z t r d) =
      completed h ∙ rw (code_is fs 0 z, remembers, amount-is fs amount t, r, ne_eqb amount l.asked d)
  verdict-is (other_code {code = code} h z d) = completed h ∙ rw (code_is fs code z, ne_eqb code 0 d)
  verdict-is (no_status h m) = completed h ∙ rw (status_in, code_in, m)

  -- by the bytes alone there is some end
  SomeEnd : Call → Type 0
  SomeEnd c = (o : Outcome) × (s : ℕ) × (code : ℕ) × Ended i l.kind l.asked fs c o s code

  settling : {s : List ℕ} {body : Body} {amount : ℕ} → Reads s 0x06 0x0F body → CodeIs fs 0 → AmountIs fs amount
      → (k : Kind) → l.kind ≡ k → SomeEnd (message i s)
  unfolding SomeEnd
  settling h z t Reversal e =
      case (eqb-test _ l.asked) (λ f. (Approved, _, 0, approved h z t (λ _. f))) (λ f. (Unclear, 0, 0, differs h z t e f))
  settling h z t Sale e = (Approved, _, 0, approved h z t (λ f. absurd (let q : ◌≡◌ {A = ℕ} 0 1 = cc in omega arith)))
  settling h z t Refund e = (Approved, _, 0, approved h z t (λ f. absurd (let q : ◌≡◌ {A = ℕ} 0 1 = cc in omega arith)))

  coded : {s : List ℕ} {body : Body} → Reads s 0x06 0x0F body → CodeIs fs 0 → (v : Found) → value_in 0x04 fs ≡ v → SomeEnd (message i s)
  unfolding SomeEnd
  coded h z missing e = (Unclear, 0, 0, amount_untold h z e)
  coded h z (found v) e = settling h z (v, e, refl) l.kind refl

  completing : {s : List ℕ} {body : Body} → Reads s 0x06 0x0F body → SomeEnd (message i s)
  unfolding SomeEnd
  completing {s = s} h = go (value_in 0x27 fs) refl
    where
      go : (v : Found) → value_in 0x27 fs ≡ v → SomeEnd (message i s)
      go missing e = (Unclear, 0, 0, no_status h e)
      go (found v) e =
          case (eqb-test (get_or v 0 0) 0) (λ f. coded h (v, e, f) (value_in 0x04 fs) refl)
          (λ f. (Unclear, 0, get_or v 0 0, other_code h (v, e, refl) f))

  module _ (outcome : Outcome) (settled code : ℕ) where
    aborting : (s : List ℕ) (start : ℕ) (body : Body) → Reads s 0x06 0x1E body → aborted_by start (first_byte body) ≡ Ok (Ends outcome settled code)
        → SomeEnd (message i s)
    unfolding SomeEnd first_byte aborted_by
    aborting s start (bytes []) h e = absurd (let q : ◌≡◌ {A = ℕ} 0 1 = cc in omega arith)
    aborting s start (bytes (b ∷ rest)) h e = (Declined, 0, b, aborted h)
    aborting s start (listed password fields) h e = absurd (let q : ◌≡◌ {A = ℕ} 0 1 = cc in omega arith)

    some : (c : Call) → lane_of c ≡ i → verdict l c ≡ Ok (Ends outcome settled code) → SomeEnd c
    unfolding SomeEnd verdict verdict_of lane_of
    some (opening j o) at v = absurd (let q : ◌≡◌ {A = ℕ} 0 1 = cc in omega arith)
    some (lost j) at v = rw at (Unclear, 0, 0, link_lost)
    some (message j s) at v = rw at (go (read_of s) refl v)
      where
        P : Result Moved Refusal → Type 0
        P m = m ≡ Ok (Ends outcome settled code) → SomeEnd (message i s)

        go : (r : Reading Message) → read_of s ≡ r → P (verdict_of l r)
        go (refused f) e = λ v. absurd (let q : ◌≡◌ {A = ℕ} 0 1 = cc in omega arith)
        go (got m) e =
            let pair = both m.class m.instruction in
            pick-test P (eqb m.class 0x84) (λ t v. (Declined, 0, m.instruction, not_taken (reads s m 0x84 _ e (eqb-true _ _ t) refl)))
            (λ _. pick-test P (pair_is m.class m.instruction 0x06 0x1E)
            (λ t v. aborting s _ m.body (reads s m 0x06 0x1E e (pair 0x06 0x1E t).0 (pair 0x06 0x1E t).1) v)
            (λ _. pick-test P (pair_is m.class m.instruction 0x06 0x0F)
            (λ t v. completing (reads s m 0x06 0x0F e (pair 0x06 0x0F t).0 (pair 0x06 0x0F t).1))
            (λ _ v. absurd (let q : ◌≡◌ {A = ℕ} 0 1 = cc in omega arith))))

    -- and it is the one that is computed
    pub ended-there : (c : Call) → lane_of c ≡ i → verdict l c ≡ Ok (Ends outcome settled code) → Ended i l.kind l.asked fs c outcome settled code
    unfolding SomeEnd
    ended-there c at v =
        let x = some c at v in
        let e : Ok (Ends x.0 x.1 x.2) ≡ Ok (Ends outcome settled code) = sym (verdict-is x.3) ∙ v in
        let p : x.0 ≡ outcome = cc in
        let q : x.1 ≡ settled = cc in
        let r : x.2 ≡ code = cc in
        rw (p, q, r) at x.3

-- ---- a lane's own lines are enough

pub open-local : {i a n : ℕ} {calls : List Call} {k : Kind} {ss : List (List ℕ)} {fs : List Field} (before : List Line)
    → Open i (of_lane i before) calls k a n ss fs → Open i before calls k a n ss fs
open-local before x =
    record { first = x.first; in_order = x.in_order; still_open = x.still_open; asks = ask-local before x.asks; remembered = x.remembered }

pub lane-local : {i : ℕ} {calls : List Call} {l : Lane} (before : List Line) → LaneIs i (of_lane i before) calls l → LaneIs i before calls l
lane-local before idle = idle
lane-local before (busy x p s) = busy (open-local before x) p s

-- ---- one line, and one lane

last-same : {A : Type 0} (xs ys : List A) (x y : A) → xs ++ (x ∷ []) ≡ ys ++ (y ∷ []) → (xs ≡ ys) × (x ≡ y)
last-same [] [] x y e = let h : x ≡ y = cc e in (refl, h)
last-same [] (b ∷ []) x y e = absurd (let q : ◌≡◌ {A = ℕ} 0 1 = cc e in omega arith)
last-same [] (b ∷ (c ∷ ys)) x y e = absurd (let q : ◌≡◌ {A = ℕ} 0 1 = cc e in omega arith)
last-same (a ∷ []) [] x y e = absurd (let q : ◌≡◌ {A = ℕ} 0 1 = cc e in omega arith)
last-same (a ∷ (c ∷ xs)) [] x y e = absurd (let q : ◌≡◌ {A = ℕ} 0 1 = cc e in omega arith)
last-same (a ∷ xs) (b ∷ ys) x y e =
    let h : a ≡ b = cc e in
    let t : xs ++ (x ∷ []) ≡ ys ++ (y ∷ []) = cc e in
    let r = last-same xs ys x y t in
    (ap₂ (λ z zs. z ∷ zs) h r.0, r.1)

messages-same : (i j : ℕ) (ss ts : List (List ℕ)) → map (message i) ss ≡ map (message j) ts → ss ≡ ts
messages-same i j [] [] e = refl
messages-same i j [] (t ∷ ts) e = absurd (let q : ◌≡◌ {A = ℕ} 0 1 = cc e in omega arith)
messages-same i j (s ∷ ss) [] e = absurd (let q : ◌≡◌ {A = ℕ} 0 1 = cc e in omega arith)
messages-same i j (s ∷ ss) (t ∷ ts) e =
    let h : s ≡ t = cc e in
    let r : map (message i) ss ≡ map (message j) ts = cc e in
    ap₂ (λ z zs. z ∷ zs) h (messages-same i j ss ts r)

-- what the calls of an open payment say of it
abbrev busy_lane : Kind → ℕ → ℕ → List Field → Lane
busy_lane kind asked named fs = record { phase = Running; kind = kind; asked = asked; named = named; status = status_in fs }

open-same : {i j a b n m : ℕ} {before : List Line} {calls : List Call} {k q : Kind} {ss ts : List (List ℕ)} {fs gs : List Field}
    → Open i before calls k a n ss fs → Open j before calls q b m ts gs
    → (i ≡ j) × (ss ≡ ts) × (busy_lane k a n fs ≡ busy_lane q b m gs)
open-same {i} {j} {before = before} {ss = ss} {ts = ts} x y =
    let e = sym x.in_order ∙ y.in_order in
    let lane : i ≡ j = cc e in
    let first : x.first ≡ y.first = cc e in
    let rest : map (message i) ss ≡ map (message j) ts = cc e in
    let all = messages-same i j ss ts rest in (
      lane,
      all,
      ap₂ (λ (l : Lane) (st : Status). record { phase = Running; kind = l.kind; asked = l.asked; named = l.named; status = st })
          (sym (asks-are x.asks) ∙ ap₂ (λ (i : ℕ) (o : Opening). opened_lane o (last_line i (refers_to o) before)) lane first ∙ asks-are y.asks)
          (sym (recalled-is x.remembered) ∙ ap (recalled blank_status) all ∙ recalled-is y.remembered),
    )

module _ {before : List Line} {calls : List Call} where
  judge : {l : Line} → LineDue before calls l → Lane
  judge {l} d = busy_lane l.kind l.asked d.named d.status

  line-is : {l : Line} (d : LineDue before calls l) → line_at l.lane (judge d) l.outcome l.settled l.code ≡ l
  unfolding line_at judge
  line-is {l} d =
      ap (λ (r : ℕ). record { lane = l.lane; kind = l.kind; asked = l.asked; settled = l.settled; receipt = r; outcome = l.outcome; code = l.code })
      (receipt-is d.receipt)

  pub due-same : {l m : Line} → LineDue before calls l → LineDue before calls m → l ≡ m
  unfolding judge
  due-same {l} {m} d e =
      let c = last-same d.sofar e.sofar d.last e.last (sym d.in_order ∙ e.in_order) in
      let o = open-same d.its (subst (λ (q : List Call). Open m.lane before q m.kind m.asked e.named e.told e.status) (sym c.0) e.its) in
      let v : Ok (Ends l.outcome l.settled l.code) ≡ Ok (Ends m.outcome m.settled m.code) =
      sym (verdict-is l.lane (judge d) d.status refl d.ended) ∙ ap₂ verdict o.2 c.1
      ∙ verdict-is m.lane (judge e) e.status refl e.ended in
      let p : l.outcome ≡ m.outcome = cc v in
      let q : l.settled ≡ m.settled = cc v in
      let r : l.code ≡ m.code = cc v in
      let same : line_at l.lane (judge d) l.outcome l.settled l.code ≡ line_at m.lane (judge e) m.outcome m.settled m.code =
      rw (o.0, o.2, p, q, r) in
      sym (line-is d) ∙ same ∙ line-is e

phase_for : List (List ℕ) → Phase
phase_for [] = Waiting
phase_for (s ∷ ss) = Running

phase-is : {ss : List (List ℕ)} {p : Phase} → PhaseIs ss p → phase_for ss ≡ p
unfolding phase_for
phase-is waiting = refl
phase-is running = refl

pub lane-same : {i : ℕ} {before : List Line} {calls : List Call} {l m : Lane} → LaneIs i before calls l → LaneIs i before calls m → l ≡ m
lane-same idle idle = refl
lane-same idle (busy o p s) = absurd (let q : ◌≡◌ {A = ℕ} 0 1 = cc o.in_order in omega arith)
lane-same (busy o p s) idle = absurd (let q : ◌≡◌ {A = ℕ} 0 1 = cc o.in_order in omega arith)
lane-same {l = l} {m = m} (busy o p s) (busy x q t) =
    let e = open-same o x in
    let phase : l.phase ≡ m.phase = sym (phase-is p) ∙ ap phase_for e.1 ∙ phase-is q in
    let status : l.status ≡ m.status = sym (status-is s) ∙ ap (λ (l : Lane). l.status) e.2 ∙ status-is t in
    ap₂ (λ (p : Phase) (s : Status). record { phase = p; kind = l.kind; asked = l.asked; named = l.named; status = s }) phase status
    ∙ ap (λ (x : Lane). record { phase = m.phase; kind = x.kind; asked = x.asked; named = x.named; status = m.status }) e.2
