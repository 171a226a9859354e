-- What the answer of a function says of the reading or the decision behind it. Assumes nothing.
use mathlib.Core.Path.{◌≡◌, refl, sym, ap, ◌∙◌}
use mathlib.Core.Bool.{true}
use mathlib.Core.Logic.{◌↔◌, ◌⊎◌, inl, inr, ⊎_elim}
use mathlib.Core.List.{List}
use Prim.Native.Nat.{ℕ}
use native.Mathlib.Omega.{arith}
use lib.ListN.{length, take, drop}
use lib.Seq.{take_at, drop_at}
use Rattle.std.specs.Prelude.{Err, Result}
use Rattle.std.proofs.Common.{Ok}
use Rattle.zvt_rules.specs.declared.Refusal.{Refusal}
use Rattle.zvt_rules.specs.declared.Header.{Header}
use Rattle.zvt_rules.specs.declared.Outline.{Outline}
use Rattle.zvt_rules.specs.Reading.{Reading, got, refused, unplaced, written_leaves}
use Rattle.zvt_rules.specs.Message.{Heading, whole_header, Message, read_of}
use Rattle.zvt_rules.specs.Answers.{header_in, as_header_answer, header_answer, outline_of, as_read_answer, read_answer, shortened, as_shorten_answer, shorten_answer, shorten_leaves}
use Rattle.basics.proofs.Tests.{pick-test, never}
use Rattle.desk_rules.specs.declared.Desk.{Desk}
use Rattle.desk_rules.specs.declared.Answer.{Answer}
use Rattle.desk_rules.specs.Course.{Call, writes}
use Rattle.desk_rules.specs.Desk.{all_idle, Decision, refuse, accept, decide}
use Rattle.desk_rules.specs.Memory.{fresh_desk, view, lane_for, Valid, refused_answer, answer_of, leaves_of, close_answer}
use Rattle.desk_rules.proofs.Memory.{refused-same, accepted-answer, refused-leaves, accepted-leaves}
use Rattle.promises.specs.Answers.{Takes, Open}
use Rattle.desk_rules.proofs.Answers.{idle-or-not, all_are}

-- ---- an answer is one refusal, or says one value
pub err-same : {A : Type 0} {m n : Refusal} → ◌≡◌ {A = Result A Refusal} (Err m) (Err n) → m ≡ n
err-same e = cc

pub ok-same : {A : Type 0} {a b : A} → ◌≡◌ {A = Result A Refusal} (Ok a) (Ok b) → a ≡ b
ok-same e = cc

pub err-not-ok : {A : Type 0} {n : Refusal} {a : A} → ◌≡◌ {A = Result A Refusal} (Err n) (Ok a) → ⊥
err-not-ok e = never cc

pub refuse-same : {r q : Refusal} → ◌≡◌ {A = Decision} (refuse r) (refuse q) → r ≡ q
refuse-same e = cc

-- ---- a reading that is answered by a value of what is read, or by its refusal
unfoldable pub said : {A B : Type 0} → (A → B) → Reading A → Result B Refusal
said value (got a) = Ok (value a)
said value (refused r) = Err r

module _ {A B : Type 0} {y : Result B Refusal} (value : A → B) (x : Reading A) (e : y ≡ said value x) where
  pub said-no : (r : Refusal) → (y ≡ Err r) ↔ (x ≡ refused r)
  unfolding said
  said-no r = (λ h. to x refl (sym e ∙ h), λ h. e ∙ ap (said value) h)
    where
      to : (z : Reading A) → x ≡ z → said value z ≡ Err r → x ≡ refused r
      to (got a) q h = absurd (err-not-ok (sym h))
      to (refused f) q h = q ∙ ap refused (err-same h)

  pub said-yes : (b : B) → (y ≡ Ok b) ↔ ((a : A) × (x ≡ got a) × (value a ≡ b))
  unfolding said
  said-yes b = (λ h. to x refl (sym e ∙ h), λ h. e ∙ ap (said value) h.1 ∙ ap Ok h.2)
    where
      to : (z : Reading A) → x ≡ z → said value z ≡ Ok b → (a : A) × (x ≡ got a) × (value a ≡ b)
      to (got a) q h = (a, q, ok-same h)
      to (refused f) q h = absurd (err-not-ok h)

header-said : (x : Reading Heading) → as_header_answer x ≡ said header_in x
unfolding as_header_answer said
header-said (got h) = refl
header-said (refused f) = refl

read-said : (x : Reading Message) → as_read_answer x ≡ said outline_of x
unfolding as_read_answer said
read-said (got m) = refl
read-said (refused f) = refl

short-said : (x : Reading (List ℕ)) → as_shorten_answer x ≡ said length x
unfolding as_shorten_answer said
short-said (got w) = refl
short-said (refused f) = refl

pub short-says : (room : ℕ) (s : List ℕ) (r : Refusal) → (shorten_answer room s ≡ Err r) ↔ (shortened room s ≡ refused r)
unfolding shorten_answer
short-says room s = said-no length (shortened room s) (short-said (shortened room s))

pub header-gives : (s : List ℕ) (t : Header) → (header_answer s ≡ Ok t) ↔ ((h : Heading) × (whole_header s ≡ got h) × (header_in h ≡ t))
unfolding header_answer
header-gives s = said-yes header_in (whole_header s) (header-said (whole_header s))

pub read-gives : (s : List ℕ) (t : Outline) → (read_answer s ≡ Ok t) ↔ ((m : Message) × (read_of s ≡ got m) × (outline_of m ≡ t))
unfolding read_answer
read-gives s = said-yes outline_of (read_of s) (read-said (read_of s))

pub short-gives : (room : ℕ) (s : List ℕ) (k : ℕ)
    → (shorten_answer room s ≡ Ok k) ↔ ((w : List ℕ) × (shortened room s ≡ got w) × (length w ≡ k))
unfolding shorten_answer
short-gives room s = said-yes length (shortened room s) (short-said (shortened room s))

-- ---- what a buffer that was lent holds at the end

pub left-same : (x : Reading (List ℕ)) (out : List ℕ) (r : Refusal) → x ≡ refused r → written_leaves x out ≡ out
unfolding written_leaves
left-same x out r e = rw e

module _ (x : Reading (List ℕ)) (out w : List ℕ) (k : ℕ) (e : x ≡ got w) (size : length w ≡ k) where
  pub left-first : take k (written_leaves x out) ≡ w
  unfolding written_leaves
  left-first = rw e (take_at w (drop (length w) out) k size)

  pub left-beyond : drop k (written_leaves x out) ≡ drop k out
  unfolding written_leaves
  left-beyond = rw e (drop_at w (drop (length w) out) k size ∙ ap (λ (n : ℕ). drop n out) size)

pub short-leaves : (s out : List ℕ) (n : Refusal) → shorten_answer (length out) s ≡ Err n → shorten_leaves s out ≡ out
unfolding shorten_leaves
short-leaves s out n e = left-same (shortened (length out) s) out n ((short-says (length out) s n).0 e)

pub short-beyond : (s out : List ℕ) (k : ℕ) → shorten_answer (length out) s ≡ Ok k → drop k (shorten_leaves s out) ≡ drop k out
unfolding shorten_leaves
short-beyond s out k e = let g = (short-gives (length out) s k).0 e in left-beyond (shortened (length out) s) out g.0 k g.1 g.2

-- ---- a call of the desk

module _ (d : Desk) (c : Call) (room : ℕ) where
  pub decided-no : (n : Refusal) → ((answer_of d c room).reply ≡ Err n) ↔ (decide (view d) c room ≡ refuse n)
  unfolding refused_answer
  decided-no n = (to (decide (view d) c room) refl, λ e. rw (refused-same d c room n e))
    where
      to : (x : Decision) → decide (view d) c room ≡ x → (answer_of d c room).reply ≡ Err n → decide (view d) c room ≡ refuse n
      to (refuse k) e h = e ∙ ap refuse (err-same (rw (refused-same d c room k e) at h))
      to accept e h = absurd (err-not-ok (sym (rw (accepted-answer d c room e) at h)))

  pub decided-yes : Takes ((answer_of d c room).reply) ↔ (decide (view d) c room ≡ accept)
  unfolding refused_answer
  decided-yes = (to (decide (view d) c room) refl, λ e. (length (writes (lane_for d c) c), rw (accepted-answer d c room e)))
    where
      to : (x : Decision) → decide (view d) c room ≡ x → Takes ((answer_of d c room).reply) → decide (view d) c room ≡ accept
      to (refuse k) e h = absurd (err-not-ok (rw (refused-same d c room k e) at h.1))
      to accept e h = e

module _ (d : Desk) (c : Call) (out : List ℕ) where
  pub call_same : (n : Refusal) → (answer_of d c (length out)).reply ≡ Err n → ((answer_of d c (length out)).desk ≡ d) × (leaves_of d c out ≡ out)
  unfolding refused_answer
  call_same n h =
      let e = (decided-no d c (length out) n).0 h in
      (ap (λ (a : Answer). a.desk) (refused-same d c (length out) n e), refused-leaves d c out n e)

  module _ (k : ℕ) (h : (answer_of d c (length out)).reply ≡ Ok k) where
    taken : decide (view d) c (length out) ≡ accept
    taken = (decided-yes d c (length out)).0 (k, h)

    pub call-size : length (writes (lane_for d c) c) ≡ k
    call-size = ok-same (rw (accepted-answer d c (length out) taken) at h)

    pub call-wrote : take k (leaves_of d c out) ≡ writes (lane_for d c) c
    call-wrote = let w = writes (lane_for d c) c in ap (take k) (accepted-leaves d c out taken) ∙ take_at w (drop (length w) out) k call-size

    pub call-beyond : drop k (leaves_of d c out) ≡ drop k out
    call-beyond =
        let w = writes (lane_for d c) c in
        ap (drop k) (accepted-leaves d c out taken) ∙ drop_at w (drop (length w) out) k call-size ∙ ap (λ (n : ℕ). drop n out) call-size

-- ---- closing

module _ (d : Desk) (v : Valid d) where
  pub open-or-not : (all_idle d.lanes ≡ true) ⊎ Open d
  unfolding Open view
  open-or-not = ⊎_elim inl (λ k. inr (k.0, omega (arith, k.1, v.lanes), k.2)) (idle-or-not d.lanes)

  closed : all_idle d.lanes ≡ true → close_answer d ≡ record { reply = Ok 0; desk = fresh_desk }
  unfolding close_answer
  closed e = rw e

  held : Open d → close_answer d ≡ refused_answer d (unplaced 19)
  unfolding Open view close_answer
  held o = pick-test (λ (a : Answer). a ≡ refused_answer d (unplaced 19)) (all_idle d.lanes) (λ e. absurd (o.2 (all_are d.lanes o.0 e))) (λ _. refl)

  pub closing-no : (n : Refusal) → ((close_answer d).reply ≡ Err n) ↔ (Open d × (unplaced 19 ≡ n))
  unfolding refused_answer
  closing-no n = (
    λ h. ⊎_elim (λ e. absurd (err-not-ok (sym (rw (closed e) at h)))) (λ o. (o, err-same (rw (held o) at h))) open-or-not,
    λ k. rw (held k.0) (ap Err k.1),
  )

  pub closing-yes : (((close_answer d).reply ≡ Ok 0) × ((close_answer d).desk ≡ fresh_desk)) ↔ (Open d → ⊥)
  closing-yes = (
    λ e o. err-not-ok (sym ((closing-no (unplaced 19)).1 (o, refl)) ∙ e.0),
    λ n. ⊎_elim (λ e. rw (closed e) (refl, refl)) (λ o. absurd (n o)) open-or-not,
  )

  pub closing_same : (n : Refusal) → (close_answer d).reply ≡ Err n → (close_answer d).desk ≡ d
  unfolding refused_answer
  closing_same n h = ap (λ (a : Answer). a.desk) (held ((closing-no n).0 h).0)
