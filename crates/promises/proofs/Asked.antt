-- What a desk, a tape and a lister are answered of a message, and what is answered to a question about a lane or a line. Assumes nothing.
use mathlib.Core.Path.{◌≡◌, refl, sym, ap}
use mathlib.Core.Logic.{◌↔◌}
use mathlib.Core.List.{List, [], ◌∷◌, ◌++◌}
use Prim.Native.Nat.{ℕ, zero, suc, ◌<◌, ◌≤◌}
use native.Mathlib.Omega.{arith}
use lib.ListN.{length, get_or, length-append}
use lib.Seq.{get_or_at}
use lib.Dec.{ltb}
use borrow.Author.Tests.{lt-ltb, le-ltb, ltb-true, ltb-false}
use Rattle.std.proofs.Common.{Err, None, Ok, Option, Result, Some}
use Rattle.zvt_rules.specs.declared.Refusal.{Refusal}
use Rattle.zvt_rules.specs.declared.Header.{Header}
use Rattle.zvt_rules.specs.declared.Heard.{Heard}
use Rattle.zvt_rules.specs.declared.Span.{Span}
use Rattle.basics.specs.Choice.{pick}
use Rattle.zvt_rules.specs.Reading.{unplaced}
use Rattle.zvt_rules.specs.Fields.{Field, field_id}
use Rattle.zvt_rules.specs.Message.{read_of}
use Rattle.zvt_rules.specs.Answers.{header_answer}
use Rattle.zvt_rules.specs.Listed.{first_ids}
use Rattle.zvt_rules.specs.Heard.{told_answer, hear_answer}
use Rattle.basics.specs.believed.Lists.{Bytes}
use Rattle.zvt_rules.specs.believed.Found.{Stands}
use Rattle.basics.proofs.Tests.{by-test, never}
use Rattle.zvt_rules.proofs.Found.{first-id-exactly}
use Rattle.zvt_rules.proofs.HeardLaws.{heard_by, header-heard}
use Rattle.desk_rules.specs.declared.Lane.{Lane}
use Rattle.desk_rules.specs.declared.Line.{Line}
use Rattle.desk_rules.specs.declared.Desk.{Desk}
use Rattle.desk_rules.specs.Numbers.{lane_count}
use Rattle.desk_rules.specs.Lanes.{blank_line, idle_lane}
use Rattle.desk_rules.specs.Memory.{Valid, lines_of_desk, line_answer, lane_answer}
use Rattle.promises.specs.Answers.{At}
use Rattle.promises.proofs.Answers.{err-same, ok-same, err-not-ok}

-- ---- what a desk asks of a message
module _ (s : List ℕ) where
  pub heard-no : (n : Refusal) → (hear_answer s ≡ Err n) ↔ (header_answer s ≡ Err n)
  unfolding heard_by
  heard-no n = rw (header-heard s) (go (header_answer s))
    where
      go : (x : Result Header Refusal) → (heard_by (told_answer (read_of s)) x ≡ Err n) ↔ (x ≡ Err n)
      go (Ok h) = (λ e. absurd (err-not-ok (sym e)), λ e. absurd (err-not-ok (sym e)))
      go (Err r) = (λ e. ap Err (err-same e), λ e. ap Err (err-same e))

  -- the header as it is answered alone, and behind it what is told of the body
  pub heard-yes : (h : Heard) → hear_answer s ≡ Ok h → (t : Header) × (header_answer s ≡ Ok t)
      × (record { class = t.class; instruction = t.instruction; start = t.start; length = t.length; told = told_answer (read_of s) } ≡ h)
  unfolding heard_by
  heard-yes h e = go (header_answer s) refl (rw (header-heard s) at e)
    where
      Its : Header → Type 0
      Its t = record { class = t.class; instruction = t.instruction; start = t.start; length = t.length; told = told_answer (read_of s) } ≡ h

      go : (x : Result Header Refusal) → header_answer s ≡ x → heard_by (told_answer (read_of s)) x ≡ Ok h
          → (t : Header) × (header_answer s ≡ Ok t) × Its t
      go (Ok t) q k = (t, q, ok-same k)
      go (Err r) q k = absurd (err-not-ok k)

-- ---- of two answers that a test chooses from
module _ {A : Type 0} (x y : A) (i k : ℕ) (b : A) where
  below : (y ≡ b → ⊥) → (pick (ltb i k) x y ≡ b) ↔ ((i < k) × (x ≡ b))
  below n = (
    λ h. by-test (ltb i k) (λ e. (ltb-true i k e, rw e at h)) (λ e. absurd (n (rw e at h))),
    λ h. rw (lt-ltb i k h.0) h.1,
  )

  beyond : (x ≡ b → ⊥) → (pick (ltb i k) x y ≡ b) ↔ ((k ≤ i) × (y ≡ b))
  beyond n = (
    λ h. by-test (ltb i k) (λ e. absurd (n (rw e at h))) (λ e. (ltb-false i k e, rw e at h)),
    λ h. rw (le-ltb i k h.0) h.1,
  )

-- ---- an element by its place
at-get : {A : Type 0} (xs : List A) (k : ℕ) (x d : A) → ((k < length xs) × (get_or xs k d ≡ x)) ↔ At xs k x
at-get {A} xs k x d = (to xs k, λ h. rw h.2 (omega (arith, length-append h.0 (x ∷ h.1), h.3), get_or_at h.0 x h.1 d k h.3))
  where
    to : (ys : List A) (j : ℕ) → (j < length ys) × (get_or ys j d ≡ x) → At ys j x
    to [] j h = absurd (omega (arith, h.0))
    to (y ∷ ys) zero h = ([], ys, ap (λ (z : A). z ∷ ys) h.1, refl)
    to (y ∷ ys) (suc j) h =
        let g = to ys j (omega (arith, h.0), h.1) in
        (y ∷ g.0, g.1, ap (λ (zs : List A). y ∷ zs) g.2, omega (arith, g.3))

-- ---- the ids of the first message's list: number k is that of field number k
pub id-found : (s : List ℕ) → Bytes s → (k id : ℕ)
    → At (first_ids s) k id ↔ ((front : List ℕ) × (rest : List ℕ) × (s ≡ front ++ rest) × (f : Field) × (p : Span) × Stands front k f p × (field_id f ≡ id))
id-found s b k id =
    let at = at-get (first_ids s) k id 0 in
    let stands = first-id-exactly s b k id in
    (λ h. stands.0 (at.1 h), λ h. at.0 (stands.1 h))

-- ---- a lane and a line
none-some : {A : Type 0} {a : A} → ◌≡◌ {A = Option A} (Some a) None → ⊥
none-some e = never cc

module _ (d : Desk) (i : ℕ) where
  pub lane-no : (n : Refusal) → (lane_answer i d.lanes ≡ Err n) ↔ ((lane_count ≤ i) × (unplaced 12 ≡ n))
  unfolding lane_answer
  lane-no n =
      let k = beyond _ _ i lane_count (Err n) (λ e. err-not-ok (sym e)) in
      (λ h. ((k.0 h).0, err-same (k.0 h).1), λ h. k.1 (h.0, ap Err h.1))

  pub lane-yes : Valid d → (l : Lane) → (lane_answer i d.lanes ≡ Ok l) ↔ At d.lanes i l
  unfolding lane_answer
  lane-yes v l =
      let k = below _ _ i lane_count (Ok l) err-not-ok in
      let at = at-get d.lanes i l idle_lane in (
        λ h. at.0 (omega (arith, (k.0 h).0, v.lanes), ok-same (k.0 h).1),
        λ h. k.1 (omega (arith, (at.1 h).0, v.lanes), ap Ok (at.1 h).1),
      )

module _ (d : Desk) (k : ℕ) where
  pub line-none : (line_answer k (lines_of_desk d) ≡ None) ↔ (length (lines_of_desk d) ≤ k)
  unfolding line_answer
  line-none =
      let g = beyond _ _ k (length (lines_of_desk d)) None none-some in
      (λ h. (g.0 h).0, λ h. g.1 (h, refl))

  pub line-some : (l : Line) → (line_answer k (lines_of_desk d) ≡ Some l) ↔ At (lines_of_desk d) k l
  unfolding line_answer
  line-some l =
      let g = below _ _ k (length (lines_of_desk d)) (Some l) (λ e. none-some (sym e)) in
      let at = at-get (lines_of_desk d) k l blank_line in
      (λ h. at.0 ((g.0 h).0, let same = (g.0 h).1 in cc), λ h. g.1 ((at.1 h).0, ap Some (at.1 h).1))
