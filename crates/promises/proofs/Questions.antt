-- The auditor's three questions, each with the theorems that answer it. A day is any list of calls that the desk accepted, from a fresh
-- one on. Assumes nothing.
use mathlib.Core.Path.{◌≡◌, refl, ap, ◌∙◌}
use mathlib.Core.Logic.{◌↔◌}
use mathlib.Core.List.{List, [], ◌∷◌, ◌++◌}
use Prim.Native.Nat.{ℕ, ◌<◌}
use lib.ListN.{length, get_or, take}
use Rattle.desk_rules.specs.declared.Kind.{Kind}
use Rattle.desk_rules.specs.declared.Outcome.TheVariants.{Unclear, Approved}
use Rattle.desk_rules.specs.declared.Desk.{Desk}
use Rattle.desk_rules.specs.Lanes.{blank_line}
use Rattle.desk_rules.specs.Course.{Call, lane_of}
use Rattle.desk_rules.specs.Desk.{State, lane_at, Decision, refuse, accept, decide}
use Rattle.desk_rules.specs.Memory.{fresh_desk, lines_of_desk, view, Valid, refused_answer, answer_of}
use Rattle.desk_rules.specs.Runs.{of_lane, calls_of}
use Rattle.desk_rules.specs.Payments.{payments_of}
use Rattle.desk_rules.specs.believed.Due.{LineDue}
use Rattle.desk_rules.proofs.Lanes.{isolation}
use Rattle.desk_rules.proofs.Memory.{refused-same, follows}
use Rattle.promises.specs.Days.{DeskTurn, calls_in, OfBytes, Taken, lines_in, openings_in, firsts}
use Rattle.promises.specs.Counted.{Counted, WithoutAmount, Settled}
use Rattle.promises.proofs.Turns.{a-day}
use Rattle.promises.proofs.Counted.{counted, not-counted}
use Rattle.promises.proofs.Settled.{payment-bytes, settled-by}
use Rattle.promises.proofs.Openings.{one-by-one}
use Rattle.promises.proofs.DemandThree.{every-line}

module _ (day : List DeskTurn) (b : OfBytes (calls_in day)) (t : Taken fresh_desk day) where
  -- "Which bytes from a terminal made you count this sale?" Line j is what is due for the j-th payment that ended: calls of one lane from
  -- its opening to its end. It is an approved line of that kind with that settled amount exactly when a report of code 00, the last that
  -- this payment had, and a completion say so.
  pub which-bytes : (j : ℕ) → j < length (lines_in day) → let calls = get_or (payments_of (calls_in day)).ended j [] in
      let line = get_or (lines_in day) j blank_line in
      LineDue (take j (lines_in day)) calls line
      × ((kind : Kind) (amount : ℕ)
      → ((line.outcome ≡ Approved) × (line.kind ≡ kind) × (line.settled ≡ amount)) ↔ Counted (take j (lines_in day)) calls kind amount)
  which-bytes j small = let d = ((every-line day b t).1 j small _).0 refl in (d, counted d)

  -- "A completion after code 00 without field 04 is unclear, settled 0, for all three kinds."; the code of the line is the 00 reported.
  pub no-amount-no-sale : (j : ℕ) → j < length (lines_in day) → let line = get_or (lines_in day) j blank_line in
      WithoutAmount (take j (lines_in day)) (get_or (payments_of (calls_in day)).ended j [])
      → (line.outcome ≡ Unclear) × (line.settled ≡ 0) × (line.code ≡ 0)
  no-amount-no-sale j small = not-counted (which-bytes j small).0

  -- Every settled amount on the book is the number in field 04 of a report on that payment's own lane, and never taken from the amount
  -- asked: line j is approved, and the report that it is counted by is a message of its lane whose bytes spell that amount; or it is not
  -- approved and has settled 0.
  pub settled-reported : (j : ℕ) → j < length (lines_in day)
      → Settled (take j (lines_in day)) (get_or (payments_of (calls_in day)).ended j []) (get_or (lines_in day) j blank_line)
  settled-reported j small = settled-by (which-bytes j small).0 (λ s. payment-bytes (calls_in day) (a-day day b t).accepted b j)

  -- "Can a payment begin and leave no line at all?" The openings of a lane are, one by one and in order, the first calls of its payments: of
  -- those that ended and of the one that is still open. Those that ended are as many as the book's lines.
  pub no-payment-lost : let payments = payments_of (calls_in day) in
      (length payments.ended ≡ length (lines_in day))
      × ((k : ℕ) → calls_of k (openings_in (calls_in day)) ≡ calls_of k (firsts payments.ended) ++ firsts (get_or payments.ongoing k [] ∷ []))
  no-payment-lost = ((every-line day b t).0, one-by-one (calls_in day) (a-day day b t).accepted)

-- "If two terminals talk at once, can one customer's answer land on the other's line?" A call for one lane changes no other lane, and none
-- of the lines of another lane.
pub no-crossing : (d : Desk) → Valid d → (c : Call) (room k : ℕ) → (lane_of c ≡ k → ⊥) → let after = (answer_of d c room).desk in
    (lane_at after.lanes k ≡ lane_at d.lanes k) × (of_lane k (lines_of_desk after) ≡ of_lane k (lines_of_desk d))
unfolding view refused_answer
no-crossing d v c room k n = go (decide (view d) c room) refl
  where
    Same : Desk → Type 0
    Same after = (lane_at after.lanes k ≡ lane_at d.lanes k) × (of_lane k (lines_of_desk after) ≡ of_lane k (lines_of_desk d))

    go : (x : Decision) → decide (view d) c room ≡ x → Same (answer_of d c room).desk
    go (refuse m) e = rw (refused-same d c room m e) (refl, refl)
    go accept e =
        let f = follows d c room v e in
        let i = isolation (view d) c k n in
        (ap (λ (s : State). lane_at s.lanes k) f ∙ i.0, ap (λ (s : State). of_lane k s.lines) f ∙ i.1)
