-- The calls of a day payment after payment, each with what it was lent, are a day with the same book, lanes and replies. Assumes nothing.
use mathlib.Core.Path.{◌≡◌, refl, sym, ap, ap₂, subst, ◌∙◌}
use mathlib.Core.Bool.{Bool, true, false}
use mathlib.Core.List.{List, [], ◌∷◌}
use Prim.Native.Nat.{ℕ, ◌≤◌}
use native.Mathlib.Omega.{arith}
use lib.ListN.{length}
use lib.Dec.{eqb}
use borrow.Author.Tests.{eq-eqb, eqb-true}
use Rattle.basics.specs.Choice.{pick}
use Rattle.basics.proofs.Tests.{pick-test, pick_under, never}
use Rattle.desk_rules.specs.declared.Desk.{Desk}
use Rattle.desk_rules.specs.Numbers.{lane_count}
use Rattle.desk_rules.specs.Course.{Call, lane_of, writes}
use Rattle.desk_rules.specs.Desk.{State, fresh, lane_at, step, Accepted, run}
use Rattle.desk_rules.specs.Memory.{fresh_desk, view, Valid}
use Rattle.desk_rules.specs.Runs.{having, calls_of, Own, own_of}
use Rattle.desk_rules.specs.Payments.{one_by_one}
use Rattle.desk_rules.proofs.Lanes.{after, by-lane, accept-parts, accepts-room, lanes_step}
use Rattle.desk_rules.proofs.Runs.{replies_to}
use Rattle.desk_rules.proofs.Memory.{taken, follows, fresh-valid, answer-valid, view-fresh}
use Rattle.desk_rules.proofs.Order.{order, same-calls}
use Rattle.promises.specs.Days.{DeskTurn, calls_in, OfBytes, answer_in, Taken, at_end, replies_at, turns_at, OtherDay}
use Rattle.promises.proofs.Answers.{decided-yes}
use Rattle.promises.proofs.Turns.{Day, a-day, replies-same}

-- ---- calls of the course are taken, where each is lent enough

-- as much as each call writes
unfoldable Lent : State → List DeskTurn → Type 0
Lent s [] = Unit {0}
Lent s (t ∷ ts) = (length (writes (lane_at s.lanes (lane_of t.call)) t.call) ≤ length t.out) × Lent (step s t.call) ts

-- so it is where all are taken
lent-all : (ts : List DeskTurn) (d : Desk) → Valid d → OfBytes (calls_in ts) → Taken d ts → Lent (view d) ts
unfolding Taken OfBytes calls_in Lent view
lent-all [] d v b t = tt
lent-all (x ∷ ts) d v b t =
    let c = x.call in
    let room = length x.out in
    let e = (decided-yes d c room).0 t.0 in (
      (taken d c room e).fits,
      subst (λ (s : State). Lent s ts) (follows d c room v e) (lent-all ts (answer_in d x).desk (answer-valid d c room v b.0) b.1 t.1),
    )

-- a call of the course is accepted in such room, and the desk takes all
can : (ts : List DeskTurn) (d : Desk) → Valid d → OfBytes (calls_in ts) → Accepted (view d) (calls_in ts) → Lent (view d) ts → Taken d ts
unfolding Taken OfBytes calls_in Accepted Lent
can [] d v b h l = tt
can (x ∷ ts) d v b h l =
    let c = x.call in
    let room = length x.out in
    let e = accepts-room (view d) c room h.0 l.0 in
    let same = sym (follows d c room v e) in (
      (decided-yes d c room).1 e,
      can ts (answer_in d x).desk (answer-valid d c room v b.0) b.1 (subst (λ (s : State). Accepted s (calls_in ts)) same h.1)
          (subst (λ (s : State). Lent s ts) same l.1),
    )

-- ---- lane by lane

-- the calls of a lane's turns are its calls
calls_at : (ts : List DeskTurn) (k : ℕ) → calls_in (turns_at k ts) ≡ calls_of k (calls_in ts)
unfolding calls_in having
calls_at [] k = refl
calls_at (t ∷ ts) k = pick_under calls_in (eqb (lane_of t.call) k) _ _ ∙ rw (calls_at ts k)

-- each turn of a lane alone is lent enough
unfoldable LentAlone : Own → List DeskTurn → Type 0
LentAlone o [] = Unit {0}
LentAlone o (t ∷ ts) = (length (writes o.lane t.call) ≤ length t.out) × LentAlone (after o t.call) ts

-- that is so of each lane exactly where it is so of the day
lent-alone : (ts : List DeskTurn) (s : State) (k : ℕ) → length s.lanes ≡ lane_count → Accepted s (calls_in ts) → Lent s ts
    → LentAlone (own_of k s) (turns_at k ts)
unfolding calls_in Accepted Lent LentAlone having
lent-alone [] s k e h l = tt
lent-alone (t ∷ ts) s k e h l =
    let c = t.call in
    by-lane s c (omega (arith, (accept-parts s c h.0).lane))
    (λ j b o. LentAlone o (turns_at j ts) → LentAlone (own_of j s) (pick b (t ∷ turns_at j ts) (turns_at j ts)))
    (λ a. (l.0, a)) (λ j n a. a) k (lent-alone ts (step s c) k (lanes_step s c ∙ e) h.1 l.1)

lent-from : (ts : List DeskTurn) (s : State) → length s.lanes ≡ lane_count → Accepted s (calls_in ts)
    → ((k : ℕ) → LentAlone (own_of k s) (turns_at k ts)) → Lent s ts
unfolding calls_in Accepted Lent LentAlone having
lent-from [] s e h al = tt
lent-from (t ∷ ts) s e h al =
    let c = t.call in
    let first : LentAlone (own_of (lane_of c) s) (t ∷ turns_at (lane_of c) ts) = rw (eq-eqb (lane_of c) (lane_of c) refl) at (al (lane_of c)) in (
      first.0,
      lent-from ts (step s c) (lanes_step s c ∙ e) h.1
          (λ k. by-lane s c (omega (arith, (accept-parts s c h.0).lane))
          (λ j b o. LentAlone (own_of j s) (pick b (t ∷ turns_at j ts) (turns_at j ts)) → LentAlone o (turns_at j ts)) (λ a. a.1) (λ j n a. a) k (al k)),
    )

-- the calls of a lane are of bytes, if all are; and all, if those of each lane are
bytes-at : (cs : List Call) (k : ℕ) → OfBytes cs → OfBytes (calls_of k cs)
unfolding OfBytes having
bytes-at [] k b = tt
bytes-at (c ∷ cs) k b = let more = bytes-at cs k b.1 in pick-test OfBytes (eqb (lane_of c) k) (λ e. (b.0, more)) (λ e. more)

bytes-from : (cs : List Call) → ((k : ℕ) → OfBytes (calls_of k cs)) → OfBytes cs
unfolding OfBytes having
bytes-from [] h = tt
bytes-from (c ∷ cs) h =
    let first : OfBytes (c ∷ calls_of (lane_of c) cs) = rw (eq-eqb (lane_of c) (lane_of c) refl) at (h (lane_of c)) in
    (first.0, bytes-from cs (λ k. fewer k (eqb (lane_of c) k) (h k)))
  where
    fewer : (k : ℕ) (t : Bool) → OfBytes (pick t (c ∷ calls_of k cs) (calls_of k cs)) → OfBytes (calls_of k cs)
    fewer k true b = b.1
    fewer k false b = b

-- so are calls that are the same lane by lane
pub same_bytes : (cs ds : List Call) → ((k : ℕ) → calls_of k ds ≡ calls_of k cs) → OfBytes cs → OfBytes ds
same_bytes cs ds same b = bytes-from ds (λ k. subst OfBytes (sym (same k)) (bytes-at cs k b))

-- ---- calls in an order that keeps that of each lane: each takes the next of its lane's turns

-- the next, and those behind it
abbrev next : Call → List DeskTurn → DeskTurn
next c [] = record { call = c; out = [] }
next c (t ∷ ts) = t

abbrev rest : List DeskTurn → List DeskTurn
rest [] = []
rest (t ∷ ts) = ts

-- what is left of each lane's turns when lane i took its next
abbrev left_by : ℕ → (ℕ → List DeskTurn) → ℕ → List DeskTurn
left_by i hand k = pick (eqb i k) (rest (hand k)) (hand k)

unfoldable dealt : (ℕ → List DeskTurn) → List Call → List DeskTurn
dealt hand [] = []
dealt hand (c ∷ cs) = next c (hand (lane_of c)) ∷ dealt (left_by (lane_of c) hand) cs

-- no calls, no turns; and the first call is that of the next turn
none : (ts : List DeskTurn) → calls_in ts ≡ [] → [] ≡ ts
unfolding calls_in
none [] e = refl
none (t ∷ ts) e = never cc

some : (c : Call) (ts : List DeskTurn) (cs : List Call) → calls_in ts ≡ c ∷ cs
    → ((next c ts).call ≡ c) × (next c ts ∷ rest ts ≡ ts) × (calls_in (rest ts) ≡ cs)
unfolding calls_in
some c [] cs e = never cc
some c (t ∷ ts) cs e = let q : t.call ≡ c = cc in let r : calls_in ts ≡ cs = cc in (q, refl, r)

-- where each lane's turns are those of its calls, all of them are dealt, to the calls in that order
all-dealt : (cs : List Call) (hand : ℕ → List DeskTurn) → ((k : ℕ) → calls_in (hand k) ≡ calls_of k cs)
    → (calls_in (dealt hand cs) ≡ cs) × ((k : ℕ) → turns_at k (dealt hand cs) ≡ hand k)
unfolding calls_in having dealt
all-dealt [] hand h = (refl, λ k. none (hand k) (h k))
all-dealt (c ∷ cs) hand h =
    let more = all-dealt cs (left_by i hand) (λ k. left k (eqb i k) (h k)) in
    (ap₂ (λ (d : Call) (ds : List Call). d ∷ ds) first.0 more.0, λ k. rw (first.0, more.1 k) (turns k (eqb i k) refl))
  where
    i : ℕ
    i = lane_of c

    first : ((next c (hand i)).call ≡ c) × (next c (hand i) ∷ rest (hand i) ≡ hand i) × (calls_in (rest (hand i)) ≡ calls_of i cs)
    first = some c (hand i) (calls_of i cs) (rw (eq-eqb i i refl) at (h i))

    left : (k : ℕ) (b : Bool) → calls_in (hand k) ≡ pick b (c ∷ calls_of k cs) (calls_of k cs) → calls_in (pick b (rest (hand k)) (hand k)) ≡ calls_of k cs
    left k true e = (some c (hand k) (calls_of k cs) e).2
    left k false e = e

    turns : (k : ℕ) (b : Bool) → eqb i k ≡ b
        → pick b (next c (hand i) ∷ pick b (rest (hand k)) (hand k)) (pick b (rest (hand k)) (hand k)) ≡ hand k
    turns k true e = subst (λ (j : ℕ). next c (hand i) ∷ rest (hand j) ≡ hand j) (eqb-true i k e) first.1
    turns k false e = refl

-- ---- the other run of a day
module _ (day : List DeskTurn) (b : OfBytes (calls_in day)) (t : Taken fresh_desk day) where
  abbrev its : Day day
  its = a-day day b t

  pub another : (other : List DeskTurn) × OtherDay day other
  another =
      let cs = one_by_one (calls_in day) in
      let d = all-dealt cs (λ k. turns_at k day) (λ k. calls_at day k ∙ sym (same-calls (calls_in day) its.accepted k)) in
      (dealt (λ k. turns_at k day) cs, record { calls = d.0; turns = d.1 })

  -- the run begins with the course's fresh state
  abbrev begin : State
  begin = view fresh_desk

  begins : (cs : List Call) → Accepted fresh cs → Accepted begin cs
  begins cs h = subst (λ (s : State). Accepted s cs) (sym view-fresh) h

  lanes : length begin.lanes ≡ lane_count
  unfolding fresh
  lanes = ap (λ (s : State). length s.lanes) view-fresh

  module _ (other : List DeskTurn) (o : OtherDay day other) where
    accepted : Accepted begin (calls_in other)
    accepted = begins (calls_in other) (rw o.calls (order (calls_in day) its.accepted).0)

    bytes : OfBytes (calls_in other)
    bytes = same_bytes (calls_in day) (calls_in other) (λ k. sym (calls_at other k) ∙ ap calls_in (o.turns k) ∙ calls_at day k) b

    enough : (k : ℕ) → LentAlone (own_of k begin) (turns_at k other)
    enough k = rw (o.turns k) (lent-alone day begin k lanes (begins (calls_in day) its.accepted) (lent-all day fresh_desk fresh-valid b t))

    all-taken : Taken fresh_desk other
    all-taken = can other fresh_desk fresh-valid bytes accepted (lent-from other begin lanes accepted enough)

    pub as-other : Taken fresh_desk other × (view (at_end other) ≡ view (at_end day)) × ((k : ℕ) → replies_at k other ≡ replies_at k day)
    as-other =
        let law = order (calls_in day) its.accepted in
        let g = a-day other bytes all-taken in (
          all-taken,
          g.leaves ∙ ap (run fresh) o.calls ∙ law.1 ∙ sym its.leaves,
          λ k. replies-same k other g ∙ ap (replies_to k fresh) o.calls ∙ law.2 k ∙ sym (replies-same k day its),
        )
