-- The payments of a run of accepted calls are its one grouping. Assumes nothing.
use mathlib.Core.Path.{◌≡◌, refl, ap, ap₂, sym, subst, ◌∙◌}
use mathlib.Core.Bool.{Bool, true, false}
use mathlib.Core.Logic.{◌↔◌}
use mathlib.Core.List.{List, [], ◌∷◌, ◌++◌, append-nil, append_assoc}
use Prim.Native.Nat.{ℕ, ◌<◌}
use lib.Dec.{eqb}
use lib.ListN.{length, get_or, set, replicate, length-set}
use lib.Seq.{append_snoc, ext_get_or}
use borrow.Author.Tests.{eqb-true, eqb-false, eq-eqb, ne_eqb}
use Rattle.basics.specs.Choice.{pick}
use Rattle.basics.proofs.Tests.{pick-test, pick_same, no-for, true-false}
use Rattle.desk_rules.specs.Numbers.{lane_count}
use Rattle.desk_rules.specs.Course.{Call, opening, message, lost, lane_of}
use Rattle.desk_rules.specs.Desk.{State, fresh, step, Accepted}
use Rattle.desk_rules.specs.Runs.{having, calls_of}
use Rattle.desk_rules.specs.Payments.{Payments, ends, with_call, payments_from, payments_of, flattened}
use Rattle.desk_rules.specs.believed.Due.{Ending}
use Rattle.desk_rules.specs.believed.Grouping.{OfLane, of_opening, of_message, of_lost, Those, none, taken, left, Going, Closed, more, Grouping}
use Rattle.desk_rules.proofs.Lanes.{having-append, accept-parts}
use Rattle.desk_rules.proofs.Due.{ending-exactly}
use Rattle.desk_rules.proofs.Payment.{its-more}
use Rattle.desk_rules.proofs.Kept.{get_d_set, all_same, kept}

-- ---- lists

-- those with a number are those of which P holds
module _ {A : Type 0} (P : A → Type 0) (f : A → ℕ) (k : ℕ) (same : (x : A) → (eqb (f x) k ≡ true) ↔ P x) where
  those-are : {xs ys : List A} → Those P xs ys → having f k xs ≡ ys
  unfolding having
  those-are none = refl
  those-are (taken {x = x} p t) = rw ((same x).1 p) (ap (λ ys. x ∷ ys) (those-are t))
  those-are (left {x = x} n t) = rw (no-for (same x) n) (those-are t)

  those-there : (xs : List A) → Those P xs (having f k xs)
  unfolding having
  those-there [] = none
  those-there (x ∷ xs) =
      pick-test (Those P (x ∷ xs)) (eqb (f x) k) (λ e. taken ((same x).0 e) (those-there xs)) (λ e. left (λ p. true-false ((same x).1 p) e) (those-there xs))

own_lane : (c : Call) → OfLane (lane_of c) c
unfolding lane_of
own_lane (opening i o) = of_opening
own_lane (message i s) = of_message
own_lane (lost i) = of_lost

lane-is : {k : ℕ} {c : Call} → OfLane k c → lane_of c ≡ k
unfolding lane_of
lane-is of_opening = refl
lane-is of_message = refl
lane-is of_lost = refl

lane-exactly : (k : ℕ) (c : Call) → (eqb (lane_of c) k ≡ true) ↔ OfLane k c
lane-exactly k c = (λ e. subst (λ (j : ℕ). OfLane j c) (eqb-true _ _ e) (own_lane c), λ h. eq-eqb (lane_of c) k (lane-is h))

-- the calls that end a payment
end_no : Call → ℕ
end_no c = pick (ends c) 1 0

endings : List Call → List Call
endings cs = having end_no 1 cs

end-exactly : (c : Call) → (eqb (end_no c) 1 ≡ true) ↔ Ending c
unfolding end_no
end-exactly c = go (ends c) (ending-exactly c)
  where
    go : (b : Bool) → (b ≡ true) ↔ Ending c → (eqb (pick b 1 0) 1 ≡ true) ↔ Ending c
    go true h = h
    go false h = h

-- ---- payments that go on, and one more call

going_more : (k : ℕ) (q : List Call) (c : Call) → Going k q → OfLane k c → (Ending c → ⊥) → Going k (q ++ (c ∷ []))
unfolding Going
going_more k [] c g o n = (o, n, tt)
going_more k (x ∷ q) c g o n = (g.0, g.1, going_more k q c g.2 o n)

going-its : (k : ℕ) (q : List Call) → Going k q → (j : ℕ) → calls_of j q ≡ pick (eqb k j) q []
unfolding Going having
going-its k [] g j = sym (pick_same (eqb k j) refl)
going-its k (x ∷ q) g j = rw (lane-is g.0, going-its k q g.2 j) (go (eqb k j))
  where
    go : (b : Bool) → pick b (x ∷ pick b q []) (pick b q []) ≡ pick b (x ∷ q) []
    go true = refl
    go false = refl

-- calls up to the first that ends a payment
first-end : (j k : ℕ) (xs ys : List Call) (c : Call) (us vs : List Call) → Going j xs → Going k ys → Ending c → xs ++ (c ∷ us) ≡ ys ++ (c ∷ vs)
    → (xs ≡ ys) × (us ≡ vs)
unfolding Going
first-end j k [] [] c us vs g h n e = let r : us ≡ vs = cc e in (refl, r)
first-end j k [] (y ∷ ys) c us vs g h n e = let r : c ≡ y = cc e in absurd (h.1 (subst Ending r n))
first-end j k (x ∷ xs) [] c us vs g h n e = let r : c ≡ x = cc e in absurd (g.1 (subst Ending r n))
first-end j k (x ∷ xs) (y ∷ ys) c us vs g h n e =
    let r : x ≡ y = cc e in
    let t : xs ++ (c ∷ us) ≡ ys ++ (c ∷ vs) = cc e in
    let z = first-end j k xs ys c us vs g.2 h.2 n t in
    (ap₂ (λ (x : Call) (xs : List Call). x ∷ xs) r z.0, z.1)

-- each lane's open payment goes on, and there is a lane for each call
abbrev AllGo : List (List Call) → Type 0
AllGo os = (k : ℕ) → Going k (get_or os k [])

unfoldable Small : ℕ → List Call → Type 0
Small n [] = Unit {0}
Small n (c ∷ cs) = (lane_of c < n) × Small n cs

module _ (p : Payments) (c : Call) (small : lane_of c < length p.ongoing) (go_on : AllGo p.ongoing) where
  abbrev i : ℕ
  i = lane_of c

  abbrev q : List Call
  q = get_or p.ongoing i []

  -- what holds of lane i and of the others, with q in the place of its calls
  by-set : (x : List Call) (P : ℕ → Bool → List Call → Type 0) → P i true x → ((k : ℕ) → (i ≡ k → ⊥) → P k false (get_or p.ongoing k []))
      → (k : ℕ) → P k (eqb i k) (get_or (set p.ongoing i x) k [])
  by-set x P mine other k = rw (get_d_set p.ongoing i k x [] small) (go (eqb i k) refl)
    where
      go : (b : Bool) → eqb i k ≡ b → P k b (pick b x (get_or p.ongoing k []))
      go true e = subst (λ (j : ℕ). P j true x) (eqb-true i k e) mine
      go false e = other k (eqb-false i k e)

  -- the call ends its payment, or goes on with it
  abbrev closing : Payments
  closing = record { ended = p.ended ++ ((q ++ (c ∷ [])) ∷ []); ongoing = set p.ongoing i [] }

  abbrev going : Payments
  going = record { ended = p.ended; ongoing = set p.ongoing i (q ++ (c ∷ [])) }

  closing-go : AllGo closing.ongoing
  unfolding Going
  closing-go = by-set _ (λ k b x. Going k x) tt (λ k _. go_on k)

  going-go : (Ending c → ⊥) → AllGo going.ongoing
  going-go n = by-set _ (λ k b x. Going k x) (going_more i q c (go_on i) (own_lane c) n) (λ k _. go_on k)

  -- what holds of the payments and of the calls that end one, by whether this call does
  by_end : (cs : List Call) (P : Payments → List Call → Type 0) → (Ending c → P closing (c ∷ endings cs)) → ((Ending c → ⊥) → P going (endings cs))
      → P (with_call p c) (endings (c ∷ cs))
  unfolding with_call endings end_no having
  by_end cs P is not = go (ends c) refl
    where
      go : (b : Bool) → ends c ≡ b → P (pick b closing going) (pick (eqb (pick b 1 0) 1) (c ∷ endings cs) (endings cs))
      go true e = is ((ending-exactly c).0 e)
      go false e = not λ n. true-false ((ending-exactly c).1 n) e

-- ---- the grouping is there

closed-more : {ps : List (List Call)} {es : List Call} {k : ℕ} {c : Call} (q : List Call) → Closed ps es → Going k q → OfLane k c → Ending c
    → Closed (ps ++ ((q ++ (c ∷ [])) ∷ [])) (es ++ (c ∷ []))
closed-more q none g o n = more q g o n none
closed-more q (more r a b d t) g o n = more r a b d (closed-more q t g o n)

closed : (cs : List Call) (p : Payments) (es : List Call) → Small (length p.ongoing) cs → AllGo p.ongoing → Closed p.ended es
    → Closed (payments_from p cs).ended (es ++ endings cs)
unfolding payments_from endings having Small
closed [] p es small g h = rw append-nil h
closed (c ∷ cs) p es small g h =
    by_end p c small.0 g cs (λ x xs. Closed (payments_from x cs).ended (es ++ xs))
    (λ n. rw append_snoc at
    (closed cs (closing p c small.0 g) (es ++ (c ∷ [])) (simp length-set small.1) (closing-go p c small.0 g)
    (closed-more _ h (g (lane_of c)) (own_lane c) n)))
    (λ n. closed cs (going p c small.0 g) es (simp length-set small.1) (going-go p c small.0 g n) h)

-- ---- and is the only one

-- what is left to do: the calls of each lane, its open payment's first, are those of the payments to come
abbrev Left : List (List Call) → List Call → List (List Call) → List (List Call) → Type 0
Left os cs ps ends = (k : ℕ) → get_or os k [] ++ calls_of k cs ≡ calls_of k (flattened ps) ++ get_or ends k []

-- of payments that end, the first
record First (ps : List (List Call)) (c : Call) (es : List Call) : Type 0 where
  its : List Call
  later : List (List Call)
  all : ps ≡ (its ++ (c ∷ [])) ∷ later
  goes : Going (lane_of c) its
  closes : Closed later es

first : {ps : List (List Call)} {c : Call} {es : List Call} → Closed ps (c ∷ es) → First ps c es
first {c = c} (more {ps = ps} q g o n t) = record { its = q; later = ps; all = refl; goes = subst (λ (k : ℕ). Going k q) (sym (lane-is o)) g; closes = t }

module _ (p : Payments) (c : Call) (small : lane_of c < length p.ongoing) (go_on : AllGo p.ongoing) (cs : List Call) (os : List (List Call)) where
  left-going : (ps : List (List Call)) → Left p.ongoing (c ∷ cs) ps os → Left (going p c small go_on).ongoing cs ps os
  unfolding having
  left-going ps h =
      by-set p c small go_on _ (λ k b x. x ++ calls_of k cs ≡ calls_of k (flattened ps) ++ get_or os k [])
      (append_snoc (get_or p.ongoing (lane_of c) []) c (calls_of (lane_of c) cs) ∙ (rw (eq-eqb (lane_of c) (lane_of c) refl) at (h (lane_of c))))
      (λ k n. rw (ne_eqb (lane_of c) k n) at (h k))

  -- a call that ends a payment ends the first, whose calls were those of its lane
  left-closing : (ps : List (List Call)) (es : List Call) (f : First ps c es) → Ending c → Left p.ongoing (c ∷ cs) ps os
      → (get_or p.ongoing (lane_of c) [] ≡ f.its) × Left (closing p c small go_on).ongoing cs f.later os
  unfolding having flattened
  left-closing ps es f n h = (
    both.0,
    by-set p c small go_on _ (λ k b x. x ++ calls_of k cs ≡ calls_of k (flattened f.later) ++ get_or os k []) both.1
        (λ k m. rw (ne_eqb (lane_of c) k m) at (shaped k)),
  )
    where
      shaped : (k : ℕ) → get_or p.ongoing k [] ++ pick (eqb (lane_of c) k) (c ∷ calls_of k cs) (calls_of k cs)
          ≡ (pick (eqb (lane_of c) k) (f.its ++ (c ∷ [])) [] ++ calls_of k (flattened f.later)) ++ get_or os k []
      shaped k =
          rw (← its-more f.its c (going-its (lane_of c) f.its f.goes) k, ← having-append lane_of k (f.its ++ (c ∷ [])) (flattened f.later))
          (rw f.all at (h k))

      both : (get_or p.ongoing (lane_of c) [] ≡ f.its) × (calls_of (lane_of c) cs ≡ calls_of (lane_of c) (flattened f.later) ++ get_or os (lane_of c) [])
      both =
          first-end (lane_of c) (lane_of c) _ f.its c _ _ (go_on (lane_of c)) f.goes n
          ((rw (eq-eqb (lane_of c) (lane_of c) refl) at (shaped (lane_of c))) ∙ append_assoc (f.its ++ (c ∷ [])) _ _ ∙ append_snoc f.its c _)

only : (cs : List Call) (p : Payments) (ps os : List (List Call)) → Small (length p.ongoing) cs → AllGo p.ongoing
    → length p.ongoing ≡ length os → Closed ps (endings cs) → Left p.ongoing cs ps os
    → record { ended = p.ended ++ ps; ongoing = os } ≡ payments_from p cs
unfolding payments_from endings having Small flattened
only [] p ps os small g l none lanes =
    ap₂ (λ (xs ys : List (List Call)). record { ended = xs; ongoing = ys }) (append-nil p.ended)
    (ext_get_or [] os p.ongoing (sym l) (λ k _. sym (lanes k) ∙ append-nil (get_or p.ongoing k [])))
only (c ∷ cs) p ps os small g l h lanes =
    by_end p c small.0 g cs (λ x xs. Closed ps xs → record { ended = p.ended ++ ps; ongoing = os } ≡ payments_from x cs)
    (λ n h.
    let f = first h in
    let z = left-closing p c small.0 g cs os ps (endings cs) f n lanes in
    ap (λ (xs : List (List Call)). record { ended = p.ended ++ xs; ongoing = os })
    (f.all ∙ ap (λ (x : List Call). (x ++ (c ∷ [])) ∷ f.later) (sym z.0))
    ∙ ap (λ (xs : List (List Call)). record { ended = xs; ongoing = os }) (sym (append_snoc p.ended _ f.later))
    ∙ only cs (closing p c small.0 g) f.later os (simp length-set small.1) (closing-go p c small.0 g) (simp length-set l) f.closes
    z.1)
    (λ n h. only cs (going p c small.0 g) ps os (simp length-set small.1) (going-go p c small.0 g n) (simp length-set l) h
    (left-going p c small.0 g cs os ps lanes))
    h

-- ---- of accepted calls

all_small : (s : State) (cs : List Call) → Accepted s cs → Small lane_count cs
unfolding Accepted Small
all_small s [] h = tt
all_small s (c ∷ cs) h = ((accept-parts s c h.0).lane, all_small (step s c) cs h.1)

module _ (cs : List Call) (h : Accepted fresh cs) where
  no-payments : Payments
  no-payments = record { ended = []; ongoing = replicate lane_count [] }

  nothing-open : AllGo no-payments.ongoing
  unfolding no-payments Going
  nothing-open k = rw (all_same {A = List Call} lane_count k []) tt

  pub grouped : Grouping cs (payments_of cs)
  unfolding payments_of no-payments endings
  grouped =
      record {
        lanes = (kept cs h).slots;
        ended = (
          _,
          those-there Ending end_no 1 end-exactly cs,
          closed cs no-payments [] (all_small fresh cs h) nothing-open none,
        );
        calls = λ k. (
          _,
          those-there (OfLane k) lane_of k (lane-exactly k) (flattened (payments_of cs).ended),
          subst (Those (OfLane k) cs) ((kept cs h).calls k) (those-there (OfLane k) lane_of k (lane-exactly k) cs),
        );
      }

  pub grouped-once : (p : Payments) → Grouping cs p → p ≡ payments_of cs
  unfolding payments_of no-payments endings
  grouped-once p g =
      only cs no-payments p.ended p.ongoing (all_small fresh cs h) nothing-open (sym g.lanes)
      (subst (Closed p.ended) (sym (those-are Ending end_no 1 end-exactly g.ended.1)) g.ended.2)
      (λ k. rw (all_same {A = List Call} lane_count k [])
      (let (past, mine, all) = g.calls k in
      those-are (OfLane k) lane_of k (lane-exactly k) all
      ∙ ap (λ (xs : List Call). xs ++ get_or p.ongoing k []) (sym (those-are (OfLane k) lane_of k (lane-exactly k) mine))))
