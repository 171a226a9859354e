-- The openings of a day are the first calls of its payments, one by one. Assumes nothing.
use mathlib.Core.Path.{◌≡◌, refl, sym, ap, ap₂, ◌∙◌}
use mathlib.Core.Bool.{Bool, true, false}
use mathlib.Core.Logic.{⊎_elim}
use mathlib.Core.List.{List, [], ◌∷◌, ◌++◌}
use Prim.Native.Nat.{ℕ, suc, ◌<◌}
use native.Mathlib.Omega.{arith}
use lib.ListN.{length, get_or}
use lib.Dec.{eqb}
use Rattle.basics.specs.Choice.{pick}
use Rattle.basics.proofs.Tests.{pick_under}
use Rattle.desk_rules.specs.Course.{Call, lane_of, opens}
use Rattle.desk_rules.specs.Desk.{fresh, Accepted}
use Rattle.desk_rules.specs.Runs.{having, calls_of}
use Rattle.desk_rules.specs.Payments.{payments_of, flattened}
use Rattle.desk_rules.proofs.DayBook.{NoneOpens, Begins, ended-begin, ongoing-begin, payments-calls}
use Rattle.promises.specs.Days.{openings_in, firsts}

-- ---- of calls in a row, and of a lane's calls
openings-append : (xs ys : List Call) → openings_in (xs ++ ys) ≡ openings_in xs ++ openings_in ys
unfolding openings_in
openings-append [] ys = refl
openings-append (x ∷ xs) ys = rw (openings-append xs ys) (sym (pick_under (λ l. l ++ openings_in ys) (opens x) _ _))

openings-lane : (k : ℕ) (xs : List Call) → openings_in (calls_of k xs) ≡ calls_of k (openings_in xs)
unfolding openings_in having
openings-lane k [] = refl
openings-lane k (x ∷ xs) = go (eqb (lane_of x) k) (opens x) refl refl (openings-lane k xs)
  where
    go : (t o : Bool) → eqb (lane_of x) k ≡ t → opens x ≡ o → openings_in (calls_of k xs) ≡ calls_of k (openings_in xs)
        → openings_in (pick t (x ∷ calls_of k xs) (calls_of k xs)) ≡ calls_of k (pick o (x ∷ openings_in xs) (openings_in xs))
    go true true e f h = rw (e, f) (ap (λ (ys : List Call). x ∷ ys) h)
    go true false e f h = rw f h
    go false true e f h = rw e h
    go false false e f h = h

-- ---- of a payment only its first call is one
none_in : (xs : List Call) → NoneOpens xs → openings_in xs ≡ []
unfolding openings_in NoneOpens
none_in [] n = refl
none_in (x ∷ xs) n = rw n.0 (none_in xs n.1)

payment-first : (p : List Call) → Begins p → openings_in p ≡ firsts (p ∷ [])
unfolding Begins openings_in firsts
payment-first [] b = absurd b
payment-first (o ∷ ds) b = rw (b.1, none_in ds b.2)

-- payments that begin so
unfoldable All : List (List Call) → Type 0
All [] = Unit {0}
All (p ∷ ps) = Begins p × All ps

all-begin : (ps : List (List Call)) → ((j : ℕ) → j < length ps → Begins (get_or ps j [])) → All ps
unfolding All
all-begin [] h = tt
all-begin (p ∷ ps) h = (h 0 (omega arith), all-begin ps (λ j l. h (suc j) (omega arith)))

joined-firsts : (ps : List (List Call)) → All ps → openings_in (flattened ps) ≡ firsts ps
unfolding All flattened firsts openings_in Begins
joined-firsts [] h = refl
joined-firsts ([] ∷ ps) h = absurd h.0
joined-firsts ((o ∷ ds) ∷ ps) h =
    openings-append (o ∷ ds) (flattened ps) ∙ ap₂ (λ (xs ys : List Call). xs ++ ys) (payment-first (o ∷ ds) h.0) (joined-firsts ps h.1)

-- ---- one by one
module _ (cs : List Call) (h : Accepted fresh cs) where
  begun : All (payments_of cs).ended
  begun = all-begin (payments_of cs).ended (ended-begin cs h)

  open-first : (k : ℕ) → openings_in (get_or (payments_of cs).ongoing k []) ≡ firsts (get_or (payments_of cs).ongoing k [] ∷ [])
  unfolding firsts openings_in
  open-first k = ⊎_elim (λ e. rw e) (payment-first _) (ongoing-begin cs h k)

  pub one-by-one : (k : ℕ) → calls_of k (openings_in cs)
      ≡ calls_of k (firsts (payments_of cs).ended) ++ firsts (get_or (payments_of cs).ongoing k [] ∷ [])
  one-by-one k =
      let p = payments_of cs in
      sym (openings-lane k cs)
      ∙ ap openings_in (payments-calls cs h k)
      ∙ openings-append (calls_of k (flattened p.ended)) (get_or p.ongoing k [])
      ∙ ap₂ (λ (xs ys : List Call). xs ++ ys)
      (openings-lane k (flattened p.ended) ∙ ap (calls_of k) (joined-firsts p.ended begun)) (open-first k)
