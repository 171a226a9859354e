-- What the payments of a run are: its calls, grouped. The third demand: "each payment's calls in their own order, first the ended
-- payments one after another in the order in which they ended, then the calls of each payment still open, lane by lane". Definitions
-- only.
use Rattle.std.specs.Prelude.{◌≡◌, List, [], ◌∷◌, ◌++◌, ℕ, length, get_or}
use Rattle.desk_rules.specs.declared.Opening.{Opening}
use Rattle.desk_rules.specs.Course.{Call, opening, message, lost}
use Rattle.desk_rules.specs.Payments.{Payments, flattened}
use Rattle.desk_rules.specs.believed.Due.{Ending}

-- a call of lane k
pub data OfLane (k : ℕ) : Call → Type 0 where
  of_opening : {o : Opening} → OfLane k (opening k o)
  of_message : {s : List ℕ} → OfLane k (message k s)
  of_lost : OfLane k (lost k)

-- of a list those of which P holds, in their order
pub data Those {A : Type 0} (P : A → Type 0) : List A → List A → Type 0 where
  none : Those P [] []
  taken : {x : A} {xs ys : List A} → P x → Those P xs ys → Those P (x ∷ xs) (x ∷ ys)
  left : {x : A} {xs ys : List A} → (P x → ⊥) → Those P xs ys → Those P (x ∷ xs) ys

-- calls of lane k, of which none ends a payment
unfoldable pub Going : ℕ → List Call → Type 0
Going k [] = Unit {0}
Going k (c ∷ cs) = OfLane k c × (Ending c → ⊥) × Going k cs

-- payments, each of one lane and ended by its last call and no other; and the calls that end them
pub data Closed : List (List Call) → List Call → Type 0 where
  none : Closed [] []
  more : {k : ℕ} {c : Call} {ps : List (List Call)} {cs : List Call} (q : List Call) → Going k q → OfLane k c → Ending c → Closed ps cs
      → Closed ((q ++ (c ∷ [])) ∷ ps) (c ∷ cs)

pub record Grouping (cs : List Call) (p : Payments) : Type 0 where
  -- P1: "There are eight lanes"
  pub lanes : length p.ongoing ≡ 8
  -- the ended payments, in the order in which they ended
  pub ended : (ends : List Call) × Those Ending cs ends × Closed p.ended ends
  -- of each lane the calls of its ended payments, then those of its open one, are its calls in their order
  pub calls : (k : ℕ) → (past : List Call) × Those (OfLane k) (flattened p.ended) past × Those (OfLane k) cs (past ++ get_or p.ongoing k [])
