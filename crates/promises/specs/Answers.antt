-- What the promises say of answers: that a call is taken, how a replay ended, what a refusal names, and what stands in a list. Definitions
-- only.
use Rattle.std.specs.Prelude.{◌≡◌, ◌⊎◌, List, ◌∷◌, ◌++◌, ℕ, ◌<◌, length, Err, None, Ok, Result}
use Rattle.zvt_rules.specs.declared.Refusal.{Refusal}
use Rattle.zvt_rules.specs.believed.Faults.{Names}
use Rattle.desk_rules.specs.declared.Phase.TheVariants.{Idle}
use Rattle.desk_rules.specs.declared.Desk.{Desk}
use Rattle.desk_rules.specs.Course.{Call, opening, message, lost}
use Rattle.desk_rules.specs.believed.Table.{phase_at}
use Rattle.desk_rules.specs.Memory.{view}
use Rattle.replaying_rules.specs.declared.Replayed.{Replayed}

-- it is not refused
abbrev pub Takes : {A : Type 0} → Result A Refusal → Type 0
Takes {A} x = (a : A) × (x ≡ Ok a)

-- so much, up to the end of a tape, or up to where it is refused
abbrev pub ending_says : Result (Unit {0}) Refusal → ℕ → Result ℕ Refusal
ending_says (Ok tt) n = Ok n
ending_says (Err r) n = Err r

-- how a replay ended: refused so, or without a refusal at this place; desk and place of a refused one stand beside that (T29)
abbrev pub replay_says : Replayed → Result ℕ Refusal
replay_says r = ending_says r.ending r.place

-- R46: "Every refusal of a body names a place .. No other refusal names one": what the refusal of a call names
abbrev pub Placed : Call → Refusal → Type 0
Placed (opening i o) r = r.place ≡ None
Placed (message i b) r = (r.place ≡ None) ⊎ Names b r
Placed (lost i) r = r.place ≡ None

-- x stands at place k of a list, counted from 0
abbrev pub At : {A : Type 0} → List A → ℕ → A → Type 0
At {A} xs k x = (before : List A) × (after : List A) × (xs ≡ before ++ (x ∷ after)) × (length before ≡ k)

-- R19: "a payment is open at closing". P2: "A payment is open while its lane is waiting or running."
unfoldable pub Open : Desk → Type 0
Open d = (i : ℕ) × (i < 8) × (phase_at (view d) i ≡ Idle → ⊥)
