-- What holds of a refusal, and of what a waiting and a running lane make of a header, holds of all that is heard; and what holds of both
-- ends that a completion can have holds of every completion. Assumes nothing.
use mathlib.Core.Path.{◌≡◌, refl}
use mathlib.Core.Bool.{not, ◌&&◌}
use mathlib.Core.List.{List}
use Prim.Native.Nat.{ℕ}
use lib.Dec.{eqb}
use Rattle.std.proofs.Common.{Err, None, Ok, Option, Result, Some}
use Rattle.zvt_rules.specs.declared.Refusal.{Refusal}
use Rattle.zvt_rules.specs.Reading.{Reading, got, refused}
use Rattle.zvt_rules.specs.Message.{Heading, whole_header}
use Rattle.basics.proofs.Tests.{pick-test}
use Rattle.desk_rules.specs.declared.Outcome.TheVariants.{Unclear, Approved}
use Rattle.desk_rules.specs.declared.Phase.{Phase}
use Rattle.desk_rules.specs.declared.Phase.TheVariants.{Idle, Waiting, Running}
use Rattle.desk_rules.specs.declared.Lane.{Lane}
use Rattle.desk_rules.specs.declared.Moved.{Moved}
use Rattle.desk_rules.specs.declared.Moved.TheVariants.{Ends}
use Rattle.desk_rules.specs.Kinds.{is_reversal}
use Rattle.desk_rules.specs.Course.{heard_waiting, settled_as, completed_by, heard_running, after_header, heard_by, heard}

module _ (P : Result Moved Refusal → Type 0) (l : Lane) (s : List ℕ) (no : (r : Refusal) → P (Err r)) where
  abbrev Holds : Phase → (Heading → Result Moved Refusal) → Type 0
  Holds p hears = (h : Heading) → whole_header s ≡ got h → l.phase ≡ p → P (hears h)

  after : (p : Phase) (hears : Heading → Result Moved Refusal) → l.phase ≡ p → Holds p hears → P (after_header hears (whole_header s))
  unfolding after_header
  after p hears e k = go (whole_header s) refl
    where
      go : (r : Reading Heading) → whole_header s ≡ r → P (after_header hears r)
      go (refused f) w = no _
      go (got h) w = k h w e

  pub heard-cases : Holds Waiting (heard_waiting l) → Holds Running (heard_running l s) → P (heard l s)
  unfolding heard heard_by
  heard-cases waiting running = go l.phase refl
    where
      go : (p : Phase) → l.phase ≡ p → P (heard_by p l s)
      go Idle e = no _
      go Waiting e = after Waiting (heard_waiting l) e waiting
      go Running e = after Running (heard_running l s) e running

-- a completion ends unclear, with nothing settled, or approved for the amount that is remembered
module _ (P : Result Moved Refusal → Type 0) (l : Lane) (unclear : (c : ℕ) → P (Ok (Ends Unclear 0 c)))
    (approved : (a : ℕ) → l.status.amount ≡ Some a → P (Ok (Ends Approved a 0))) where
  settled : (t : Option ℕ) → l.status.amount ≡ t → P (settled_as l.kind l.asked t)
  unfolding settled_as
  settled None e = unclear 0
  settled (Some a) e = pick-test P (is_reversal l.kind && not (eqb a l.asked)) (λ _. unclear 0) (λ _. approved a e)

  pub completed-cases : (t : Option ℕ) → P (completed_by l t)
  unfolding completed_by
  completed-cases None = unclear 0
  completed-cases (Some c) = pick-test P (eqb c 0) (λ _. settled l.status.amount refl) (λ _. unclear c)
