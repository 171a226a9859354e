-- P12: which lines a reversal looks at. Assumes nothing.
use mathlib.Core.Path.{◌≡◌, refl}
use mathlib.Core.Bool.{Bool, true, false, ◌&&◌, false≢true}
use mathlib.Core.Logic.{◌↔◌, ◌⊎◌, inl, inr, ⊎_elim}
use mathlib.Core.List.{List, [], ◌∷◌}
use Prim.Native.Nat.{ℕ}
use lib.Dec.{eqb}
use Rattle.std.proofs.Common.{None, Some}
use Rattle.basics.proofs.Tests.{eqb-test, and-test, never}
use Rattle.desk_rules.specs.declared.Kind.{Kind}
use Rattle.desk_rules.specs.declared.Kind.TheVariants.{Sale, Refund, Reversal}
use Rattle.desk_rules.specs.declared.Outcome.{Outcome}
use Rattle.desk_rules.specs.declared.Outcome.TheVariants.{Unclear, Declined, Approved}
use Rattle.desk_rules.specs.declared.Line.{Line}
use Rattle.desk_rules.specs.Kinds.{is_sale, is_approved}
use Rattle.desk_rules.specs.Lanes.{blank_line}
use Rattle.desk_rules.specs.Openings.{looks_at, concerns, last_from, last_line}
use Rattle.desk_rules.specs.believed.LastSale.{Concerned}

-- ---- the lines that a reversal looks at are those of the rule
approved : (o : Outcome) → (is_approved o ≡ true) ↔ (o ≡ Approved)
approved Approved = (λ e. refl, λ e. refl)
approved Declined = (λ e. absurd (false≢true e), λ e. never cc)
approved Unclear = (λ e. absurd (false≢true e), λ e. never cc)

sale-or-reversal : (receipt : ℕ) (k : Kind) → (looks_at (Some receipt) k ≡ true) ↔ ((k ≡ Sale) ⊎ (k ≡ Reversal))
sale-or-reversal receipt Sale = (λ e. inl refl, λ e. refl)
sale-or-reversal receipt Reversal = (λ e. inr refl, λ e. refl)
sale-or-reversal receipt Refund = (
  λ e. absurd (false≢true e),
  λ e.
      absurd (⊎_elim (λ h. never cc) (λ h. never cc) e),
)

pub concerned-exactly : (i receipt : ℕ) (l : Line) → (concerns i (Some receipt) l ≡ true) ↔ Concerned i receipt l
unfolding concerns
concerned-exactly i receipt l =
    and-test (eqb-test l.lane i)
    (and-test (eqb-test l.receipt receipt) (and-test (approved l.outcome) (sale-or-reversal receipt l.kind)))

-- who refers to nothing looks at no line
pub nothing-last : (i : ℕ) (ls : List Line) → last_line i None ls ≡ blank_line
unfolding last_line last_from concerns
nothing-last i ls = go blank_line ls
  where
    unseen : (a b c : Bool) → a && (b && (c && false)) ≡ false
    unseen true true true = refl
    unseen true true false = refl
    unseen true false c = refl
    unseen false b c = refl

    go : (last : Line) (ls : List Line) → last_from i None last ls ≡ last
    go last [] = refl
    go last (l ∷ ls) = rw (unseen (eqb l.lane i) (eqb l.receipt 0) (is_approved l.outcome)) (go last ls)

pub is-sale : (k : Kind) → is_sale k ≡ true → k ≡ Sale
is-sale Sale e = refl
is-sale Refund e = never cc
is-sale Reversal e = never cc
