-- What the loops over lanes and lines have found at each step, and how large it is. Assumes nothing.
use mathlib.Core.Path.{◌≡◌, refl}
use mathlib.Core.List.{List, [], ◌∷◌, ◌++◌}
use Prim.Native.Nat.{ℕ, zero, suc, ◌+◌, ◌*◌, ◌≤◌, ◌<◌}
use native.Mathlib.Numerals.{add-one}
use native.Mathlib.Omega.{arith}
use lib.ListN.{length, get_or, take}
use lib.Seq.{take-suc}
use Rattle.std.proofs.Common.{Option}
use Rattle.basics.specs.Choice.{pick}
use Rattle.basics.proofs.Tests.{pick-test}
use Rattle.desk_rules.specs.declared.Kind.{Kind}
use Rattle.desk_rules.specs.declared.Kind.TheVariants.{Sale, Refund, Reversal}
use Rattle.desk_rules.specs.declared.Line.{Line}
use Rattle.desk_rules.specs.declared.Desk.{Desk}
use Rattle.desk_rules.specs.Numbers.{most_asked}
use Rattle.desk_rules.specs.Kinds.{is_approved}
use Rattle.desk_rules.specs.Lanes.{blank_line}
use Rattle.desk_rules.specs.Openings.{concerns, last_from, last_line}
use Rattle.desk_rules.specs.Runs.{total}
use Rattle.desk_rules.specs.Memory.{Valid}
use Rattle.desk_rules.specs.Turnover.{counted, adds, takes, gain, loss, gains, losses}

-- ---- a sum over a list

module _ {A : Type 0} (f : A → ℕ) (sum : List A → ℕ) (none : sum [] ≡ 0) (more : (x : A) (xs : List A) → sum (x ∷ xs) ≡ f x + sum xs) (d : A) where
  sum-most : (top : ℕ) (i : ℕ) (xs : List A) → ((k : ℕ) → f (get_or xs k d) ≤ top) → sum (take i xs) ≤ i * top
  sum-most top zero xs h = omega (arith, none)
  sum-most top (suc i) [] h = omega (arith, none)
  sum-most top (suc i) (x ∷ xs) h = omega (arith, more x (take i xs), h 0, sum-most top i xs (λ k. h (suc k)))

-- ---- the last line of a lane with a receipt

last-last : (i : ℕ) (r : Option ℕ) (first : Line) (ls : List Line) (l : Line)
    → last_from i r first (ls ++ (l ∷ [])) ≡ pick (concerns i r l) l (last_from i r first ls)
unfolding last_from
last-last i r first [] l = refl
last-last i r first (x ∷ ls) l = last-last i r (pick (concerns i r x) x first) ls l

pub last-take : (i : ℕ) (r : Option ℕ) (ls : List Line) (k : ℕ) → k < length ls → let l = get_or ls k blank_line in
    last_line i r (take (k + 1) ls) ≡ pick (concerns i r l) l (last_line i r (take k ls))
unfolding last_line
last-take i r ls k h = rw (add-one, take-suc ls k blank_line h) (last-last i r blank_line (take k ls) (get_or ls k blank_line))

-- ---- the net turnover

counted-most : (l : Line) → counted l ≤ l.settled
counted-most l = pick-test (λ (n : ℕ). n ≤ l.settled) (is_approved l.outcome) (λ _. omega arith) (λ _. omega arith)

by_kind : (k : Kind) (n : ℕ) → (adds k n ≤ n) × (takes k n ≤ n)
by_kind Sale n = (omega arith, omega arith)
by_kind Refund n = (omega arith, omega arith)
by_kind Reversal n = (omega arith, omega arith)

module _ (d : Desk) (v : Valid d) where
  pub small : (k : ℕ) → let l = get_or d.book.lines k blank_line in (gain l ≤ most_asked) × (loss l ≤ most_asked)
  small k =
      let l = get_or d.book.lines k blank_line in
      let m = by_kind l.kind (counted l) in
      (omega (arith, m.0, counted-most l, v.settled k), omega (arith, m.1, counted-most l, v.settled k))

  pub gains-most : (i : ℕ) → gains (take i d.book.lines) ≤ i * most_asked
  unfolding total
  gains-most i = sum-most gain gains refl (λ l ls. refl) blank_line most_asked i d.book.lines (λ k. (small k).0)

  pub losses-most : (i : ℕ) → losses (take i d.book.lines) ≤ i * most_asked
  unfolding total
  losses-most i = sum-most loss losses refl (λ l ls. refl) blank_line most_asked i d.book.lines (λ k. (small k).1)
