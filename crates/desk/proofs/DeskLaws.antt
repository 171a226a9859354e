-- What the desk's functions need beside the laws of the course: what is said of all lanes by a chain, and the difference of two sums as a
-- signed number. Assumes nothing.
use mathlib.Core.Path.{◌≡◌, refl, sym, ap, ◌∙◌}
use mathlib.Core.Bool.{Bool, true, false, not, ◌&&◌, cond}
use mathlib.Core.List.{List, [], ◌∷◌}
use Prim.Native.Nat.{ℕ, zero, suc, ◌+◌, ◌-◌, ◌^◌, ◌<◌}
use native.Mathlib.Omega.{arith}
use lib.Dec.{eqb, ltb}
use lib.Pointwise.{pointwise}
use lib.IntN.{pos, negsuc, ◌-ℤ◌}
use mir.Syntax.{w64}
use mir.Val.{SFits, to_z}
use borrow.Author.Tests.{ltb-true, lt-ltb}
use Rattle.std.specs.List.{list_all, sum_by, count_by}
use Rattle.std.proofs.lemmas.List.Sums.{sum_by-cons}
use denote.Enum.Bare.{sameb}
use Rattle.desk_rules.specs.contracts.Phase as phase
use Rattle.desk_rules.specs.declared.Phase.{Phase}
use Rattle.desk_rules.specs.declared.Phase.TheVariants.{Idle, Waiting, Running}
use Rattle.desk_rules.specs.declared.Lane.{Lane}
use Rattle.desk_rules.specs.Kinds.{is_idle, booked}
use Rattle.desk_rules.specs.Runs.{total}
use Rattle.desk_rules.specs.Openings.{same}
use Rattle.basics.specs.Choice.{pick}
use Rattle.desk.specs.Steps.{takes_line}
use Rattle.desk_rules.specs.Lanes.{line_taken}
use Rattle.desk_rules.specs.Desk.{all_idle, lines_taken}

-- the code's `==`
pub phase-idle : (p : Phase) → sameb phase.the_type p Idle ≡ is_idle p
phase-idle Idle = refl
phase-idle Waiting = refl
phase-idle Running = refl

pub idle-all : (ls : List Lane) → list_all (λ (l : Lane). is_idle l.phase) ls ≡ all_idle ls
unfolding all_idle
idle-all [] = refl
idle-all (l ∷ ls) = ap (λ b. is_idle l.phase && b) (idle-all ls)

one-taken : (l : Lane) → ◌≡◌ {A = ℕ} (cond (takes_line l) 1 0) (line_taken l)
unfolding line_taken
one-taken l = go (is_idle l.phase) (booked l.kind)
  where
    go : (i b : Bool) → ◌≡◌ {A = ℕ} (cond (not i && b) 1 0) (pick i 0 (pick b 1 0))
    go true b = refl
    go false true = refl
    go false false = refl

pub taken-count : (ls : List Lane) → count_by takes_line ls ≡ lines_taken ls
unfolding lines_taken
taken-count [] = refl
taken-count (l ∷ ls) = omega (arith, sum_by-cons (λ x. cond (takes_line x) 1 0) l ls, one-taken l, taken-count ls)

-- a sum of the rules is one of the library
pub total-sum : {A : Type 0} (f : A → ℕ) (xs : List A) → total f xs ≡ sum_by f xs
unfolding total
total-sum f [] = refl
total-sum f (x ∷ xs) = ap (λ n. f x + n) (total-sum f xs) ∙ sym (sum_by-cons f x xs)

pub same-pointwise : (s t : List ℕ) → pointwise eqb s t ≡ same s t
unfolding same
same-pointwise [] [] = refl
same-pointwise [] (b ∷ t) = refl
same-pointwise (b ∷ s) [] = refl
same-pointwise (b ∷ s) (c ∷ t) = ap (λ x. eqb b c && x) (same-pointwise s t)

-- a small sum, cast to a signed number
pub signed : (n : ℕ) → n < 2 ^ 63 → to_z w64 n ≡ pos n
signed n h = rw (lt-ltb n (2 ^ 63) h)

pub difference-fits : (p m : ℕ) → p < 2 ^ 63 → m < 2 ^ 63 → SFits w64 (pos p -ℤ pos m)
difference-fits p zero hp hm = record { sfits = omega arith }
difference-fits p (suc m) hp hm = go (ltb p (suc m)) refl
  where
    go : (b : Bool) → ltb p (suc m) ≡ b → SFits w64 (cond b (negsuc (suc m - suc p)) (pos (p - suc m)))
    go true e = record { sfits = omega (arith, ltb-true p (suc m) e) }
    go false e = record { sfits = omega arith }
