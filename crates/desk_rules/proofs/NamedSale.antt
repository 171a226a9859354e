-- P12: the sale that a reversal names is the last line that it looks at. Assumes nothing.
use mathlib.Core.Path.{◌≡◌, refl, ap, sym, subst, ◌∙◌}
use mathlib.Core.Bool.{Bool, true, false≢true, and-eq-true_iff}
use mathlib.Core.Logic.{◌⊎◌, inl, inr, ⊎_elim}
use mathlib.Core.List.{List, [], ◌∷◌, ◌++◌}
use Prim.Native.Nat.{ℕ}
use Rattle.std.proofs.Common.{Some}
use Rattle.basics.specs.Choice.{pick}
use Rattle.basics.proofs.Tests.{case, no-for}
use Rattle.desk_rules.specs.declared.Line.{Line}
use Rattle.desk_rules.specs.Kinds.{is_approved}
use Rattle.desk_rules.specs.Lanes.{blank_line}
use Rattle.desk_rules.specs.Openings.{concerns, last_from, last_line, sold}
use Rattle.desk_rules.specs.believed.LastSale.{NoneOf, Last, Concerned, Named}
use Rattle.desk_rules.proofs.LastSale.{is-sale, concerned-exactly}

-- of a list there is a last one of which P holds, or P holds of none
pub last-or-none : {A : Type 0} (P : A → Type 0) → ((x : A) → P x ⊎ (P x → ⊥)) → (xs : List A) → ((x : A) × Last P xs x) ⊎ NoneOf P xs
unfolding NoneOf
last-or-none P test [] = inr tt
last-or-none P test (x ∷ xs) =
    ⊎_elim
    (λ l. inl (l.0, record { before = x ∷ l.1.before; after = l.1.after; all = ap (λ ys. x ∷ ys) l.1.all; holds = l.1.holds; later = l.1.later }))
    (λ n. ⊎_elim (λ h. inl (x, record { before = []; after = xs; all = refl; holds = h; later = n })) (λ h. inr (h, n)) (test x)) (last-or-none P test xs)

module _ (i receipt : ℕ) where
  concerned? : (l : Line) → Concerned i receipt l ⊎ (Concerned i receipt l → ⊥)
  concerned? l = case (concerned-exactly i receipt l) inl inr

  none_from : (first : Line) (ls : List Line) → NoneOf (Concerned i receipt) ls → last_from i (Some receipt) first ls ≡ first
  unfolding NoneOf last_from
  none_from first [] n = refl
  none_from first (l ∷ ls) n = rw (no-for (concerned-exactly i receipt l) n.0) (none_from first ls n.1)

  last-from : (first line : Line) (before after : List Line) → Concerned i receipt line → NoneOf (Concerned i receipt) after
      → last_from i (Some receipt) first (before ++ (line ∷ after)) ≡ line
  unfolding last_from
  last-from first line [] after c n =
      ap (λ (t : Bool). last_from i (Some receipt) (pick t line first) after) ((concerned-exactly i receipt line).1 c) ∙ none_from line after n
  last-from first line (l ∷ before) after c n = last-from (pick (concerns i (Some receipt) l) l first) line before after c n

  module _ (ls : List Line) where
    last-is : (line : Line) → Last (Concerned i receipt) ls line → last_line i (Some receipt) ls ≡ line
    unfolding last_line
    last-is line k = rw k.all (last-from blank_line line k.before k.after k.holds k.later)

    pub named-is : (line : Line) → Named i receipt ls line → (last_line i (Some receipt) ls ≡ line) × (sold line ≡ true)
    named-is line k = (last-is line k.last, rw (k.last.holds.1.1.0, k.sale))

    pub named-there : sold (last_line i (Some receipt) ls) ≡ true → Named i receipt ls (last_line i (Some receipt) ls)
    unfolding last_line
    named-there e =
        ⊎_elim
        (λ l. subst (Named i receipt ls) (sym (last-is l.0 l.1))
        (record { last = l.1; sale = is-sale _ ((and-eq-true_iff (is_approved l.0.outcome) _).0 (rw (last-is l.0 l.1) at e)).1 }))
        (λ n. absurd (false≢true (rw (none_from blank_line ls n) at e))) (last-or-none (Concerned i receipt) concerned? ls)
