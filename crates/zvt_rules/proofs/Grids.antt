-- A grid is what its definition computes, for every byte. Assumes nothing.
use mathlib.Core.Path.{◌≡◌, refl, sym, ap, ap₂, ◌∙◌}
use mathlib.Core.Bool.{true, false≢true}
use mathlib.Core.Logic.{◌↔◌}
use mathlib.Core.List.{List, [], ◌∷◌, map}
use Prim.Native.Nat.{ℕ, zero, suc, ◌+◌, ◌*◌, ◌<◌}
use native.Mathlib.Omega.{arith}
use lib.ListN.{get_or, get_or-map}
use lib.Dec.{eqb}
use borrow.Author.Tests.{eqb-true, eq-eqb}
use Rattle.zvt_rules.specs.declared.Layout.{Layout}
use Rattle.zvt_rules.specs.declared.Layout.TheVariants.{Plain, List as FieldList, Secured}
use Rattle.basics.specs.Lists.{among}
use Rattle.zvt_rules.specs.Fields.{format_of, holds_digits}
use Rattle.zvt_rules.specs.Message.{layout_of}
use Rattle.zvt_rules.specs.believed.Grids.{··, cell_says, ids, lists, secured, LaidOut}
use Rattle.basics.specs.believed.Lists.{In}
use Rattle.basics.proofs.Tests.{true-false, pick-test, pick-false, or-test, no-for}
use Rattle.basics.proofs.Lists.{in-none, in-first, in-more, Each, in-each}

-- what f says of k numbers from a on
unfoldable pub drawn : {A : Type 0} → (ℕ → A) → ℕ → ℕ → List A
drawn f zero a = []
drawn f (suc k) a = f a ∷ drawn f k (a + 1)

drawn-at : {A : Type 0} (f : ℕ → A) (d : A) (k a i : ℕ) → i < k → get_or (drawn f k a) i d ≡ f (a + i)
unfolding drawn
drawn-at f d zero a i h = absurd (omega arith)
drawn-at f d (suc k) a zero h = ap f (omega arith)
drawn-at f d (suc k) a (suc i) h = drawn-at f d k (a + 1) i (omega arith) ∙ ap f (omega arith)

-- cells drawn from f tell f of every byte
pub grid : {A : Type 0} (f : ℕ → A) (cells : List A) (d : A) → drawn f 256 0 ≡ cells → (b : ℕ) → b < 256 → f b ≡ get_or cells b d
grid f cells d e b h = let from-0 : b ≡ 0 + b = omega arith in rw (← e, drawn-at f d 256 0 b h) (ap f from-0)

-- F2 and F5
pub id-grid : (id : ℕ) → id < 256 → (format_of id, holds_digits id) ≡ cell_says (get_or ids id ··)
unfolding drawn format_of among ids cell_says
id-grid id h = grid (λ i. (format_of i, holds_digits i)) (map cell_says ids) (cell_says ··) refl id h ∙ get_or-map cell_says ids id ··

-- ---- pairs
-- a pair as one number
abbrev code : ℕ × ℕ → ℕ
code p = p.0 * 256 + p.1

code-test : (p q : ℕ × ℕ) → p.1 < 256 → q.1 < 256 → (eqb (code p) (code q) ≡ true) ↔ (q ≡ p)
code-test p q h k = (
  λ e.
      let l = eqb-true (code p) (code q) e in
      let i : q.0 ≡ p.0 = omega arith in
      let j : q.1 ≡ p.1 = omega arith in
      ap₂ (λ (a b : ℕ). (a, b)) i j,
  λ e. eq-eqb (code p) (code q) (ap code (sym e)),
)

coded : (ps : List (ℕ × ℕ)) (q : ℕ × ℕ) → q.1 < 256 → Each (λ p. p.1 < 256) ps → (among (map code ps) (code q) ≡ true) ↔ In q ps
unfolding among Each
coded [] q k h = (λ e. absurd (false≢true e), in-none)
coded (p ∷ ps) q k h = let t = or-test (code-test p q h.0 k) (coded ps q k h.1) in (λ e. in-more (t.0 e), λ i. t.1 (in-first i))

-- M5 to M7: a pair is laid out as it is listed, and in no other way
module _ (class instruction : ℕ) (h : instruction < 256) where
  as-list : (among (map code lists) (class * 256 + instruction) ≡ true) ↔ In (class, instruction) lists
  unfolding Each
  as-list = coded lists (class, instruction) h (omega arith, (omega arith, (omega arith, (omega arith, tt))))

  as-secured : (among (map code secured) (class * 256 + instruction) ≡ true) ↔ In (class, instruction) secured
  unfolding Each
  as-secured = coded secured (class, instruction) h (omega arith, (omega arith, (omega arith, (omega arith, tt))))

  is-laid-out : LaidOut class instruction (layout_of class instruction)
  unfolding layout_of LaidOut
  is-laid-out =
      pick-test (LaidOut class instruction) _ as-list.0
      λ f. pick-test (LaidOut class instruction) _ as-secured.0 λ g. (λ k. true-false (as-list.1 k) f, λ k. true-false (as-secured.1 k) g)

  laid-out-is : (l : Layout) → LaidOut class instruction l → layout_of class instruction ≡ l
  unfolding layout_of LaidOut among Each
  laid-out-is FieldList k = in-each (λ p. layout_of p.0 p.1 ≡ FieldList) lists (refl, (refl, (refl, (refl, tt)))) k
  laid-out-is Secured k = in-each (λ p. layout_of p.0 p.1 ≡ Secured) secured (refl, (refl, (refl, (refl, tt)))) k
  laid-out-is Plain k = pick-false _ _ (no-for as-list k.0) ∙ pick-false _ _ (no-for as-secured k.1)

  pub laid_out : (l : Layout) → (layout_of class instruction ≡ l) ↔ LaidOut class instruction l
  laid_out l = (λ e. rw (← e) is-laid-out, laid-out-is l)
