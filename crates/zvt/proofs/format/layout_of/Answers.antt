-- `zvt::format::layout_of` meets its contract: the pair is one of a layout's, or none of them. Assumes nothing.
use mathlib.Core.Path.{◌≡◌, refl, sym, ap, ◌∙◌}
use mathlib.Core.Bool.{Bool, true, false, not, ◌&&◌, ◌||◌, and-eq-true_iff, false≢true}
use mathlib.Core.List.{List, [], ◌∷◌}
use Prim.Native.Nat.{ℕ, ◌+◌, ◌*◌}
use lib.Dec.{leb, ltb}
use borrow.Author.Rules.{rules}
use borrow.Author.Tests.{lt-leb, le-ltb, not-true, ne_eqb}
use native.Mathlib.Omega.{arith}
use types.Run.{OneOf}
use Rattle.zvt_rules.specs.declared.Layout.TheVariants.{Plain, List as FieldList, Secured}
use Rattle.basics.specs.Lists.{among}
use Rattle.zvt_rules.specs.Message.{layout_of}
use Rattle.basics.proofs.Tests.{pick_true, pick-false, all_from, at_from}
use Rattle.zvt.proofs.Tables.{all_in, at_key, NoneOf, any_of, not-any}
use Rattle.zvt.proofs.format.layout_of.Goals as goal

abbrev lists : List ℕ
lists = 0x0601 ∷ 0x040F ∷ 0x060F ∷ 0x06D3 ∷ []

abbrev secureds : List ℕ
secureds = 0x0621 ∷ 0x0630 ∷ 0x0631 ∷ 0x0650 ∷ []

-- the single pairs of the arms, the last arm's first
abbrev singles : List (List ℕ)
singles = (0x0621 ∷ 0x0650 ∷ []) ∷ (0x040F ∷ 0x0601 ∷ 0x060F ∷ 0x06D3 ∷ []) ∷ []

-- all that are listed pass a test, and x does not
not-among : (p : ℕ → Bool) (ks : List ℕ) (x : ℕ) → all_in p ks ≡ true → p x ≡ false → among ks x ≡ false
unfolding all_in among
not-among p [] x t e = refl
not-among p (k ∷ ks) x t e =
    let h = (and-eq-true_iff (p k) (all_in p ks)).0 t in
    let differs : k ≡ x → ⊥ = λ i. let z : true ≡ false = sym h.0 ∙ ap p i ∙ e in false≢true (sym z) in
    rw (ne_eqb k x differs) (not-among p ks x h.1 e)

abbrev is_secured : ℕ → Bool
is_secured k = not (among lists k) && among secureds k

module _ (class instruction : ℕ) where
  abbrev pair : ℕ
  pair = class * 256 + instruction

  listed : OneOf (0x040F ∷ 0x0601 ∷ 0x060F ∷ 0x06D3 ∷ []) pair → FieldList ≡ layout_of class instruction
  unfolding layout_of among all_in
  listed h = sym (pick_true _ _ (at_key (λ k. among lists k) (0x040F ∷ 0x0601 ∷ 0x060F ∷ 0x06D3 ∷ []) refl pair h))

  secured : is_secured pair ≡ true → Secured ≡ layout_of class instruction
  unfolding layout_of
  secured e =
      let k = (and-eq-true_iff (not (among lists pair)) (among secureds pair)).0 e in
      sym (pick-false _ _ (not-true (among lists pair) k.0) ∙ pick_true _ _ k.1)

  plain : (q : ℕ → Bool) → all_in (λ k. any_of singles k || q k) lists ≡ true → all_in (λ k. any_of singles k || q k) secureds ≡ true
      → NoneOf singles pair → q pair ≡ false → Plain ≡ layout_of class instruction
  unfolding layout_of
  plain q s t none e =
      let p : (any_of singles pair || q pair) ≡ false = rw (not-any singles pair none) e in
      sym (pick-false _ _ (not-among _ lists pair s p) ∙ pick-false _ _ (not-among _ secureds pair t p))

pub returns-in-1537 : goal.returns-in-1537
unfolding among all_in all_from any_of
returns-in-1537 c = listed _ _ (rw (c.from.ensures, c.from-2.ensures) at c.in-1537.is)

pub returns-in_default : goal.returns-in_default
unfolding among all_in all_from any_of
returns-in_default c =
    plain c.args.class c.args.instruction (λ k. leb 0x0630 k) refl refl (search rules) (lt-leb 0x0630 _ (omega arith))

pub returns-in_default-2 : goal.returns-in_default-2
unfolding among all_in all_from any_of
returns-in_default-2 c =
    plain c.args.class c.args.instruction (λ k. ltb k 0x0632) refl refl (search rules) (le-ltb _ 0x0632 (omega arith))

pub returns-in-1569 : goal.returns-in-1569
unfolding among all_in all_from any_of
returns-in-1569 c = secured _ _ (at_key (λ k. is_secured k) (0x0621 ∷ 0x0650 ∷ []) refl _ (rw (c.from.ensures, c.from-2.ensures) at c.in-1569.is))

pub returns-in-1569-2 : goal.returns-in-1569-2
unfolding among all_in all_from any_of
returns-in-1569-2 c =
    secured c.args.class c.args.instruction
    (at_from (λ k. is_secured k) 0x0630 2 refl (c.args.class * 256 + c.args.instruction) (omega arith) (omega arith))
