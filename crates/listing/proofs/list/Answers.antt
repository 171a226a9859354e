-- `list` meets its contract. Assumes nothing.
use mathlib.Core.Logic.{inl, inr, ⊎_elim}
use mathlib.Core.Path.{◌≡◌, refl, sym, ◌∙◌}
use native.Mathlib.Omega.{arith}
use Rattle.std.proofs.Common.{None, rules}
use Rattle.zvt.proofs.Slices.{bytes-known}
use Rattle.basics.specs.Text.{text}
use Rattle.zvt_rules.specs.Listing.{listing}
use Rattle.listing.specs.Lines.{lines_of}
use Rattle.listing.proofs.NextLaws.{rest-last, rest-message, listed-whole}
use Rattle.listing.proofs.list.Goals as goal

pub loop-size-init : goal.loop-size-init
unfolding listing lines_of
loop-size-init c = (omega arith, omega arith, inl refl, refl)

pub returns-in_default : goal.returns-in_default
returns-in_default c =
    let turn = c.loop-size in
    let s = c.args.s.now in
    let none : c.next_line-end.result.1 ≡ None = search rules in
    let last = rest-last s turn.from turn.count (text turn.to turn.out) (sym c.next_line-end.ensures.next ∙ none) in
    let whole = listed-whole s _ _ _ (bytes-known _ c.type_inv.s) (cc (c.add-to.ensures, c.next_line-end.ensures.line, last, turn.invariant.3)) in
    record { added = whole.0; whole = whole.1.0; inside = whole.1.1 }

pub loop-size-preserved : goal.loop-size-preserved
loop-size-preserved c =
    let turn = c.loop-size in
    let within = rw c.in-Some.is at c.next_line-end.ensures.within in
    let step = rest-message c.args.s.now turn.from turn.count (text turn.to turn.out) c.in-Some.size (sym c.next_line-end.ensures.next ∙ c.in-Some.is) in (
      omega (arith, within),
      omega (arith, within),
      inr (⊎_elim (λ w. omega (arith, within)) (λ w. w) turn.invariant.2),
      cc (c.add-to.ensures, c.next_line-end.ensures.line, step, turn.invariant.3),
    )
