-- `desks::blocks` meets its contract. Assumes nothing.
use mathlib.Core.Path.{sym, ap, ◌∙◌}
use mathlib.Core.List.{List}
use Prim.Native.Nat.{ℕ, ◌/◌}
use lib.ListN.{length}
use native.Mathlib.Omega.{arith}
use Rattle.basics.specs.Text.{text, add_all}
use Rattle.buffers.proofs.TextLaws.{both}
use Rattle.printing.specs.Answers.{bytes_line}
use Rattle.printing.specs.Desks.{blocks_text, tape_text}
use Rattle.printing.proofs.Prints.{printed}
use Rattle.printing.proofs.Lengths.{tape-long}
use Rattle.printing.proofs.Listed.{goes, blocks-next, blocks-none}
use Rattle.printing.proofs.desks.blocks.Goals as goal

pub loop-block-preserved : goal.loop-block-preserved
unfolding bytes_line
loop-block-preserved c =
    let turn = c.loop-block in
    let (same, (parts, size), rem) = c.in-Some.ensures.steps in
    let whole = size ∙ turn.invariant.0 in
    let next = ap (λ (x : List ℕ). blocks_text (length x / 512) x) parts ∙ blocks-next c.in-Some.block.now _ whole in
    (same ∙ turn.invariant.0, goes _ _ _ _ next (both _ _ _ c.add_bytes-to.ensures c.add-to.ensures) ∙ turn.invariant.1)

pub returns : goal.returns
unfolding tape_text add_all
returns c =
    let turn = c.loop-block in
    let left = turn.block-iterator.rest.now in
    let none = blocks-none left (rw turn.invariant.0 at c.in-None.ensures.steps.1.0) in
    let all = sym (ap (λ (x : List ℕ). add_all x (text turn.to turn.out)) none) ∙ turn.invariant.1 in
    printed _ _ _ (tape-long c.args.tape.now (omega arith)) (both (blocks_text (length c.args.tape.now / 512) c.args.tape.now) _ _ all c.counted.ensures)
