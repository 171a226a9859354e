-- `printing::desks::blocks`. The loop's invariant: the blocks that are left, written behind the text so far, come to all of them. Assumes
-- nothing.
use mathlib.Core.Path.{◌≡◌}
use Prim.Native.Nat.{◌/◌}
use lib.ListN.{length}
use Rattle.basics.specs.Text.{text, add_all}
use Rattle.printing.specs.Desks.{blocks_text}
use Rattle.printing.proofs.desks.blocks.Given as goal

abbrev pub invariant-loop-block : goal.invariant-loop-block
invariant-loop-block l =
    let left = l.block-iterator.rest.now in
    (l.block-iterator.size ≡ 512)
    × (add_all (blocks_text (length left / 512) left) (text l.to l.out) ≡ add_all (blocks_text (length l.tape / 512) l.tape) (text 0 l.initial.out))
