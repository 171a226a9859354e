-- `put_leaf` meets its contract: the value, and its head before it. Assumes nothing.
use native.Mathlib.Omega.{arith}
use lib.ListN.{length, length-append}
use Rattle.zvt.specs.WritingSteps.{head_bytes, value_bytes}
use Rattle.zvt.proofs.Back.{room, then-put}
use Rattle.zvt.proofs.writing.put_leaf.Goals as goal

pub put-left-requires : goal.put-left-requires
unfolding value_bytes
put-left-requires c =
    let h = head_bytes c.args.tag.now (length c.args.value.now) in
    omega (arith, c.requires.1, length-append h c.args.value.now)

pub put_head-requires : goal.put_head-requires
unfolding value_bytes
put_head-requires c =
    let h = head_bytes c.args.tag.now (length c.args.value.now) in
    (c.requires.0, room h c.put-left.ensures c.requires.1)

pub returns : goal.returns
unfolding value_bytes
returns c =
    let h = head_bytes c.args.tag.now (length c.args.value.now) in
    then-put h c.put-left.ensures c.requires.1 c.put_head.ensures
