-- `put_head` meets its contract: the length, and the tag before it. Assumes nothing.
use native.Mathlib.Omega.{arith}
use lib.ListN.{length-append}
use Rattle.zvt_rules.specs.believed.Writing.{len_bytes}
use Rattle.zvt_rules.specs.Shortest.{form_for}
use Rattle.zvt.specs.WritingSteps.{head_bytes}
use Rattle.zvt.proofs.Back.{room, then-put}
use Rattle.zvt.proofs.writing.put_head.Goals as goal

pub put_len-left-requires : goal.put_len-left-requires
unfolding head_bytes
put_len-left-requires c =
    let v = c.args.v in
    (c.requires.0, omega (arith, c.requires.1, length-append c.args.tag.now (len_bytes (form_for v) v)))

pub put-requires : goal.put-requires
unfolding head_bytes
put-requires c =
    room c.args.tag.now c.put_len-left.ensures c.requires.1

pub returns : goal.returns
unfolding head_bytes
returns c =
    then-put c.args.tag.now c.put_len-left.ensures c.requires.1 c.put.ensures
