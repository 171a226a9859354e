-- `add_each` meets its contract. Assumes nothing.
use mathlib.Core.Path.{sym, ◌∙◌}
use native.Mathlib.Omega.{arith}
use Rattle.basics.specs.Text.{text}
use Rattle.listing.proofs.LineLaws.{each_step, each_none}
use Rattle.listing.proofs.add_each.Goals as goal

pub loop-id-preserved : goal.loop-id-preserved
loop-id-preserved c =
    let t = text c.loop-id.to c.loop-id.out in
    let step = each_step c.args.ids.now c.loop-id.id-index t (omega arith) in
    cc (c.add-to.ensures, c.add_hex-to.ensures, step, c.loop-id.invariant)

pub returns : goal.returns
returns c = sym (each_none c.args.ids.now c.loop-id.id-index _ (omega arith)) ∙ c.loop-id.invariant
