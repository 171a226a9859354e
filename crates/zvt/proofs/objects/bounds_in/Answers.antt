-- `zvt::objects::bounds_in` meets its contract. Assumes nothing.
use Rattle.std.proofs.Common.{sym, ap, ◌∙◌, Err}
use Rattle.zvt.proofs.ObjectLaws.{value-cut, value-fits}
use Rattle.zvt.proofs.objects.bounds_in.Goals as goal

pub returns-then-s-from : goal.returns-then-s-from
returns-then-s-from c = ap Err c.fault.ensures ∙ sym (value-cut _ _ _ _ _ c.args.p.bytes.now c.requires c.if-s-from.true)

pub returns : goal.returns
returns c = sym (value-fits _ _ _ _ _ c.args.p.bytes.now c.requires c.if-s-from.false)
