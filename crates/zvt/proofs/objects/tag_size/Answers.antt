-- `zvt::objects::tag_size` meets its contract. Assumes nothing.
use Rattle.std.proofs.Common.{get_or, sym, ap, ◌∙◌, arith, Err}
use Rattle.zvt.proofs.Masks.{long-tag, short-tag, top-bit, no-top-bit}
use Rattle.zvt.proofs.ObjectLaws.{tag-none, tag_one, tag-cut, tag-high, tag-two}
use Rattle.zvt.proofs.Parts.{at-start}
use Rattle.zvt.proofs.objects.tag_size.Goals as goal

pub returns-then-s-eq0 : goal.returns-then-s-eq0
returns-then-s-eq0 c = ap Err (at-start c.fault.ensures) ∙ sym (tag-none _ c.args.p.bytes.now c.if-s-eq0.true)

pub returns-then-s-ne31 : goal.returns-then-s-ne31
returns-then-s-ne31 c =
    let s = c.args.p.bytes.now in sym (tag_one _ s (omega arith) (short-tag (get_or s 0 0) c.if-s-ne31.true))

pub returns-then-s-eq1 : goal.returns-then-s-eq1
returns-then-s-eq1 c =
    let s = c.args.p.bytes.now in
    ap Err c.fault-then-s-eq1.ensures ∙ sym (tag-cut _ s c.if-s-eq1.true (long-tag (get_or s 0 0) c.if-s-ne31.false))

pub returns-then-s-ne0 : goal.returns-then-s-ne0
returns-then-s-ne0 c =
    let s = c.args.p.bytes.now in
    ap Err c.fault-then-s-ne0.ensures ∙ sym (tag-high _ s (omega arith) (long-tag (get_or s 0 0) c.if-s-ne31.false)
    (top-bit (get_or s 1 0) c.if-s-ne0.true))

pub returns-else-s-ne0 : goal.returns-else-s-ne0
returns-else-s-ne0 c =
    let s = c.args.p.bytes.now in
    sym (tag-two _ s (omega arith) (long-tag (get_or s 0 0) c.if-s-ne31.false)
    (no-top-bit (get_or s 1 0) (c.args.p.are_bytes 1) c.if-s-ne0.false))
