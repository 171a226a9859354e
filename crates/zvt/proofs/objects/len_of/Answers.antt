-- `zvt::objects::len_of` meets its contract. Assumes nothing.
use Rattle.std.proofs.Common.{sym, ap, ◌∙◌, arith, Ok, Err, ℕ}
use Rattle.zvt.proofs.ObjectLaws.{len-none, len-bare, len-cut-one, len-one, len-cut-two, len-two, len-bad}
use Rattle.zvt.proofs.Parts.{at-start}
use Rattle.zvt.proofs.objects.len_of.Goals as goal

pub returns-then-s-eq0 : goal.returns-then-s-eq0
returns-then-s-eq0 c = ap Err c.fault-cut.ensures ∙ sym (len-none _ c.args.p.bytes.now c.if-s-eq0.true)

pub returns-then-b-lt128 : goal.returns-then-b-lt128
returns-then-b-lt128 c = ap (λ (n : ℕ). Ok (1, n)) c.from.ensures ∙ sym (len-bare _ c.args.p.bytes.now (omega arith) c.if-b-lt128.true)

pub returns-then-s-lt2 : goal.returns-then-s-lt2
returns-then-s-lt2 c =
    ap Err c.fault-cut.ensures ∙ sym (len-cut-one _ c.args.p.bytes.now (omega arith) c.if-s-lt2.true c.if-b.true)

pub returns-then-b : goal.returns-then-b
returns-then-b c =
    ap (λ (n : ℕ). Ok (2, n)) c.from-then-b.ensures ∙ sym (len-one _ c.args.p.bytes.now (omega arith) c.if-b.true)

pub returns-then-s-lt3 : goal.returns-then-s-lt3
returns-then-s-lt3 c =
    ap Err c.fault-cut.ensures ∙ sym (len-cut-two _ c.args.p.bytes.now (omega arith) c.if-s-lt3.true c.if-b-2.true)

pub returns-then-b-2 : goal.returns-then-b-2
returns-then-b-2 c =
    ap (λ (n : ℕ). Ok (3, n)) (c.from-then-b-2.ensures ∙ c.from_be_bytes-two.ensures) ∙ sym (len-two _ c.args.p.bytes.now (omega arith) c.if-b-2.true)

pub returns : goal.returns
returns c =
    ap Err (at-start c.fault.ensures) ∙ sym (len-bad _ c.args.p.bytes.now (omega arith) (omega arith) c.if-b.false c.if-b-2.false)
