-- `zvt::objects::read_one` and `zvt::objects::read_run` meet their contracts: what the answer is at each return, and where the next
-- object and the value of an object lie. Assumes nothing.
use Rattle.std.proofs.Common.{◌+◌, length, sym, ap, ◌∙◌, arith, Err, Ok}
use Rattle.std.proofs.lemmas.Bool.{not-true, not-false}
use Rattle.basics.proofs.Exits.{handed-on}
use Rattle.zvt_rules.proofs.ObjectReading.{part_length}
use Rattle.zvt.specs.ObjectSteps.{one_answer, run_answer}
use Rattle.zvt.proofs.Parts.{part-bytes, at-start, of-part}
use Rattle.zvt.proofs.RunLaws.{GoesOn, run-begins, run_ends, run-stops, run-goes-on, one-full, one-deep, value-in, Answered, one-no-head, one-leaf, one-no-inner, one-branch}
use Rattle.zvt.proofs.objects.+read_one_read_run.Goals as goal
use Rattle.zvt.proofs.objects.+read_one_read_run.Goals.{read_one-Then-not-b, read_one-In_ok-r, read_run-In_ok-o}

-- ---- an object
is_leaf : (t : _) (c : read_one-Then-not-b t) → Answered c.args.left c.args.n c.args.p.at c.args.p.bytes.now c.in_ok-b.b (c.args.n + 1) 0
is_leaf t c =
    one-leaf _ _ _ _ c.if-n-ge-MOST_OBJECTS.false c.if-left-eq0.false (part-bytes c.args.p) _
    (sym c.in_ok-b.ensures) (not-true _ c.if-not-b.true)

is-branch : (t : _) (c : read_one-In_ok-r t)
    → Answered c.args.left c.args.n c.args.p.at c.args.p.bytes.now c.in_ok-b.b c.in_ok-r.r.objects c.in_ok-r.r.spare
is-branch t c =
    one-branch _ _ _ _ c.if-n-ge-MOST_OBJECTS.false c.if-left-eq0.false (part-bytes c.args.p) _
    (sym c.in_ok-b.ensures) (not-false _ c.if-not-b.false) _
    (of-part (run_answer _ _) c.between.ensures c.in_ok-r.ensures)

pub read_one-returns-then-n-ge-MOST_OBJECTS : goal.read_one-returns-then-n-ge-MOST_OBJECTS
read_one-returns-then-n-ge-MOST_OBJECTS t c = ap Err (at-start c.fault.ensures) ∙ sym (one-full _ _ _ _ c.if-n-ge-MOST_OBJECTS.true)

pub read_one-returns-then-left-eq0 : goal.read_one-returns-then-left-eq0
read_one-returns-then-left-eq0 t c =
    ap Err (at-start c.fault-then-left-eq0.ensures) ∙ sym (one-deep _ _ _ _ c.if-n-ge-MOST_OBJECTS.false c.if-left-eq0.true)

pub read_one-tally_of-requires : goal.read_one-tally_of-requires
read_one-tally_of-requires t c = (is_leaf t c).0

pub read_one-returns-then-not-b : goal.read_one-returns-then-not-b
read_one-returns-then-not-b t c = ap Ok c.tally_of.ensures ∙ sym (is_leaf t (goal.at.read_one-returns-then-not-b t c).Then-not-b).1

pub read_one-between-requires : goal.read_one-between-requires
read_one-between-requires t c = let h = value-in _ _ _ (sym c.in_ok-b.ensures) in (h.1, h.2)

pub read_one-read_run-requires : goal.read_one-read_run-requires
read_one-read_run-requires t c =
    let (first, order, end) = value-in _ _ _ (sym c.in_ok-b.ensures) in
    let size = ap length c.between.ensures.bytes ∙ part_length _ _ _ order end in
    (omega (arith, c.decreases), tt)

pub read_one-tally_of-requires-2 : goal.read_one-tally_of-requires-2
read_one-tally_of-requires-2 t c = (is-branch t c).0

pub read_one-returns-in_err-b : goal.read_one-returns-in_err-b
read_one-returns-in_err-b t c =
    handed-on c.from_residual.ensures.1
    ∙ sym (one-no-head _ _ _ _ c.if-n-ge-MOST_OBJECTS.false c.if-left-eq0.false _ (sym c.in_err-b.ensures))

pub read_one-returns-in_err-r : goal.read_one-returns-in_err-r
read_one-returns-in_err-r t c =
    handed-on c.from_residual-in_err-r.ensures.1
    ∙ sym (one-no-inner _ _ _ _ c.if-n-ge-MOST_OBJECTS.false c.if-left-eq0.false _ (sym c.in_ok-b.ensures) (not-false _ c.if-not-b.false) _
    (of-part (run_answer _ _) c.between.ensures c.in_err-r.ensures))

pub read_one-returns : goal.read_one-returns
read_one-returns t c = ap Ok c.tally_of-2.ensures ∙ sym (is-branch t (goal.at.read_one-returns t c).In_ok-r).1

-- ---- a run
goes : (t : _) (c : read_run-In_ok-o t)
    → GoesOn c.args.left c.args.p.at c.args.p.bytes.now c.loop-i.objects c.loop-i.i c.loop-i.spare c.in_ok-o.o
goes t c =
    run-goes-on c.args.left c.args.p.at c.args.p.bytes.now c.loop-i.objects c.loop-i.i c.loop-i.spare c.loop-i-test.true
    (part-bytes c.args.p) _ (of-part (one_answer _ _) c.behind.ensures c.in_ok-o.ensures)

pub read_run-loop-i-init : goal.read_run-loop-i-init
read_run-loop-i-init t c = (omega arith, omega arith, run-begins _ _ _ _)

pub read_run-returns-in_err-o : goal.read_run-returns-in_err-o
read_run-returns-in_err-o t c =
    let l = c.loop-i in
    handed-on c.from_residual.ensures.1 ∙ sym (l.invariant.2
    ∙ run-stops c.args.left c.args.p.at c.args.p.bytes.now l.objects l.i l.spare c.loop-i-test.true _
    (of-part (one_answer _ _) c.behind.ensures c.in_err-o.ensures))

pub read_run-overflow_add-i : goal.read_run-overflow_add-i
read_run-overflow_add-i t c = let h = goes t (goal.at.read_run-overflow_add-i t c).In_ok-o in omega arith

pub read_run-overflow_add-spare : goal.read_run-overflow_add-spare
read_run-overflow_add-spare t c = let h = goes t (goal.at.read_run-overflow_add-spare t c).In_ok-o in omega arith

pub read_run-loop-i-smaller : goal.read_run-loop-i-smaller
read_run-loop-i-smaller t c = let h = goes t (goal.at.read_run-loop-i-smaller t c).In_ok-o in omega arith

pub read_run-loop-i-preserved : goal.read_run-loop-i-preserved
read_run-loop-i-preserved t c =
    let h = goes t (goal.at.read_run-loop-i-preserved t c).In_ok-o in
    (h.1, omega arith, c.loop-i.invariant.2 ∙ h.3)

pub read_run-returns : goal.read_run-returns
read_run-returns t c =
    let l = c.loop-i in
    sym (l.invariant.2 ∙ run_ends c.args.left c.args.p.at c.args.p.bytes.now l.objects l.i l.spare l.invariant.0 c.loop-i-test.false)
