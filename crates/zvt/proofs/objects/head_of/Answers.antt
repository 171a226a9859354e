-- `zvt::objects::head_of` meets its contract. Assumes nothing.
use Rattle.std.proofs.Common.{get_or, sym, ◌∙◌, arith}
use Rattle.basics.proofs.Exits.{handed-on}
use Rattle.zvt.specs.ObjectSteps.{len_answer}
use Rattle.zvt.proofs.Masks.{run-mask}
use Rattle.zvt.proofs.Parts.{of-part}
use Rattle.zvt.proofs.ObjectLaws.{tag-within, Started, head-no-tag, head-no-length, head-starts}
use Rattle.zvt.proofs.objects.head_of.Goals.{In_ok-size}
use Rattle.zvt.proofs.objects.head_of.Goals as goal

-- what the two calls found
started : (c : In_ok-size) → Started c.args.p.at c.in_ok-tag.tag c.in_ok-size.size c.in_ok-size.v c.args.p.bytes.now
started c =
    head-starts _ _ _ (sym c.in_ok-tag.ensures) _ _ (of-part len_answer c.behind.ensures c.in_ok-size.ensures)

pub returns-in_err-tag : goal.returns-in_err-tag
returns-in_err-tag c = handed-on c.from_residual.ensures.1 ∙ sym (head-no-tag _ _ _ (sym c.in_err-tag.ensures))

pub behind-requires : goal.behind-requires
behind-requires c = (tag-within _ _ _ (sym c.in_ok-tag.ensures)).1

pub returns-in_err-size : goal.returns-in_err-size
returns-in_err-size c =
    handed-on c.from_residual-in_err-size.ensures.1
    ∙ sym (head-no-length _ _ _ (sym c.in_ok-tag.ensures) _ (of-part len_answer c.behind.ensures c.in_err-size.ensures))

pub overflow_add-tag : goal.overflow_add-tag
overflow_add-tag c = let h = started (goal.at.overflow_add-tag c).In_ok-size in omega arith

pub bounds-p-0 : goal.bounds-p-0
bounds-p-0 c = let h = started (goal.at.bounds-p-0 c).In_ok-size in omega arith

pub bounds_in-requires : goal.bounds_in-requires
bounds_in-requires c = (started (goal.at.bounds_in-requires c).In_ok-size).start

pub returns : goal.returns
returns c = (started (goal.at.returns c).In_ok-size).answer (run-mask (get_or c.args.p.bytes.now 0 0)) c.bounds_in.ensures
