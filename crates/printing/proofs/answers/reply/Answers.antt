-- `printing::answers::reply`: the room first, then the answer. Assumes nothing.
use mathlib.Core.Path.{◌≡◌, sym, ap, ◌∙◌}
use mathlib.Core.Bool.{Bool}
use mathlib.Core.List.{List}
use Prim.Native.Nat.{ℕ}
use native.Mathlib.Omega.{arith}
use lib.ListN.{take}
use Rattle.std.proofs.Common.{Result, rules}
use Rattle.printing.specs.Answers.{size_of, changed_behind, ok_text, reply_text}
use Rattle.printing.proofs.Prints.{printed, roomier, alike, take-upto}
use Rattle.printing.proofs.Lengths.{ok-long}
use Rattle.printing.proofs.answers.reply.Goals as goal
use Rattle.zvt_rules.specs.declared.Refusal.{Refusal}

-- what the test of the room says
judged : (r : Result ℕ Refusal) (lent : List ℕ) {n : ℕ} {behind is : Bool} → n ≡ size_of r → behind ≡ changed_behind n lent → behind ≡ is
    → changed_behind (size_of r) lent ≡ is
judged r lent size test is = ap (λ (n : ℕ). changed_behind n lent) (sym size) ∙ (sym test ∙ is)

pub returns-then-changed : goal.returns-then-changed
unfolding reply_text
returns-then-changed c =
    let size : c.unwrap_or.result ≡ size_of c.args.r = search rules in
    rw (judged c.args.r c.args.lent.now size c.changed.ensures c.if-changed.true)
    (printed _ _ _ (omega arith) c.add_all.ensures)

pub returns-in-Ok : goal.returns-in-Ok
unfolding reply_text
returns-in-Ok c =
    let size : c.unwrap_or.result ≡ size_of c.args.r = search rules in
    let lent = c.args.lent.now in
    let n = c.in-Ok.size in
    let part = ap (λ (k : ℕ). take k lent) c.upto-end.ensures.least ∙ take-upto n lent in
    rw (judged c.args.r lent size c.changed.ensures c.if-changed.false, c.in-Ok.is)
    (printed _ _ _ (ok-long n lent) (alike _ _ _ (ap ok_text part) c.written.ensures))

pub returns-in-Err : goal.returns-in-Err
unfolding reply_text
returns-in-Err c =
    let size : c.unwrap_or.result ≡ size_of c.args.r = search rules in
    rw (judged c.args.r c.args.lent.now size c.changed.ensures c.if-changed.false, c.in-Err.is)
    (roomier (omega arith) c.refused.ensures)
