-- `zvt::digits::digit_bytes` meets its contract: two digits at a time are put, from the last byte on. Assumes nothing.
use lib.ListN.{length-set}
use Rattle.std.proofs.Common.{◌≡◌, sym, ◌∙◌, suc, ◌-◌, ◌<◌, arith, length}
use Rattle.zvt_rules.specs.Digits.{digit_bytes_of}
use Rattle.zvt_rules.proofs.DigitLaws.{digits-put}
use Rattle.zvt.proofs.digits.digit_bytes.Goals as goal

pub loop-i-preserved : goal.loop-i-preserved
loop-i-preserved g c =
    let l = c.loop-i in
    let i = l.i - 1 in
    let e : l.i ≡ suc i = omega arith in
    let fits : i < length l.b = omega (arith, l.invariant.0) in
    (simp length-set l.invariant.0, sym (digits-put l.b i l.v fits) ∙ rw (← e) l.invariant.1)

pub returns : goal.returns
unfolding digit_bytes_of
returns g c = let l = c.loop-i in let e : l.i ≡ 0 = omega arith in rw e at l.invariant.1
