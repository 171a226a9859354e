-- `notation::put_bytes`: pair by pair. Assumes nothing.
use Rattle.std.proofs.Common.{arith, ◌≡◌, ◌∙◌, ◌<◌, ◌≤◌, sym, ap, length, length-set}
use Rattle.basics.specs.Text.{Text, add_all}
use Rattle.basics.proofs.Text.{put_whole}
use Rattle.words.specs.Notation.{pairs_of}
use Rattle.words.proofs.NotationLaws.{First, first_pair, no_pair, first_added, written}
use Rattle.words.proofs.notation.put_bytes.Goals as goal
use Rattle.words.proofs.notation.put_bytes.Goals.{In-Some}

pub loop-k-init : goal.loop-k-init
loop-k-init c =
    let w = c.args.w.now in
    let all = written w c.args.out.now c.requires in
    let room : length (pairs_of w) ≤ length c.args.out.now = rw all.0 at c.requires in
    let rest : c.into_iter-k-iterator.result.iter.rest.now ≡ w = cc in
    let first : c.into_iter-k-iterator.result.count ≡ 0 = cc in
    record { in_twos = cc; hex = rw rest all.1; room = rw (rest, first) (omega arith); same = rw (rest, first) }

next_pair : (c : In-Some) → First c.in-Some.pair.now c.next.new.self.iter.rest.now c.loop-k.k-iterator.iter.rest.now
next_pair c =
    let step = c.in-Some.ensures.steps.0 in
    first_pair _ _ _ step.1.0 (step.1.1 ∙ c.loop-k.invariant.in_twos) c.loop-k.invariant.hex

pub byte-requires : goal.byte-requires
byte-requires c = let p = next_pair (goal.at.byte-requires c).In-Some in (p.high, p.low)

pub bounds-out-k : goal.bounds-out-k
bounds-out-k c =
    let p = next_pair (goal.at.bounds-out-k c).In-Some in
    omega (arith, ap length p.is, c.in-Some.ensures.steps)

pub loop-k-preserved : goal.loop-k-preserved
loop-k-preserved c =
    let p = next_pair (goal.at.loop-k-preserved c).In-Some in
    let at = c.in-Some.ensures.steps in
    let here = c.loop-k.invariant in
    let inside : c.in-Some.k < length c.loop-k.out = omega (arith, ap length p.is, at) in
    record {
      in_twos = at.0.0 ∙ here.in_twos;
      hex = p.behind;
      room = simp length-set (omega (arith, ap length p.is, at));
      same = rw (at.2, at.1, c.byte.ensures) (sym (first_added _ _ _ _ (rw at.1 at inside)) ∙ rw p.is at here.same);
    }

pub returns : goal.returns
unfolding add_all
returns c =
    let w = c.args.w.now in
    let was = c.args.out.now in
    let all = written w was c.requires in
    let none = no_pair c.loop-k.k-iterator.iter.rest.now (omega (arith, c.in-None.ensures.steps)) in
    let whole = rw none at c.loop-k.invariant.same ∙ put_whole (pairs_of w) was (rw all.0 at c.requires) in
    rw all.0 (ap (λ (t : Text). t.bytes) whole)
