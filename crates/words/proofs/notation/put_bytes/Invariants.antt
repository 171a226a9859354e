-- `notation::put_bytes`. The invariant: what is left to write behind the first k bytes comes to the same, and there is room for it. Assumes nothing.
use Rattle.std.proofs.Common.{◌≡◌, ◌+◌, ◌≤◌, length}
use Rattle.basics.specs.Text.{text, add_all}
use Rattle.words.specs.Notation.{pairs_of}
use Rattle.words.proofs.NotationLaws.{AllPairs}
use Rattle.words.proofs.notation.put_bytes.Given as goal

abbrev pub invariant-loop-k : goal.invariant-loop-k
invariant-loop-k l =
    let rest = l.k-iterator.iter.rest.now in
    let k = l.k-iterator.count in
    record {
      in_twos : l.k-iterator.iter.size ≡ 2;
      hex : AllPairs rest;
      room : k + length (pairs_of rest) ≤ length l.out;
      same : add_all (pairs_of rest) (text k l.out) ≡ add_all (pairs_of l.w) (text 0 l.initial.out);
    }
