-- `buffers::add_bytes`. The invariant: what is left to add comes to the same. Assumes nothing.
use Rattle.std.proofs.Common.{◌≡◌, drop}
use Rattle.basics.specs.Text.{text, add_all, hexes}
use Rattle.buffers.proofs.add_bytes.Given as goal

abbrev pub invariant-loop-b : goal.invariant-loop-b
invariant-loop-b l = add_all (hexes (drop l.b-index l.v)) (text l.to l.out) ≡ add_all (hexes l.v) (text l.at l.initial.out)
