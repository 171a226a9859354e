-- `put` meets its contract: a copy to the last part of the buffer. Assumes nothing.
use mathlib.Core.Path.{refl, ap, ◌∙◌}
use mathlib.Core.List.{List, ◌++◌}
use Prim.Native.Nat.{ℕ, ◌-◌}
use lib.ListN.{length, take, drop, length-take, length-drop}
use native.Mathlib.Omega.{arith}
use Rattle.buffers.proofs.Copies.{copied-all}
use Rattle.zvt.proofs.Back.{put-copied}
use Rattle.zvt.proofs.writing.put.Goals as goal

pub returns : goal.returns
returns c =
    let v = c.args.v.now in
    let d = c.args.out.now in
    let at = length d - length v in
    record {
      rest = refl;
      done =
          ap (λ (y : List ℕ). take at d ++ (y ++ drop (length d - at) (drop at d))) (copied-all v (take (length d - at) (drop at d)) _ _ (omega (arith, length-take (length d - at) (drop at d), length-drop at d)) c.copy.ensures.size c.copy.ensures.bytes).1
          ∙ put-copied v d c.requires;
    }
