-- What a copy leaves where there is room for all of it. Assumes nothing.
use Rattle.std.proofs.Common.{◌≡◌, ℕ, ◌≤◌, min, List, ◌++◌, length, take, drop, arith}

pub copied-all : (s out w : List ℕ) (n : ℕ) → length s ≤ length out → n ≡ min (length s) (length out) → w ≡ take n s ++ drop n out
    → (n ≡ length s) × (w ≡ take (length s) s ++ drop (length s) out)
copied-all s out w n room size e =
    let all : n ≡ length s = omega arith in
    (all, rw all at e)
