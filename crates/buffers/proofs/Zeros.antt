-- A buffer of zeros has its length by a law: to count its bytes takes seconds. Assumes nothing.
use mathlib.Core.Path.{◌≡◌, sym}
use Prim.Native.Nat.{ℕ}
use lib.ListN.{length, replicate, length-replicate}

pub zeros-size : (n : ℕ) → n ≡ length {A = ℕ} (replicate n 0)
zeros-size n = sym (length-replicate {A = ℕ} n 0)
