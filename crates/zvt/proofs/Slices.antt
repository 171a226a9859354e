-- What is known of a slice of bytes. Assumes nothing.
use Prim.Native.Nat.{ℕ}
use mathlib.Core.List.{List}
use native.Mathlib.Omega.{arith}
use lib.ListN.{get_or}
use mir.Val.{Fits}
use mir.Syntax.{w8}
use Rattle.basics.specs.believed.Lists.{Bytes}

pub bytes-known : (s : List ℕ) → ((i : ℕ) → Fits w8 (get_or s i 0)) → Bytes s
unfolding Bytes
bytes-known s h i = omega (arith, h i)
