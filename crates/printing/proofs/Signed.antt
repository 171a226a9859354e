-- A signed number and its text. Assumes nothing.
use mathlib.Core.Path.{◌≡◌, refl}
use mathlib.Core.Bool.{true, false}
use mathlib.Core.List.{[], ◌∷◌, ◌++◌}
use Prim.Native.Nat.{ℕ, suc, ◌≤◌}
use native.Mathlib.Omega.{arith}
use borrow.Author.Tests.{ltb-true}
use lib.IntN.{ℤ, pos, negsuc, nat_abs}
use lib.ListN.{length, length-append}
use lib.Signed.{lt_z}
use mir.Syntax.{w64}
use mir.Val.{SFits, to_z, of_z}
use mir.ValLaws.{to_z-of_z}
use Rattle.basics.specs.Text.{decimal_text}
use Rattle.basics.proofs.Tests.{never}
use Rattle.printing.specs.Desks.{signed_text}
use Rattle.printing.proofs.Lengths.{number-long}

-- a number as it is read back from its bits
abbrev pub back : ℤ → ℤ
back z = to_z w64 (of_z w64 z)

module _ (z : ℤ) (f : SFits w64 z) where
  pub below : lt_z (back z) (pos 0) ≡ true → (k : ℕ) × (z ≡ negsuc k)
  below t = go z refl (rw (to_z-of_z w64 z f) at t)
    where
      go : (y : ℤ) → z ≡ y → lt_z y (pos 0) ≡ true → (k : ℕ) × (z ≡ negsuc k)
      go (pos n) e t = absurd (omega (arith, ltb-true n 0 t))
      go (negsuc k) e t = (k, e)

  pub not-below : lt_z (back z) (pos 0) ≡ false → (n : ℕ) × (z ≡ pos n)
  not-below t = go z refl (rw (to_z-of_z w64 z f) at t)
    where
      go : (y : ℤ) → z ≡ y → lt_z y (pos 0) ≡ false → (n : ℕ) × (z ≡ pos n)
      go (pos n) e t = (n, e)
      go (negsuc k) e t = never (cc)

  pub signed_below : lt_z (back z) (pos 0) ≡ true → signed_text z ≡ 45 ∷ (decimal_text (nat_abs z) ++ (10 ∷ []))
  unfolding signed_text
  signed_below t = let (k, e) = below t in rw e

  pub signed-other : lt_z (back z) (pos 0) ≡ false → signed_text z ≡ decimal_text (nat_abs z) ++ (10 ∷ [])
  unfolding signed_text
  signed-other t = let (n, e) = not-below t in rw e

pub signed-long : (z : ℤ) → SFits w64 z → length (signed_text z) ≤ 64
unfolding signed_text
signed-long (pos n) f = simp length-append (omega (arith, number-long n (omega (arith, f.sfits))))
signed-long (negsuc k) f = simp length-append (omega (arith, number-long (suc k) (omega (arith, f.sfits))))
