-- `zvt::digits::short_number` meets its contract: two bytes are at most 16665, digits or not. Assumes nothing.
use mathlib.Core.List.{List, [], ◌∷◌}
use Prim.Native.Nat.{ℕ, ◌≤◌}
use native.Mathlib.Omega.{arith}
use lib.ListN.{length}
use Rattle.zvt_rules.specs.Digits.{decimal_from, number_of}
use Rattle.basics.specs.believed.Lists.{Bytes}
use Rattle.zvt.proofs.Slices.{bytes-known}
use Rattle.zvt.proofs.digits.short_number.Goals as goal

two-small : (s : List ℕ) → Bytes s → length s ≤ 2 → number_of s ≤ 16665
unfolding number_of decimal_from Bytes
two-small [] h l = omega arith
two-small (a ∷ []) h l = omega (arith, h 0)
two-small (a ∷ (b ∷ [])) h l = omega (arith, h 0, h 1)
two-small (a ∷ (b ∷ (c ∷ s))) h l = absurd (omega arith)

pub overflow_cast-result : goal.overflow_cast-result
overflow_cast-result c =
    let s = c.args.s.now in
    omega (arith, c.number.ensures, two-small s (bytes-known s c.type_inv.s) c.requires)
