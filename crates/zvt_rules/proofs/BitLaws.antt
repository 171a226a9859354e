-- What the first writing asks of a byte, by the byte's bits and halves. Assumes nothing.
use mathlib.Core.Path.{◌≡◌, refl, sym, ap, ◌∙◌}
use mathlib.Core.Bool.{Bool, true, false, ◌&&◌}
use mathlib.Core.Logic.{◌↔◌}
use Prim.Native.Nat.{ℕ, ◌+◌, ◌-◌, ◌*◌, ◌/◌, ◌%◌, ◌<◌, ◌≤◌}
use native.Mathlib.Omega.{arith}
use lib.Dec.{eqb}
use borrow.Author.Tests.{le-leb, eqb-true}
use Rattle.zvt_rules.specs.Objects.{long_tag, top_bit, nested}
use Rattle.zvt_rules.specs.Fields.{length_digit, decimal}
use Rattle.zvt_rules.specs.believed.Digits.{bit, byte_of, TagBits, Halves, LengthDigit}
use Rattle.basics.proofs.Tests.{leb-test, eqb-test, and-test, same_test, all_from, at_from}

-- ---- the bits of a tag
bit-low : (b : Bool) → bit b ≤ 1
bit-low true = omega arith
bit-low false = omega arith

bit_test : (b : Bool) → (b ≡ true) ↔ (bit b ≡ 1)
bit_test true = (λ e. refl, λ e. refl)
bit_test false = (λ e. absurd (omega (arith, ap bit e)), λ e. absurd (omega arith))

-- what the tests say of a byte by its bits
module _ (b7 b6 b5 b4 b3 b2 b1 b0 : Bool) where
  c : ℕ
  c = byte_of b7 b6 b5 b4 b3 b2 b1 b0

  low : (bit b7 ≤ 1) × (bit b6 ≤ 1) × (bit b5 ≤ 1) × (bit b4 ≤ 1) × (bit b3 ≤ 1) × (bit b2 ≤ 1) × (bit b1 ≤ 1) × (bit b0 ≤ 1)
  low = (bit-low b7, bit-low b6, bit-low b5, bit-low b4, bit-low b3, bit-low b2, bit-low b1, bit-low b0)

  long-bits : (b4 && b3 && b2 && b1 && b0) ≡ long_tag c
  unfolding c
  long-bits =
      let l = low in
      let t = eqb-test (c % 32) 31 in
      same_test (and-test (and-test (and-test (and-test (bit_test b4) (bit_test b3)) (bit_test b2)) (bit_test b1)) (bit_test b0))
      (λ e. let h = t.0 e in ((((omega arith, omega arith), omega arith), omega arith), omega arith), λ k. t.1 (omega arith))

  top-bits : b7 ≡ top_bit c
  unfolding c
  top-bits = let l = low in same_test (bit_test b7) (λ e. let h = (leb-test 128 c).0 e in omega arith, λ e. le-leb 128 c (omega arith))

  nested-bits : b5 ≡ nested c
  unfolding c
  nested-bits =
      let l = low in
      let t = eqb-test (c / 32 % 2) 1 in
      same_test (bit_test b5) (λ e. let h = t.0 e in omega arith, λ e. t.1 (omega arith))

-- every byte has bits, by computing; the one that weighs k
abbrev bit_at : ℕ → ℕ → Bool
bit_at k b = eqb (b / k % 2) 1

bits_of : ℕ → ℕ
bits_of b = byte_of (bit_at 128 b) (bit_at 64 b) (bit_at 32 b) (bit_at 16 b) (bit_at 8 b) (bit_at 4 b) (bit_at 2 b) (bit_at 1 b)

has-bits : (b : ℕ) → b < 256 → b ≡ bits_of b
unfolding all_from bits_of
has-bits b h = eqb-true b (bits_of b) (at_from (λ c. eqb c (bits_of c)) 0 256 refl b (omega arith) h)

abbrev Tested : ℕ → Bool → Bool → Bool → Type 0
Tested b long top run = (long ≡ long_tag b) × (top ≡ top_bit b) × (run ≡ nested b)

bits-tested : (b : ℕ) (long top run : Bool) → TagBits b long top run → Tested b long top run
unfolding TagBits c
bits-tested b long top run (b6, b4, b3, b2, b1, b0, e, l) =
    rw e (l ∙ long-bits top b6 run b4 b3 b2 b1 b0, top-bits top b6 run b4 b3 b2 b1 b0, nested-bits top b6 run b4 b3 b2 b1 b0)

-- O3 to O5: the tests say of each byte what its bits say, and nothing else
pub tag-bits : (b : ℕ) (long top run : Bool) → b < 256 → TagBits b long top run ↔ Tested b long top run
unfolding TagBits bits_of
tag-bits b long top run h = (bits-tested b long top run, λ k. rw (k.0 ∙ sym own.0, k.1 ∙ sym own.1, k.2 ∙ sym own.2) bits)
  where
    bits : TagBits b (bit_at 16 b && bit_at 8 b && bit_at 4 b && bit_at 2 b && bit_at 1 b) (bit_at 128 b) (bit_at 32 b)
    bits = (bit_at 64 b, bit_at 16 b, bit_at 8 b, bit_at 4 b, bit_at 2 b, bit_at 1 b, has-bits b h, refl)

    own : Tested b (bit_at 16 b && bit_at 8 b && bit_at 4 b && bit_at 2 b && bit_at 1 b) (bit_at 128 b) (bit_at 32 b)
    own = bits-tested b _ _ _ bits

-- ---- the halves of a digit byte, and length digits
-- F5
pub decimal-exactly : (b : ℕ) → (decimal b ≡ true) ↔ ((v : ℕ) × Halves b v)
decimal-exactly b =
    let t = and-test (leb-test (b / 16) 9) (leb-test (b % 16) 9) in (
      λ e. let k = t.0 e in (b / 16 * 10 + b % 16, (b / 16, b % 16, k.0, k.1, omega arith, refl)),
      λ k. t.1 (omega arith, omega arith),
    )

-- F3
pub digit-exactly : (b : ℕ) → (length_digit b ≡ true) ↔ ((d : ℕ) × LengthDigit b d)
digit-exactly b =
    let t = and-test (leb-test 0xF0 b) (leb-test b 0xF9) in (
      λ e. let k = t.0 e in (b - 0xF0, (omega arith, omega arith)),
      λ k. t.1 (omega arith, omega arith),
    )
