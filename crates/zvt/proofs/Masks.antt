-- The masks on bytes, as the tests of the definitions. Assumes nothing.
use mathlib.Core.Path.{◌≡◌, sym, ◌∙◌}
use mathlib.Core.Bool.{true, false, not}
use Prim.Native.Nat.{ℕ, ◌*◌, ◌/◌, ◌%◌, ◌<◌, ◌≤◌}
use native.Mathlib.Omega.{arith}
use native.Mathlib.Nat.{mod-eq_of_lt}
use lib.Bits.{bit_and, and_mask, and_high}
use borrow.Author.Tests.{eqb-true, eqb-false, eq-eqb, ne_eqb, le-leb, lt-leb}
use lib.Dec.{eqb}
use Rattle.basics.proofs.Tests.{by-test}
use Rattle.zvt_rules.specs.Objects.{long_tag, top_bit, nested}
use Rattle.zvt_rules.specs.Fields.{decimal}

-- ---- the first byte of a tag and the second
pub long-tag : (b : ℕ) → bit_and b 0x1F ≡ 0x1F → long_tag b ≡ true
long-tag b h = eq-eqb (b % 32) 31 (sym (and_mask b 5) ∙ h)

pub short-tag : (b : ℕ) → (bit_and b 0x1F ≡ 0x1F → ⊥) → long_tag b ≡ false
short-tag b h = ne_eqb (b % 32) 31 (λ e. h (and_mask b 5 ∙ e))

-- the bit itself, as a test
pub run-mask : (b : ℕ) → nested b ≡ not (eqb (bit_and b 0x20) 0)
run-mask b =
    by-test (eqb (bit_and b 0x20) 0) (λ t. rw t (ne_eqb (b / 32 % 2) 1 (λ e. omega (arith, and_high b 1 5, eqb-true _ 0 t))))
    (λ t. rw t (eq-eqb (b / 32 % 2) 1 (omega (arith, and_high b 1 5, eqb-false _ 0 t))))

pub top-bit : (b : ℕ) → (bit_and b 0x80 ≡ 0 → ⊥) → top_bit b ≡ true
top-bit b h = le-leb 128 b (omega (arith, and_high b 1 7))

pub no-top-bit : (b : ℕ) → b < 256 → bit_and b 0x80 ≡ 0 → top_bit b ≡ false
no-top-bit b l h = let m : b / 128 % 2 ≡ b / 128 = mod-eq_of_lt (omega arith) in lt-leb 128 b (omega (arith, and_high b 1 7))

-- ---- the two halves of a byte
pub high_half : (b : ℕ) → b < 256 → bit_and b 0xF0 ≡ b / 16 * 16
high_half b l = let m : b / 16 % 16 ≡ b / 16 = mod-eq_of_lt (omega arith) in omega (arith, and_high b 4 4)

pub low_half : (b : ℕ) → bit_and b 0x0F ≡ b % 16
low_half b = and_mask b 4

pub undecimal-high : (b : ℕ) → b < 256 → 0x90 < bit_and b 0xF0 → decimal b ≡ false
undecimal-high b l h = rw (lt-leb (b / 16) 9 (omega (arith, high_half b l)))

pub undecimal-low : (b : ℕ) → b < 256 → bit_and b 0xF0 ≤ 0x90 → 0x09 < bit_and b 0x0F → decimal b ≡ false
undecimal-low b l h k = rw (le-leb (b / 16) 9 (omega (arith, high_half b l)), lt-leb (b % 16) 9 (omega (arith, low_half b)))

pub both-decimal : (b : ℕ) → b < 256 → bit_and b 0xF0 ≤ 0x90 → bit_and b 0x0F ≤ 0x09 → decimal b ≡ true
both-decimal b l h k = rw (le-leb (b / 16) 9 (omega (arith, high_half b l)), le-leb (b % 16) 9 (omega (arith, low_half b)))
