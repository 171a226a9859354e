-- Decimal numbers in bytes: what is written reads back, and how large it can be. Assumes nothing.
use mathlib.Core.Path.{◌≡◌, refl, sym, ap, ◌∙◌}
use mathlib.Core.Bool.{true}
use mathlib.Core.List.{List, [], ◌∷◌, ◌++◌, append_assoc}
use Prim.Native.Nat.{ℕ, zero, suc, ◌+◌, ◌*◌, ◌/◌, ◌%◌, ◌^◌, ◌<◌, ◌≤◌}
use native.Mathlib.Numerals.{add-one}
use native.Mathlib.Nat.{pow-succ', one-le-pow, pow-le-pow_right, div-add-mod', mod-eq_of_lt, mod-one, mod-lt, mul-le-mul_right, add-mul-mod_self_left}
use native.Mathlib.Omega.{arith}
use lib.ListN.{length, get_or, drop, set, length-append, drop_of_length-le}
use lib.Seq.{drop-cons, drop-set-lt, get_or-set_same, lt-length-set}
use borrow.Author.Tests.{le-leb}
use Rattle.zvt_rules.specs.Fields.{decimal}
use Rattle.zvt_rules.specs.believed.Grammar.{Decimals}
use Rattle.zvt_rules.specs.Digits.{two_digits, digit_bytes_of, decimal_from, number_of}
use Rattle.basics.proofs.Tests.{leb-test, and-test}

pub digits-size : (k n : ℕ) → length (digit_bytes_of k n) ≡ k
unfolding digit_bytes_of
digits-size zero n = refl
digits-size (suc k) n = omega (arith, length-append (digit_bytes_of k (n / 100)) (two_digits (n % 100) ∷ []), digits-size k (n / 100))

-- the i-th byte is put where it belongs, and with it stands all from there on
pub digits-put : (out : List ℕ) (i v : ℕ) → i < length out
    → digit_bytes_of (suc i) v ++ drop (suc i) out ≡ digit_bytes_of i (v / 100) ++ drop i (set out i (two_digits (v % 100)))
unfolding digit_bytes_of
digits-put out i v h =
    let b = two_digits (v % 100) in
    rw (append_assoc, drop-cons (set out i b) i 0 (lt-length-set out i b h), get_or-set_same out i b 0 h, drop-set-lt (suc i) out i b (omega arith))

-- ---- read back
number-last : (v : ℕ) (s : List ℕ) (b : ℕ) → decimal_from v (s ++ (b ∷ [])) ≡ decimal_from v s * 100 + (b / 16 * 10 + b % 16)
unfolding decimal_from
number-last v [] b = refl
number-last v (a ∷ s) b = number-last (v * 100 + (a / 16 * 10 + a % 16)) s b

last_digits : (n p : ℕ) → 0 < p → n / 100 % p * 100 + n % 100 ≡ n % (100 * p)
last_digits n p h =
    let m = n / 100 in
    let last = m % p * 100 + n % 100 in
    let whole : n ≡ last + 100 * p * (m / p) = omega (arith, div-add-mod' m p) in
    let below : last < 100 * p = omega (arith, mod-lt m h) in
    sym (ap (λ (x : ℕ). x % (100 * p)) whole ∙ add-mul-mod_self_left last (100 * p) (m / p) ∙ mod-eq_of_lt below)

pub number-back : (k n : ℕ) → number_of (digit_bytes_of k n) ≡ n % 100 ^ k
unfolding digit_bytes_of number_of decimal_from
number-back zero n = sym (mod-one n)
number-back (suc k) n =
    let two : two_digits (n % 100) / 16 * 10 + two_digits (n % 100) % 16 ≡ n % 100 = omega arith in
    number-last 0 (digit_bytes_of k (n / 100)) (two_digits (n % 100))
    ∙ rw (two, number-back k (n / 100), pow-succ') (last_digits n (100 ^ k) (one-le-pow k 100 (omega arith)))

pub number_same : (k n : ℕ) → n < 100 ^ k → number_of (digit_bytes_of k n) ≡ n
number_same k n h = number-back k n ∙ mod-eq_of_lt h

-- ---- decimal digits
decimal-two : (v : ℕ) → v < 100 → decimal (two_digits v) ≡ true
decimal-two v h = rw (le-leb (two_digits v / 16) 9 (omega arith), le-leb (two_digits v % 16) 9 (omega arith))

decimals-last : (s : List ℕ) (b : ℕ) → Decimals s → decimal b ≡ true → Decimals (s ++ (b ∷ []))
unfolding Decimals
decimals-last [] b h d = (d, tt)
decimals-last (a ∷ s) b h d = (h.0, decimals-last s b h.1 d)

pub digits_decimal : (k n : ℕ) → Decimals (digit_bytes_of k n)
unfolding digit_bytes_of Decimals
digits_decimal zero n = tt
digits_decimal (suc k) n = decimals-last (digit_bytes_of k (n / 100)) (two_digits (n % 100)) (digits_decimal k (n / 100)) (decimal-two (n % 100) (omega arith))

number-from : (v : ℕ) (s : List ℕ) → Decimals s → decimal_from v s < (v + 1) * 100 ^ length s
unfolding decimal_from Decimals
number-from v [] h = omega arith
number-from v (b ∷ s) h =
    let d = (and-test (leb-test (b / 16) 9) (leb-test (b % 16) 9)).0 h.0 in
    let two = b / 16 * 10 + b % 16 in
    let more : v * 100 + two + 1 ≤ (v + 1) * 100 = omega arith in
    rw pow-succ' (omega (arith, number-from (v * 100 + two) s h.1, mul-le-mul_right (100 ^ length s) more))

pub number-below : (s : List ℕ) → Decimals s → number_of s < 100 ^ length s
unfolding number_of
number-below s h = omega (arith, number-from 0 s h)

-- ---- one byte after the other: the first i bytes gave v
pub number_step : (s : List ℕ) (i v : ℕ) → i < length s
    → decimal_from v (drop i s) ≡ decimal_from (v * 100 + (get_or s i 0 / 16 * 10 + get_or s i 0 % 16)) (drop (i + 1) s)
unfolding decimal_from
number_step s i v h = rw (drop-cons s i 0, add-one i)

pub number-end : (s : List ℕ) (i v : ℕ) → length s ≤ i → decimal_from v (drop i s) ≡ v
unfolding decimal_from
number-end s i v h = rw (drop_of_length-le s h)

-- how large v can be then, digits or not
abbrev pub Small : ℕ → ℕ → Type 0
Small i v = v + 2 ≤ 2 * 100 ^ i

pub small-step : (i v b : ℕ) → b < 256 → Small i v → Small (i + 1) (v * 100 + (b / 16 * 10 + b % 16))
small-step i v b h l = rw (add-one i, pow-succ') (omega arith)

pub small-six : (i v : ℕ) → i < 6 → Small i v → v < 2 * 100 ^ 5
small-six i v h l = omega (arith, pow-le-pow_right {n = 100} (omega arith) {i = i} {j = 5} (omega arith))
