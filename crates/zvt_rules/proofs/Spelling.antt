-- The numbers that bytes spell: what is written and what is read of them is what their digits weigh. Assumes nothing.
use mathlib.Core.Path.{◌≡◌, refl, sym, ap, ap₂, ◌∙◌}
use mathlib.Core.Bool.{Bool, true, false}
use mathlib.Core.Logic.{◌↔◌}
use mathlib.Core.List.{List, [], ◌∷◌, ◌++◌}
use Prim.Native.Nat.{ℕ, zero, suc, ◌+◌, ◌*◌, ◌/◌, ◌%◌, ◌^◌, ◌<◌, ◌≤◌}
use native.Mathlib.Nat.{pow-zero, pow-succ', mul-le-mul_right, mul-add-div_right, mul-add-mod_self_right, div-eq_of_lt, mod-eq_of_lt}
use native.Mathlib.Omega.{arith}
use lib.ListN.{length, take, drop, length-append, take-append-drop}
use lib.Seq.{length-take-le}
use Rattle.zvt_rules.specs.Reading.{got}
use Rattle.zvt_rules.specs.Objects.{Form, bare, one, two}
use Rattle.zvt_rules.specs.Fields.{digits_of}
use Rattle.zvt_rules.specs.believed.Writing.{len_bytes, digit_bytes, length_bytes}
use Rattle.zvt_rules.specs.believed.Grammar.{FormOk, Decimals, LengthOk}
use Rattle.zvt_rules.specs.Digits.{digit_bytes_of, decimal_from, number_of}
use Rattle.zvt_rules.specs.believed.Digits.{Halves, LengthDigit, Number, Spells, Says, SaysLength, SaysBody}
use Rattle.zvt_rules.proofs.BitLaws.{decimal-exactly}
use Rattle.zvt_rules.proofs.FieldReading.{digits-in}
use Rattle.zvt_rules.proofs.FieldBytes.{digit_bytes-size, digits-written, digits-sound}
use Rattle.zvt_rules.proofs.DigitLaws.{digits-size, number-back, digits_decimal}

-- what stands before a place and behind it, of one number
parted : (p d m e n : ℕ) → m < p → n < p → d * p + m ≡ e * p + n → (d ≡ e) × (m ≡ n)
parted p d m e n h k q =
    let over : 0 < p = omega arith in
    let high : (x y : ℕ) → y < p → (x * p + y) / p ≡ x = λ x y l. mul-add-div_right over x y ∙ rw (div-eq_of_lt l) (omega arith) in
    let low : (x y : ℕ) → y < p → (x * p + y) % p ≡ y = λ x y l. mul-add-mod_self_right x p y ∙ mod-eq_of_lt l in
    (sym (high d m h) ∙ ap (λ (x : ℕ). x / p) q ∙ high e n k, sym (low d m h) ∙ ap (λ (x : ℕ). x % p) q ∙ low e n k)

-- ---- digits of any kind
module _ (Digit : ℕ → ℕ → Type 0) (base : ℕ) (below : (b d : ℕ) → Digit b d → d < base) where
  number-under : (s : List ℕ) (n : ℕ) → Number Digit base s n → n < base ^ length s
  unfolding Number
  number-under [] n e = omega (arith, pow-zero base)
  number-under (b ∷ s) n (d, m, k, e, r) =
      rw pow-succ' (omega (arith, number-under s m r, mul-le-mul_right (base ^ length s) (below b d k)))

  -- one digit more, behind
  number-last : (s : List ℕ) (a b d : ℕ) → Number Digit base s a → Digit b d → Number Digit base (s ++ (b ∷ [])) (a * base + d)
  unfolding Number
  number-last [] a b d e k = (d, 0, k, rw (e, pow-zero) (omega arith), refl)
  number-last (c ∷ s) a b d (x, m, j, e, r) k =
      let size : length (s ++ (b ∷ [])) ≡ suc (length s) = omega (arith, length-append s (b ∷ [])) in
      (x, m * base + d, j, rw (e, size, pow-succ') (omega arith), number-last s m b d r k)

  -- a number is spelt in one way
  number-one : ((b c d : ℕ) → Digit b d → Digit c d → b ≡ c) → (s t : List ℕ) (n : ℕ) → Number Digit base s n → Number Digit base t n
      → length s ≡ length t → s ≡ t
  unfolding Number
  number-one same [] [] n r q l = refl
  number-one same [] (c ∷ t) n r q l = absurd (omega arith)
  number-one same (b ∷ s) [] n r q l = absurd (omega arith)
  number-one same (b ∷ s) (c ∷ t) n (d, m, j, e, r) (x, y, k, f, q) l =
      let size : length s ≡ length t = omega arith in
      let under : y < base ^ length s = rw size (number-under t y q) in
      let one = parted (base ^ length s) d m x y (number-under s m r) under (sym e ∙ f ∙ rw size) in
      ap₂ (λ (h : ℕ) (u : List ℕ). h ∷ u) (same b c d j (rw one.0 k)) (number-one same s t m r (rw one.1 q) size)

-- ---- two decimal digits to a byte
halves-below : (b d : ℕ) → Halves b d → d < 100
halves-below b d k = omega arith

halves-one : (b c d : ℕ) → Halves b d → Halves c d → b ≡ c
halves-one b c d j k = omega arith

weighs : (v : ℕ) (s : List ℕ) → decimal_from v s ≡ v * 100 ^ length s + decimal_from 0 s
unfolding decimal_from
weighs v [] = omega arith
weighs v (b ∷ s) =
    let two = b / 16 * 10 + b % 16 in
    rw pow-succ' (omega (arith, weighs (v * 100 + two) s, weighs (0 * 100 + two) s))

number-first : (b d : ℕ) (s : List ℕ) → Halves b d → number_of (b ∷ s) ≡ d * 100 ^ length s + number_of s
unfolding number_of decimal_from
number-first b d s k = let two : 0 * 100 + (b / 16 * 10 + b % 16) ≡ d = omega arith in rw two (weighs d s)

spelt-read : (s : List ℕ) (n : ℕ) → Spells s n → Decimals s × (number_of s ≡ n)
unfolding Number Decimals number_of decimal_from
spelt-read [] n e = (tt, sym e)
spelt-read (b ∷ s) n (d, m, k, e, r) =
    let i = spelt-read s m r in (((decimal-exactly b).1 (d, k), i.0), number-first b d s k ∙ rw i.1 (sym e))

read-spelt : (s : List ℕ) → Decimals s → Spells s (number_of s)
unfolding Number Decimals number_of decimal_from
read-spelt [] h = refl
read-spelt (b ∷ s) h = let k = (decimal-exactly b).0 h.0 in (k.0, number_of s, k.1, number-first b k.0 s k.1, read-spelt s h.1)

-- F5, P14: bytes spell a number exactly where all are decimal and it is the one read
pub spells-exactly : (s : List ℕ) (n : ℕ) → Spells s n ↔ (Decimals s × (number_of s ≡ n))
spells-exactly s n = (spelt-read s n, λ k. rw (← k.1) (read-spelt s k.0))

-- P14: the bytes written spell the last digits of a number, and no others of that many do
pub digits-spell : (k n : ℕ) → Spells (digit_bytes_of k n) (n % 100 ^ k)
digits-spell k n = (spells-exactly (digit_bytes_of k n) (n % 100 ^ k)).1 (digits_decimal k n, number-back k n)

pub spelt-once : (s : List ℕ) (n : ℕ) → Spells s n → s ≡ digit_bytes_of (length s) n
spelt-once s n h =
    let k = length s in
    let own : Spells (digit_bytes_of k n) n = rw (mod-eq_of_lt (number-under Halves 100 halves-below s n h)) at (digits-spell k n) in
    number-one Halves 100 halves-below halves-one s (digit_bytes_of k n) n h own (sym (digits-size k n))

-- ---- length digits
digit-below : (b d : ℕ) → LengthDigit b d → d < 10
digit-below b d k = omega arith

digit-one : (b c d : ℕ) → LengthDigit b d → LengthDigit c d → b ≡ c
digit-one b c d j k = omega arith

-- F3: the digits written say the length, and no others of that many do
pub digits-say : (d v : ℕ) → v < 10 ^ d → Says (digit_bytes d v) v
unfolding digit_bytes Number
digits-say zero v h = omega arith
digits-say (suc d) v h =
    let less : v / 10 < 10 ^ d = omega (arith, rw (pow-succ' 10 d) at h) in
    let whole : v / 10 * 10 + v % 10 ≡ v = omega arith in
    let front = digits-say d (v / 10) less in
    rw whole at (number-last LengthDigit 10 digit-below (digit_bytes d (v / 10)) (v / 10) (0xF0 + v % 10) (v % 10) front (omega arith, refl))

pub said-once : (s : List ℕ) (v : ℕ) → Says s v → (v < 10 ^ length s) × (s ≡ digit_bytes (length s) v)
said-once s v k =
    let less = number-under LengthDigit 10 digit-below s v k in
    let own = digits-say (length s) v less in
    (less, number-one LengthDigit 10 digit-below digit-one s (digit_bytes (length s) v) v k own (sym (digit_bytes-size (length s) v)))

-- d length digits are read as the number that they say, and only they
pub says-exactly : (d at : ℕ) (s : List ℕ) (v : ℕ) → (digits_of d 0 at s ≡ got v) ↔ ((d ≤ length s) × Says (take d s) v)
says-exactly d at s v = (to, λ k. from k.0 k.1)
  where
    to : digits_of d 0 at s ≡ got v → (d ≤ length s) × Says (take d s) v
    to e = let i = digits-in d 0 at s v e in (i.0, rw (← (digits-sound d 0 at s v e)) (digits-say d v (omega arith)))

    from : d ≤ length s → Says (take d s) v → digits_of d 0 at s ≡ got v
    from h k =
        let one = rw (length-take-le d s h) at (said-once (take d s) v k) in
        ap (digits_of d 0 at) (sym (take-append-drop d s) ∙ rw one.1) ∙ digits-written d at v (drop d s) one.0

-- ---- lengths
-- O6: a form that can say v, and the bytes that it writes
pub length-said : (form : Form) (s : List ℕ) (v : ℕ) → SaysLength form s v ↔ (FormOk form v × (len_bytes form v ≡ s))
unfolding SaysLength FormOk len_bytes
length-said bare s v = (λ k. (omega arith, sym k.0), λ k. (sym k.1, omega arith))
length-said one s v = (λ k. (omega arith, sym k.0), λ k. (sym k.1, omega arith))
length-said two s v = (
  λ (high, low, e, h, l, w).
      let up : v / 256 ≡ high = omega arith in
      let down : v % 256 ≡ low = omega arith in
      (omega arith, rw (up, down) (sym e)),
  λ k. (v / 256, v % 256, sym k.1, omega arith, omega arith, omega arith),
)

-- M2, M3
pub body-said : (long : Bool) (s : List ℕ) (v : ℕ) → SaysBody long s v ↔ (LengthOk long v × (length_bytes long v ≡ s))
unfolding SaysBody LengthOk length_bytes
body-said false s v = (λ k. (omega arith, sym k.0), λ k. (sym k.1, omega arith))
body-said true s v = (
  λ (low, high, e, l, w, m).
      let up : v / 256 ≡ high = omega arith in
      let down : v % 256 ≡ low = omega arith in
      (m, rw (up, down) (sym e)),
  λ k. (v % 256, v / 256, sym k.1, omega arith, omega arith, k.0),
)
