-- What a part of a field is refused with, as its definition says it: length digits, a plain value, a container. Assumes nothing.
use mathlib.Core.Path.{◌≡◌, refl, sym, ap, ◌∙◌}
use mathlib.Core.List.{List, [], ◌∷◌, ◌++◌, append_assoc}
use mathlib.Core.Logic.{⊎_elim, ◌⊎◌}
use Prim.Native.Nat.{ℕ, zero, suc, ◌+◌, ◌-◌, ◌*◌, ◌/◌, ◌^◌, ◌<◌, ◌≤◌}
use native.Mathlib.Omega.{arith}
use lib.ListN.{length, take, drop, length-append, take-append-drop}
use lib.Seq.{take-append-le, take-append_seam, take_at}
use lib.Dec.{ltb}
use borrow.Author.Tests.{lt-ltb, ltb-true, ltb-false}
use Rattle.zvt_rules.specs.declared.Refusal.{Refusal}
use Rattle.zvt_rules.specs.declared.Format.{Format}
use Rattle.zvt_rules.specs.declared.Format.TheVariants.{Unknown, Fixed, Digits, Container}
use Rattle.zvt_rules.specs.Reading.{got, refused, fault_at, unless}
use Rattle.zvt_rules.specs.Objects.{Form, form_size, len_of, run_of}
use Rattle.zvt_rules.specs.Fields.{digits_of, digits_in, plain, value_of, plain_of, container_of, field_by}
use Rattle.zvt_rules.specs.believed.Writing.{len_bytes, sized, digit_bytes, length_in}
use Rattle.zvt_rules.specs.believed.Grammar.{FormOk, SizeOk}
use Rattle.zvt_rules.specs.believed.Digits.{Number, Says}
use Rattle.basics.proofs.Tests.{by-test}
use Rattle.zvt_rules.proofs.Readings.{then-on, then-stop}
use Rattle.zvt_rules.proofs.Lengths.{len_bytes-size, len-written}
use Rattle.zvt_rules.proofs.FieldReading.{digit-test, digit-fails}
use Rattle.zvt_rules.proofs.FieldBytes.{digit_bytes-size, digits-written, value-back, back-within, back}
use Rattle.zvt_rules.proofs.RowReadings.{moved}
use Rattle.zvt_rules.proofs.RowObjects.{SizedRead}

-- length digits throughout: those that say some length
unfoldable pub LengthDigits : List ℕ → Type 0
LengthDigits [] = Unit {0}
LengthDigits (b ∷ s) = ((0xF0 ≤ b) × (b ≤ 0xF9)) × LengthDigits s

pub digits-said : (s : List ℕ) → LengthDigits s → (v : ℕ) × Says s v
unfolding LengthDigits Number
digits-said [] h = (0, refl)
digits-said (b ∷ s) h =
    let (m, k) = digits-said s h.1 in
    ((b - 0xF0) * 10 ^ length s + m, (b - 0xF0, m, (omega arith, omega arith), refl, k))

pub said-digits : (s : List ℕ) (v : ℕ) → Says s v → LengthDigits s
unfolding LengthDigits Number
said-digits [] v e = tt
said-digits (b ∷ s) v (d, m, k, e, r) = ((omega arith, omega arith), said-digits s m r)

-- the first byte that is no length digit, and length digits that break off
pub digits-stop : (d v at : ℕ) (front : List ℕ) (b : ℕ) (s : List ℕ) → LengthDigits front → length front < d → ((b < 0xF0) ⊎ (0xF9 < b))
    → digits_of d v at (front ++ (b ∷ s)) ≡ refused (fault_at 4 (at + length front))
unfolding digits_of LengthDigits unless
digits-stop zero v at front b s h l e = absurd (omega arith)
digits-stop (suc d) v at [] b s h l e = let z : at ≡ at + 0 = omega arith in rw ((digit-fails b).1 e) (moved 4 z)
digits-stop (suc d) v at (c ∷ front) b s h l e =
    let z : at + 1 + length front ≡ at + suc (length front) = omega arith in
    rw ((digit-test c).1 h.0) (digits-stop d _ (at + 1) front b s h.1 (omega arith) e ∙ moved 4 z)

digits-out : (d v at : ℕ) (s : List ℕ) → LengthDigits s → length s < d → digits_of d v at s ≡ refused (fault_at 1 (at + length s))
unfolding digits_of LengthDigits unless
digits-out zero v at s h l = absurd (omega arith)
digits-out (suc d) v at [] h l = let z : at ≡ at + 0 = omega arith in moved 1 z
digits-out (suc d) v at (c ∷ s) h l =
    let z : at + 1 + length s ≡ at + suc (length s) = omega arith in
    rw ((digit-test c).1 h.0) (digits-out d _ (at + 1) s h.1 (omega arith) ∙ moved 1 z)

-- what a length is written with are length digits, and so is each front of it
pub digits-join : (s t : List ℕ) → LengthDigits s → LengthDigits t → LengthDigits (s ++ t)
unfolding LengthDigits
digits-join [] t h g = g
digits-join (b ∷ s) t h g = (h.0, digits-join s t h.1 g)

digits-take : (k : ℕ) (s : List ℕ) → LengthDigits s → LengthDigits (take k s)
unfolding LengthDigits
digits-take zero s h = tt
digits-take (suc k) [] h = tt
digits-take (suc k) (b ∷ s) h = (h.0, digits-take k s h.1)

digit_bytes-are : (d v : ℕ) → LengthDigits (digit_bytes d v)
unfolding LengthDigits digit_bytes
digit_bytes-are zero v = tt
digit_bytes-are (suc d) v = digits-join (digit_bytes d (v / 10)) _ (digit_bytes-are d (v / 10)) ((omega arith, omega arith), tt)

-- a value that is cut
plain-short : (id n at a v : ℕ) (s : List ℕ) → length s < a + v → plain_of id n at a v s ≡ refused (fault_at 1 (at + length s))
unfolding plain_of value_of unless
plain-short id n at a v s l = then-stop _ _ (rw (lt-ltb (length s) (a + v) l))

-- length or value that are cut, by the format
pub by-short : (id n at : ℕ) (s : List ℕ) (f : Format) (w m : List ℕ) → SizeOk f (length w) → 0 < length m → s ++ m ≡ length_in f (length w) ++ w
    → field_by id n at (id ∷ s) f ≡ refused (fault_at 1 (at + length (id ∷ s)))
unfolding SizeOk length_in field_by
by-short id n at s Unknown w m ok l e = absurd ok
by-short id n at s (Fixed k) w m ok l e = plain-short id n at 1 k (id ∷ s) (omega (arith, length-append s m, ap length e))
by-short id n at s (Digits d) w m ok l e =
    let ds = digit_bytes d (length w) in
    let size = digit_bytes-size d (length w) in
    let total : length s + length m ≡ d + length w = omega (arith, length-append s m, length-append ds w, ap length e) in
    by-test (ltb (length s) d)
    (λ t.
    let h = ltb-true (length s) d t in
    let front : s ≡ take (length s) ds
    = sym (take-append_seam s m) ∙ ap (take (length s)) e ∙ take-append-le (length s) ds w (omega arith) in
    let are : LengthDigits s = rw front (digits-take (length s) ds (digit_bytes-are d (length w))) in
    let z : at + 1 + length s ≡ at + suc (length s) = omega arith in
    then-stop _ _ (digits-out d 0 (at + 1) s are h ∙ moved 1 z))
    (λ t.
    let h = ltb-false (length s) d t in
    let front : take d s ≡ ds = sym (take-append-le d s m h) ∙ ap (take d) e ∙ take_at ds w d size in
    let whole : ds ++ drop d s ≡ s = rw (← front) (take-append-drop d s) in
    let read : digits_of d 0 (at + 1) s ≡ got (length w) = rw whole at (digits-written d (at + 1) (length w) (drop d s) ok) in
    then-on _ (length w) read ∙ plain-short id n at (1 + d) (length w) (id ∷ s) (omega arith))
by-short id n at s Container w m ok l e = absurd ok

-- a value that is there, whether digits or not
pub plain-at : (id n at : ℕ) (p value rest : List ℕ) (d : ℕ) → length p ≡ d
    → plain_of id n at (1 + d) (length value) (id ∷ ((p ++ value) ++ rest))
    ≡ digits_in id (at + (1 + d)) value (got (record { field = plain id value; size = 1 + d + length value; count = n }))
unfolding plain_of
plain-at id n at p value rest d size =
    let s = id ∷ ((p ++ value) ++ rest) in
    then-on _ value (value-back at s (1 + d) (length value) value (back-within id p value rest d size) (back id p value rest d size))

-- a container, at its length or inside
pub container-sized : (n at : ℕ) (s : List ℕ) (r : Refusal) → SizedRead (at + 1) s r → container_of n at (0x06 ∷ s) ≡ refused r
unfolding container_of value_of unless
container-sized n at s r h =
    ⊎_elim (λ e. then-stop _ _ e)
    (λ x.
    let l = x.0 in
    let less : length (0x06 ∷ s) < 1 + form_size l.form + l.value = omega (arith, x.2) in
    let end : at + suc (length s) ≡ at + 1 + length s = omega arith in
    then-on _ l x.1 ∙ then-stop _ _ (rw (lt-ltb _ _ less, end) (ap refused x.3))) h

pub container-inside : (n at : ℕ) (form : Form) (w s : List ℕ) (r : Refusal) → FormOk form (length w)
    → run_of 4 n (at + (1 + form_size form)) w ≡ refused r → container_of n at (0x06 ∷ (sized form w ++ s)) ≡ refused r
unfolding container_of sized
container-inside n at form w s r ok e =
    let q = len_bytes form (length w) in
    let all : List ℕ = 0x06 ∷ ((q ++ w) ++ s) in
    let a = 1 + form_size form in
    let size = len_bytes-size form (length w) in
    then-on _ (record { form = form; value = length w })
    (ap (len_of (at + 1)) (append_assoc q w s) ∙ len-written (at + 1) form (length w) (w ++ s) ok)
    ∙ then-on _ w (value-back at all a (length w) w (back-within 0x06 q w s (form_size form) size) (back 0x06 q w s (form_size form) size))
    ∙ then-stop _ _ e
