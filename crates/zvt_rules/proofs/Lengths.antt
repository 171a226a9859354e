-- The forms of a length: what is written is read, and which form is shortest. Assumes nothing.
use mathlib.Core.Path.{◌≡◌, refl, sym, ap, subst}
use mathlib.Core.Bool.{true}
use mathlib.Core.List.{List, [], ◌∷◌, ◌++◌}
use Prim.Native.Nat.{ℕ, suc, ◌+◌, ◌*◌, ◌/◌, ◌%◌, ◌<◌, ◌≤◌}
use native.Mathlib.Omega.{arith}
use lib.ListN.{length, take, length-append}
use lib.Dec.{ltb, eqb}
use borrow.Author.Tests.{ltb-true, ltb-false, eqb-true, leb-true, lt-ltb, le-leb}
use Rattle.zvt_rules.specs.Reading.{Reading, got}
use Rattle.zvt_rules.specs.Objects.{Form, bare, one, two, form_size, Len, one_byte_len, two_byte_len, len_of}
use Rattle.zvt_rules.specs.believed.Writing.{len_bytes, sized}
use Rattle.zvt_rules.specs.Shortest.{form_for, is_shortest}
use Rattle.basics.specs.believed.Lists.{Bytes}
use Rattle.zvt_rules.specs.believed.Grammar.{FormOk}
use Rattle.basics.proofs.Tests.{pick-test}
use Rattle.zvt_rules.proofs.Readings.{got_same, got-not-refused}

-- ---- what is written is read, and what is read was written
pub len_bytes-size : (form : Form) (v : ℕ) → length (len_bytes form v) ≡ form_size form
unfolding len_bytes form_size
len_bytes-size bare v = refl
len_bytes-size one v = refl
len_bytes-size two v = refl

pub sized-size : (form : Form) (value : List ℕ) → length (sized form value) ≡ form_size form + length value
unfolding sized
sized-size form value = omega (arith, length-append (len_bytes form (length value)) value, len_bytes-size form (length value))

pub object-size : (tag : List ℕ) (form : Form) (value : List ℕ)
    → length (tag ++ sized form value) ≡ length tag + (form_size form + length value)
object-size tag form value = omega (arith, length-append tag (sized form value), sized-size form value)

pub len-written : (at : ℕ) (form : Form) (v : ℕ) (t : List ℕ) → FormOk form v
    → len_of at (len_bytes form v ++ t) ≡ got (record { form = form; value = v })
unfolding len_of len_bytes one_byte_len two_byte_len FormOk
len-written at bare v t ok = rw (lt-ltb v 0x80 ok)
len-written at one v t ok = refl
len-written at two v t ok = ap (λ (x : ℕ). got (record { form = two; value = x })) (omega arith)

abbrev Written : List ℕ → Len → Type 0
Written s l = (len_bytes l.form l.value ≡ take (form_size l.form) s) × FormOk l.form l.value

one-byte-sound : (at : ℕ) (s : List ℕ) (l : Len) → Bytes s → one_byte_len at s ≡ got l → Written (0x81 ∷ s) l
unfolding one_byte_len len_bytes form_size FormOk Bytes
one-byte-sound at [] l b e = absurd (got-not-refused (sym e))
one-byte-sound at (v ∷ s) l b e = subst (Written (0x81 ∷ (v ∷ s))) (got_same e) (refl, b 0)

two-bytes-sound : (at : ℕ) (s : List ℕ) (l : Len) → Bytes s → two_byte_len at s ≡ got l → Written (0x82 ∷ s) l
unfolding two_byte_len len_bytes form_size FormOk Bytes
two-bytes-sound at [] l b e = absurd (got-not-refused (sym e))
two-bytes-sound at (h ∷ []) l b e = absurd (got-not-refused (sym e))
two-bytes-sound at (h ∷ (c ∷ s)) l b e =
    let i : h < 256 = b 0 in
    let j : c < 256 = b 1 in
    let high : (h * 256 + c) / 256 ≡ h = omega arith in
    let low : (h * 256 + c) % 256 ≡ c = omega arith in
    subst (Written (0x82 ∷ (h ∷ (c ∷ s)))) (got_same e) (cc, omega arith)

pub len-sound : (at : ℕ) (s : List ℕ) (l : Len) → Bytes s → len_of at s ≡ got l
    → (len_bytes l.form l.value ≡ take (form_size l.form) s) × FormOk l.form l.value
unfolding len_of len_bytes form_size FormOk Bytes
len-sound at [] l b e = absurd (got-not-refused (sym e))
len-sound at (v ∷ s) l b e =
    let P : Reading Len → Type 0 = λ x. x ≡ got l → Written (v ∷ s) l in
    let rest : Bytes s = λ i. b (suc i) in
    pick-test P (ltb v 0x80) (λ t f. subst (Written (v ∷ s)) (got_same f) (refl, ltb-true v 0x80 t))
    (λ t. pick-test P (eqb v 0x81) (λ u f. rw (eqb-true v 0x81 u) (one-byte-sound (at + 1) s l rest f))
    (λ u. pick-test P (eqb v 0x82) (λ w f. rw (eqb-true v 0x82 w) (two-bytes-sound (at + 1) s l rest f))
    (λ w f. absurd (got-not-refused (sym f))))) e

-- ---- the shortest form
-- O7: "Shortest is one byte under 128, 81 from there to 255, 82 from 256.", as the three cases
for-cases : (P : Form → Type 0) (v : ℕ) → (v < 128 → P bare) → (128 ≤ v → v < 256 → P one) → (256 ≤ v → P two) → P (form_for v)
unfolding form_for
for-cases P v a b c =
    pick-test P (ltb v 128) (λ t. a (ltb-true v 128 t))
    (λ t. pick-test P (ltb v 256) (λ u. b (ltb-false v 128 t) (ltb-true v 256 u)) (λ u. c (ltb-false v 256 u)))

form-bound : (form : Form) (v : ℕ) → FormOk form v → v < 65536
unfolding FormOk
form-bound bare v ok = omega arith
form-bound one v ok = omega arith
form-bound two v ok = ok

pub form_for-ok : (form : Form) (v w : ℕ) → FormOk form v → w ≤ v → FormOk (form_for w) w
unfolding FormOk
form_for-ok form v w ok h = for-cases (λ f. FormOk f w) w (λ a. a) (λ a b. b) (λ a. omega (arith, form-bound form v ok))

pub form-shorter : (form : Form) (v w : ℕ) → FormOk form v → w ≤ v → form_size (form_for w) ≤ form_size form
unfolding FormOk form_size
form-shorter bare v w ok h = for-cases (λ f. form_size f ≤ 1) w (λ a. omega arith) (λ a b. absurd (omega arith)) (λ a. absurd (omega arith))
form-shorter one v w ok h = for-cases (λ f. form_size f ≤ 2) w (λ a. omega arith) (λ a b. omega arith) (λ a. absurd (omega arith))
form-shorter two v w ok h = for-cases (λ f. form_size f ≤ 3) w (λ a. omega arith) (λ a b. omega arith) (λ a. omega arith)

pub form-kept : (form : Form) (v : ℕ) → FormOk form v → is_shortest form v ≡ true → form_for v ≡ form
unfolding FormOk is_shortest
form-kept bare v ok e = for-cases (λ f. f ≡ bare) v (λ a. refl) (λ a b. absurd (omega arith)) (λ a. absurd (omega arith))
form-kept one v ok e =
    let l = leb-true 128 v e in for-cases (λ f. f ≡ one) v (λ a. absurd (omega arith)) (λ a b. refl) (λ a. absurd (omega arith))
form-kept two v ok e =
    let l = leb-true 256 v e in for-cases (λ f. f ≡ two) v (λ a. absurd (omega arith)) (λ a b. absurd (omega arith)) (λ a. refl)

pub form-strict : (form : Form) (v : ℕ) → FormOk form v → form_size (form_for v) ≡ form_size form → is_shortest form v ≡ true
unfolding is_shortest form_size
form-strict bare v ok = λ e. refl
form-strict one v ok =
    for-cases (λ f. form_size f ≡ 2 → is_shortest one v ≡ true) v (λ a e. absurd (omega arith)) (λ a b e. le-leb 128 v a)
    (λ a e. absurd (omega arith))
form-strict two v ok =
    for-cases (λ f. form_size f ≡ 3 → is_shortest two v ≡ true) v (λ a e. absurd (omega arith)) (λ a b e. absurd (omega arith))
    (λ a e. le-leb 256 v a)

pub form_for-shortest : (v : ℕ) → is_shortest (form_for v) v ≡ true
unfolding is_shortest
form_for-shortest v = for-cases (λ f. is_shortest f v ≡ true) v (λ a. refl) (λ a b. le-leb 128 v a) (λ a. le-leb 256 v a)
