-- What the reading of fields, lists and headers gives step by step, with no bound on the steps. Assumes nothing.
use mathlib.Core.Path.{◌≡◌, refl, sym, ◌∙◌}
use mathlib.Core.Bool.{Bool, true, false, not}
use mathlib.Core.Logic.{◌↔◌, ◌⊎◌}
use mathlib.Core.List.{List, [], ◌∷◌}
use Prim.Native.Nat.{ℕ, zero, suc, ◌+◌, ◌-◌, ◌*◌, ◌^◌, ◌<◌, ◌≤◌}
use native.Mathlib.Numerals.{add-one}
use native.Mathlib.Nat.{pow-succ'}
use native.Mathlib.Omega.{arith}
use lib.ListN.{length, get_or, drop, length-drop, drop_of_length-le}
use lib.Seq.{drop-cons}
use lib.Dec.{ltb}
use borrow.Author.Tests.{ltb-false, not-false}
use Rattle.zvt_rules.specs.declared.Format.{Format}
use Rattle.zvt_rules.specs.declared.Format.TheVariants.{Unknown, Fixed, Digits, Container}
use Rattle.basics.specs.Lists.{part, among}
use Rattle.zvt_rules.specs.Reading.{Reading, got, refused, fault_at, unless, and_then}
use Rattle.zvt_rules.specs.Limits.{most_body, deepest}
use Rattle.zvt_rules.specs.Objects.{form_size, Len, len_of, RunRead, run_of}
use Rattle.zvt_rules.specs.Fields.{format_of, unknown, length_digit, digits_of, decimal, unless_undecimal, digits_in, holds_digits, plain, container, FieldRead, value_of, plain_of, container_of, field_by, field_of, list_by, list_of}
use Rattle.zvt_rules.specs.Message.{BodyLength, length_of, Heading, header_size, end, header_with, header_of}
use Rattle.zvt_rules.specs.believed.Grammar.{Decimals}
use Rattle.zvt_rules.proofs.Readings.{got_same, got-not-refused, unless-got, unless-on, then-got, then-alike}
use Rattle.basics.proofs.Tests.{pick-test, leb-test, leb-fails, and-test, nand-test, never}

-- ---- length digits, from the i-th on
pub digit-test : (b : ℕ) → (length_digit b ≡ true) ↔ ((0xF0 ≤ b) × (b ≤ 0xF9))
digit-test b = and-test (leb-test 0xF0 b) (leb-test b 0xF9)

pub digit-fails : (b : ℕ) → (length_digit b ≡ false) ↔ ((b < 0xF0) ⊎ (0xF9 < b))
digit-fails b = nand-test (leb-fails 0xF0 b) (leb-fails b 0xF9)

digits-first : (d v at : ℕ) (s : List ℕ) (i : ℕ) → i < d → i < length s
    → digits_of (d - i) v (at + i) (drop i s)
    ≡ unless (not (length_digit (get_or s i 0))) (fault_at 4 (at + i)) (digits_of (d - (i + 1)) (v * 10 + (get_or s i 0 - 0xF0)) (at + (i + 1)) (drop (i + 1) s))
unfolding digits_of
digits-first d v at s i h l =
    let k : d - i ≡ suc (d - (i + 1)) = omega arith in
    let p : at + i + 1 ≡ at + (i + 1) = omega arith in
    rw (k, drop-cons s i 0 l, ← p, add-one i)

module _ (d v at : ℕ) (s : List ℕ) (i : ℕ) where
  pub digits-end : d ≤ i → digits_of (d - i) v (at + i) (drop i s) ≡ got v
  unfolding digits_of
  digits-end h = let k : d - i ≡ 0 = omega arith in rw k

  pub digits-cut : i < d → length s ≤ i → digits_of (d - i) v (at + i) (drop i s) ≡ refused (fault_at 1 (at + i))
  unfolding digits_of
  digits-cut h l = let k : d - i ≡ suc (d - (i + 1)) = omega arith in rw (k, drop_of_length-le s l)

  pub digits-on : i < d → i < length s → length_digit (get_or s i 0) ≡ true
      → digits_of (d - i) v (at + i) (drop i s) ≡ digits_of (d - (i + 1)) (v * 10 + (get_or s i 0 - 0xF0)) (at + (i + 1)) (drop (i + 1) s)
  unfolding unless
  digits-on h l e = digits-first d v at s i h l ∙ rw e

  pub digits-stop : i < d → i < length s → length_digit (get_or s i 0) ≡ false
      → digits_of (d - i) v (at + i) (drop i s) ≡ refused (fault_at 4 (at + i))
  unfolding unless
  digits-stop h l e = digits-first d v at s i h l ∙ rw e

-- the last digit is read behind the others
pub digits_last : (d v at : ℕ) (s : List ℕ) (w : ℕ) → digits_of (suc d) v at s ≡ got w
    → (u : ℕ) × (digits_of d v at s ≡ got u) × (d < length s) × (length_digit (get_or s d 0) ≡ true) × (w ≡ u * 10 + (get_or s d 0 - 0xF0))
unfolding digits_of
digits_last d v at [] w e = absurd (got-not-refused (sym e))
digits_last zero v at (b ∷ s) w e =
    let k = unless-got (not (length_digit b)) _ (got (v * 10 + (b - 0xF0))) w e in
    (v, refl, omega arith, not-false (length_digit b) k.0, sym (got_same k.1))
digits_last (suc d) v at (b ∷ s) w e =
    let k = unless-got (not (length_digit b)) _ (digits_of (suc d) (v * 10 + (b - 0xF0)) (at + 1) s) w e in
    let h = digits_last d (v * 10 + (b - 0xF0)) (at + 1) s w k.1 in
    (h.0, unless-on _ (digits_of d (v * 10 + (b - 0xF0)) (at + 1) s) k.0 ∙ h.1, omega arith, h.3, h.4)

-- so much is read, and no more than so many digits can say
pub digits-in : (d v at : ℕ) (s : List ℕ) (w : ℕ) → digits_of d v at s ≡ got w → (d ≤ length s) × (w < (v + 1) * 10 ^ d)
unfolding digits_of
digits-in zero v at s w e = let k = got_same e in (omega arith, omega arith)
digits-in (suc d) v at s w e =
    let l = digits_last d v at s w e in
    let h = digits-in d v at s l.0 l.1 in
    let t = (digit-test (get_or s d 0)).0 l.3 in
    (omega arith, rw (pow-succ' 10 d) (omega (arith, h.1, l.4, t)))

-- ---- bytes of decimal digits, from the i-th on
module _ {A : Type 0} (at : ℕ) (s : List ℕ) (x : Reading A) where
  undecimal-first : (i : ℕ) → i < length s
      → unless_undecimal (at + i) (drop i s) x
      ≡ unless (not (decimal (get_or s i 0))) (fault_at 6 (at + i)) (unless_undecimal (at + (i + 1)) (drop (i + 1) s) x)
  unfolding unless_undecimal
  undecimal-first i l = let p : at + i + 1 ≡ at + (i + 1) = omega arith in rw (drop-cons s i 0 l, ← p, add-one i)

  pub undecimal-end : (i : ℕ) → length s ≤ i → unless_undecimal (at + i) (drop i s) x ≡ x
  unfolding unless_undecimal
  undecimal-end i l = rw (drop_of_length-le s l)

  pub undecimal-on : (i : ℕ) → i < length s → decimal (get_or s i 0) ≡ true
      → unless_undecimal (at + i) (drop i s) x ≡ unless_undecimal (at + (i + 1)) (drop (i + 1) s) x
  unfolding unless
  undecimal-on i l e = undecimal-first i l ∙ rw e

  pub undecimal-stop : (i : ℕ) → i < length s → decimal (get_or s i 0) ≡ false
      → unless_undecimal (at + i) (drop i s) x ≡ refused (fault_at 6 (at + i))
  unfolding unless
  undecimal-stop i l e = undecimal-first i l ∙ rw e

-- ---- a field lies within the bytes, and takes one at least
pub value-in : (at a v : ℕ) (s w : List ℕ) → value_of at a v s ≡ got w → (a + v ≤ length s) × (part a (a + v) s ≡ w)
unfolding value_of
value-in at a v s w e =
    let k = unless-got (ltb (length s) (a + v)) (fault_at 1 (at + length s)) (got (part a (a + v) s)) w e in
    (ltb-false (length s) (a + v) k.0, got_same k.1)

-- where decimal digits are asked for they are there, and what is read is as without
pub undecimal-got : {A : Type 0} (at : ℕ) (s : List ℕ) (x : Reading A) (a : A) → unless_undecimal at s x ≡ got a → Decimals s × (x ≡ got a)
unfolding unless_undecimal Decimals
undecimal-got at [] x a e = (tt, e)
undecimal-got at (b ∷ s) x a e =
    let k = unless-got (not (decimal b)) (fault_at 6 at) (unless_undecimal (at + 1) s x) a e in
    let h = undecimal-got (at + 1) s x a k.1 in
    ((not-false (decimal b) k.0, h.0), h.1)

pub digits-got : {A : Type 0} (id at : ℕ) (s : List ℕ) (x : Reading A) (a : A) → digits_in id at s x ≡ got a
    → (holds_digits id ≡ true → Decimals s) × (x ≡ got a)
unfolding digits_in
digits-got id at s x a =
    pick-test (λ y. y ≡ got a → (holds_digits id ≡ true → Decimals s) × (x ≡ got a)) (holds_digits id)
    (λ _ e. let k = undecimal-got at s x a e in (λ _. k.0, k.1))
    (λ t e. (λ y. never cc, e))

pub plain-got : (id n at a v : ℕ) (s : List ℕ) (o : FieldRead) → plain_of id n at a v s ≡ got o
    → (a + v ≤ length s) × (holds_digits id ≡ true → Decimals (part a (a + v) s)) × (o ≡ record { field = plain id (part a (a + v) s); size = a + v; count = n })
unfolding plain_of
plain-got id n at a v s o e =
    let k = then-got (value_of at a v s) _ o e in
    let i = value-in at a v s k.0 k.1 in
    let d = digits-got id (at + a) k.0 (got (record { field = plain id k.0; size = a + v; count = n })) o k.2 in
    (i.0, rw i.1 d.0, rw i.1 (sym (got_same d.1)))

pub container-got : (n at : ℕ) (s : List ℕ) (o : FieldRead) → container_of n at s ≡ got o
    → (l : Len) × (r : RunRead) × (len_of (at + 1) (drop 1 s) ≡ got l) × (1 + form_size l.form + l.value ≤ length s)
    × (run_of deepest n (at + (1 + form_size l.form)) (part (1 + form_size l.form) (1 + form_size l.form + l.value) s) ≡ got r)
    × (o ≡ record { field = container l.form r.objs; size = 1 + form_size l.form + l.value; count = r.count })
unfolding container_of
container-got n at s o e =
    let k = then-got (len_of (at + 1) (drop 1 s)) _ o e in
    let a = 1 + form_size k.0.form in
    let v = then-got (value_of at a k.0.value s) _ o k.2 in
    let i = value-in at a k.0.value s v.0 v.1 in
    let r = then-got (run_of deepest n (at + a) v.0) _ o v.2 in
    (k.0, r.0, k.1, i.0, rw i.1 r.1, sym (got_same r.2))

by_in : (id n at : ℕ) (s : List ℕ) (f : Format) (o : FieldRead) → field_by id n at s f ≡ got o → (1 ≤ o.size) × (o.size ≤ length s)
unfolding field_by
by_in id n at s Unknown o e = absurd (got-not-refused (sym e))
by_in id n at s (Fixed k) o e = let p = plain-got id n at 1 k s o e in rw p.2 (omega arith)
by_in id n at s (Digits d) o e =
    let k = then-got (digits_of d 0 (at + 1) (drop 1 s)) _ o e in
    let p = plain-got id n at (1 + d) k.0 s o k.2 in
    rw p.2 (omega arith)
by_in id n at s Container o e = let p = container-got n at s o e in rw p.5 (omega arith)

-- a field that is read is of a known id not seen before, and is read by its format
pub field-got : (seen : List ℕ) (n at : ℕ) (s : List ℕ) (o : FieldRead) → field_of seen n at s ≡ got o
    → (unknown (format_of (get_or s 0 0)) ≡ false) × (among seen (get_or s 0 0) ≡ false) × (field_by (get_or s 0 0) n at s (format_of (get_or s 0 0)) ≡ got o)
unfolding field_of
field-got seen n at s o e =
    let id = get_or s 0 0 in
    let k = unless-got (unknown (format_of id)) (fault_at 5 at) (unless (among seen id) (fault_at 7 at) (field_by id n at s (format_of id))) o e in
    let j = unless-got (among seen id) (fault_at 7 at) (field_by id n at s (format_of id)) o k.1 in
    (k.0, j.0, j.1)

pub field_in : (seen : List ℕ) (n at : ℕ) (s : List ℕ) (o : FieldRead) → field_of seen n at s ≡ got o → (1 ≤ o.size) × (o.size ≤ length s)
field_in seen n at s o e = by_in (get_or s 0 0) n at s (format_of (get_or s 0 0)) o (field-got seen n at s o e).2

-- ---- lists: how much fuel there is does not matter, where there is enough
enough : (f g : ℕ) (seen : List ℕ) (n at : ℕ) (s : List ℕ) → length s < f → length s < g → list_by f seen n at s ≡ list_by g seen n at s
unfolding list_by
enough zero g seen n at s hf hg = absurd (omega arith)
enough (suc f) zero seen n at s hf hg = absurd (omega arith)
enough (suc f) (suc g) seen n at [] hf hg = refl
enough (suc f) (suc g) seen n at (b ∷ s) hf hg =
    then-alike (field_of seen n at (b ∷ s)) _ _ λ o e.
    let i = field_in seen n at (b ∷ s) o e in
    let l = length-drop o.size (b ∷ s) in
    rw (enough f g (b ∷ seen) o.count (at + o.size) (drop o.size (b ∷ s)) (omega arith) (omega arith))

pub list-none : (seen : List ℕ) (n at : ℕ) (s : List ℕ) → length s ≡ 0 → list_of seen n at s ≡ got (record { fields = []; count = n })
unfolding list_of list_by
list-none seen n at [] h = refl
list-none seen n at (b ∷ s) h = absurd (omega arith)

pub list-step : (seen : List ℕ) (n at : ℕ) (s : List ℕ) → 0 < length s
    → list_of seen n at s
    ≡ and_then (field_of seen n at s) λ o.
    and_then (list_of (get_or s 0 0 ∷ seen) o.count (at + o.size) (drop o.size s)) λ r.
    got (record { fields = o.field ∷ r.fields; count = r.count })
unfolding list_of list_by
list-step seen n at [] h = absurd (omega arith)
list-step seen n at (b ∷ s) h =
    then-alike (field_of seen n at (b ∷ s)) _ _ λ o e.
    let i = field_in seen n at (b ∷ s) o e in
    let rest = drop o.size (b ∷ s) in
    let l = length-drop o.size (b ∷ s) in
    rw (enough (suc (length s)) (suc (length rest)) (b ∷ seen) o.count (at + o.size) rest (omega arith) (omega arith))

-- ---- a header's body lies within the bytes and the limit
pub header-most : (long : Bool) → header_size long ≤ 5
header-most long = pick-test (λ n. n ≤ 5) long (λ _. omega arith) (λ _. omega arith)

pub with_in : (c i : ℕ) (s : List ℕ) (l : BodyLength) (h : Heading) → header_with c i s l ≡ got h
    → (l.value ≤ most_body) × (header_size l.long + l.value ≤ length s) × (h ≡ record { class = c; instruction = i; long = l.long; size = l.value })
unfolding header_with
with_in c i s l h e =
    let k = unless-got (ltb most_body l.value) _ _ h e in
    let j = unless-got (ltb (length s) (header_size l.long + l.value)) _ _ h k.1 in
    (ltb-false most_body l.value k.0, ltb-false (length s) (header_size l.long + l.value) j.0, sym (got_same j.1))

pub header-in : (s : List ℕ) (h : Heading) → header_of s ≡ got h → (h.size ≤ most_body) × (end h ≤ length s)
unfolding header_of
header-in [] h e = absurd (got-not-refused (sym e))
header-in (c ∷ []) h e = absurd (got-not-refused (sym e))
header-in (c ∷ (i ∷ s)) h e =
    let k = then-got (length_of s) _ h e in
    let w = with_in c i (c ∷ (i ∷ s)) k.0 h k.2 in
    rw w.2 (w.0, w.1)
