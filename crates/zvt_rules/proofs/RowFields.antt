-- The rows of fields and lists say exactly what the reader refuses. Assumes nothing.
use mathlib.Core.Path.{◌≡◌, refl, sym, ap, ◌∙◌, subst}
use mathlib.Core.Bool.{true, false, not as inverse, false≢true}
use mathlib.Core.List.{List, [], ◌∷◌, ◌++◌, append_assoc}
use mathlib.Core.Logic.{◌↔◌, ◌⊎◌}
use Prim.Native.Nat.{ℕ, zero, suc, ◌+◌, ◌-◌, ◌*◌, ◌/◌, ◌%◌, ◌^◌, ◌<◌, ◌≤◌}
use native.Mathlib.Omega.{arith}
use lib.ListN.{length, take, drop, replicate, length-replicate, length-append, length-drop, take-append-drop}
use lib.Seq.{drop-append_seam, length-take-le, take_all}
use lib.Dec.{ltb}
use borrow.Author.Tests.{ltb-true, not-true, not-false}
use Rattle.zvt_rules.specs.declared.Refusal.{Refusal}
use Rattle.zvt_rules.specs.declared.Format.{Format}
use Rattle.zvt_rules.specs.declared.Format.TheVariants.{Unknown, Fixed, Digits, Container}
use Rattle.basics.specs.Lists.{among}
use Rattle.zvt_rules.specs.Reading.{Reading, got, refused, fault_at, unless}
use Rattle.zvt_rules.specs.Objects.{Form, form_size}
use Rattle.zvt_rules.specs.Fields.{format_of, unknown, length_digit, digits_of, decimal, unless_undecimal, holds_digits, digits_in, Field, plain, field_id, count_field, value_of, plain_of, container_of, field_by, field_of, list_of}
use Rattle.zvt_rules.specs.believed.Writing.{len_bytes, sized, digit_bytes, length_in, field_bytes}
use Rattle.basics.specs.believed.Lists.{Bytes}
use Rattle.zvt_rules.specs.believed.Grammar.{FormOk, Decimals, SizeOk, FieldOk}
use Rattle.zvt_rules.specs.believed.Rows.{Cut, RunNo, New, Undecimal, ListNo, no_field, twice, short, no_digit, undecimal, sized_in, inside, behind}
use Rattle.basics.proofs.Tests.{pick_true, leb-fails, nand-test, fails, never}
use Rattle.zvt_rules.proofs.Readings.{unless-on, then-on, then-stop}
use Rattle.zvt_rules.proofs.ObjectReading.{part_length}
use Rattle.zvt_rules.proofs.Lengths.{len_bytes-size, len-sound}
use Rattle.zvt_rules.proofs.ObjectBytes.{bytes_drop, bytes-part}
use Rattle.zvt_rules.proofs.FieldReading.{digit-test, digit-fails, digits-in, value-in, field_in, field-got, list-none, list-step}
use Rattle.zvt_rules.proofs.FieldBytes.{digit_bytes-size, digits-written, digits-sound, field-parts, field-by, six, container-id, begins, field-sound, field-complete}
use Rattle.basics.proofs.Lists.{among-exactly}
use Rattle.zvt_rules.proofs.RowReadings.{Covered, is, not, covered-unless, moved, placed, covered-pick, covered-then, covered-as, filled}
use Rattle.zvt_rules.proofs.RowObjects.{sized-read, len-covered, value-short, run-refused, run-covered}
use Rattle.zvt_rules.proofs.FieldRefusals.{LengthDigits, digits-said, said-digits, digits-stop, digits-join, by-short, plain-at, container-sized, container-inside}

-- ---- the tests of single bytes and ids, as the rows say them
decimal-fails : (b : ℕ) → (decimal b ≡ false) ↔ Undecimal b
decimal-fails b = nand-test (leb-fails (b / 16) 9) (leb-fails (b % 16) 9)

new-test : (seen : List ℕ) (id : ℕ) → (among seen id ≡ false) ↔ New seen id
new-test seen id = fails (among-exactly seen id)

unknown-test : (f : Format) → (unknown f ≡ true) ↔ (f ≡ Unknown)
unfolding unknown
unknown-test Unknown = (λ e. refl, λ e. refl)
unknown-test (Fixed k) = (λ e. absurd (false≢true e), λ e. never cc)
unknown-test (Digits d) = (λ e. absurd (false≢true e), λ e. never cc)
unknown-test Container = (λ e. absurd (false≢true e), λ e. never cc)

-- ---- what a row says is refused
-- the first byte that is not decimal
pub undecimal-stops : {A : Type 0} (at : ℕ) (front : List ℕ) (b : ℕ) (s : List ℕ) (x : Reading A) → Decimals front → Undecimal b
    → unless_undecimal at (front ++ (b ∷ s)) x ≡ refused (fault_at 6 (at + length front))
unfolding unless_undecimal Decimals unless
undecimal-stops at [] b s x h e = let z : at ≡ at + 0 = omega arith in rw ((decimal-fails b).1 e) (moved 6 z)
undecimal-stops at (c ∷ front) b s x h e =
    let z : at + 1 + length front ≡ at + suc (length front) = omega arith in
    rw h.0 (undecimal-stops (at + 1) front b s x h.1 e ∙ moved 6 z)

-- a value that is there and not decimal, by the format
by-undecimal : (id n at : ℕ) (f : Format) (front : List ℕ) (b : ℕ) (tail s : List ℕ) → SizeOk f (length (front ++ (b ∷ tail)))
    → holds_digits id ≡ true → Decimals front → Undecimal b
    → field_by id n at (id ∷ ((length_in f (length (front ++ (b ∷ tail))) ++ (front ++ (b ∷ tail))) ++ s)) f
    ≡ refused (fault_at 6 (at + length (id ∷ (length_in f (length (front ++ (b ∷ tail))) ++ front))))
unfolding SizeOk length_in field_by digits_in
by-undecimal id n at Unknown front b tail s ok h ds e = absurd ok
by-undecimal id n at (Fixed k) front b tail s ok h ds e =
    let value = front ++ (b ∷ tail) in
    let z : at + 1 + length front ≡ at + suc (length front) = omega arith in
    rw (← ok) (plain-at id n at [] value s 0 refl ∙ pick_true _ _ h ∙ undecimal-stops (at + 1) front b tail _ ds e
    ∙ moved 6 z)
by-undecimal id n at (Digits d) front b tail s ok h ds e =
    let value = front ++ (b ∷ tail) in
    let p = digit_bytes d (length value) in
    let size = digit_bytes-size d (length value) in
    let z : at + (1 + d) + length front ≡ at + suc (length (p ++ front)) = omega (arith, length-append p front) in
    then-on _ (length value) (ap (digits_of d 0 (at + 1)) (append_assoc p value s) ∙ digits-written d (at + 1) (length value) (value ++ s) ok)
    ∙ plain-at id n at p value s d size ∙ pick_true _ _ h ∙ undecimal-stops (at + (1 + d)) front b tail _ ds e
    ∙ moved 6 z
by-undecimal id n at Container front b tail s ok h ds e = absurd ok

-- a list is refused where its first field is
list-stop : (seen : List ℕ) (n at id : ℕ) (s : List ℕ) (r : Refusal) → field_of seen n at (id ∷ s) ≡ refused r
    → list_of seen n at (id ∷ s) ≡ refused r
list-stop seen n at id s r e = list-step seen n at (id ∷ s) (omega arith) ∙ then-stop _ _ e

-- a known field that is new is refused as its format is
list-by : (seen : List ℕ) (n at id : ℕ) (s : List ℕ) (r : Refusal) → unknown (format_of id) ≡ false → New seen id
    → field_by id n at (id ∷ s) (format_of id) ≡ refused r → list_of seen n at (id ∷ s) ≡ refused r
list-by seen n at id s r known new e =
    list-stop seen n at id s r (field-by seen n at (id ∷ s) id (format_of id) refl refl known ((new-test seen id).1 new) ∙ e)

list-container : (seen : List ℕ) (n at : ℕ) (s : List ℕ) (r : Refusal) → New seen 0x06 → container_of n at (0x06 ∷ s) ≡ refused r
    → list_of seen n at (0x06 ∷ s) ≡ refused r
unfolding field_by unknown
list-container seen n at s r new e =
    list-stop seen n at 0x06 s r (field-by seen n at (0x06 ∷ s) 0x06 Container refl six refl ((new-test seen 0x06).1 new) ∙ e)

-- what has a size is known
sized-known : (f : Format) (v : ℕ) → SizeOk f v → unknown f ≡ false
unfolding SizeOk unknown
sized-known Unknown v ok = absurd ok
sized-known (Fixed k) v ok = refl
sized-known (Digits d) v ok = refl
sized-known Container v ok = refl

-- each row of a list
pub list-refused : {seen : List ℕ} {n at : ℕ} {s : List ℕ} {r : Refusal} → ListNo seen n at s r → list_of seen n at s ≡ refused r
unfolding field_of unless unknown field_by field_bytes
list-refused {seen} {n} {at} (no_field {id = id} {s = s} e) = list-stop seen n at id s (fault_at 5 at) (rw e)
list-refused {seen} {n} {at} (twice {id = id} {s = s} known e) =
    list-stop seen n at id s (fault_at 7 at) (rw ((fails (unknown-test (format_of id))).1 known, (among-exactly seen id).1 e))
list-refused {seen} {n} {at} (short {id = id} {s = s} value new ok c) =
    list-by seen n at id s (fault_at 1 (at + length (id ∷ s))) (sized-known (format_of id) (length value) ok) new
    (by-short id n at s (format_of id) value c.missing ok c.some c.joined)
list-refused {seen} {n} {at} (no_digit {id = id} {d = d} front v b s new f l h e) =
    let z : at + 1 + length front ≡ at + suc (length front) = omega arith in
    list-by seen n at id (front ++ (b ∷ s)) (fault_at 4 (at + length (id ∷ front))) (rw f) new
    (rw f (then-stop _ _ (digits-stop d 0 (at + 1) front b s (said-digits front v h) l e ∙ moved 4 z)))
list-refused {seen} {n} {at} (undecimal id front b tail s new ok h ds e) =
    list-by seen n at id _ _ (sized-known (format_of id) (length (front ++ (b ∷ tail))) ok) new
    (by-undecimal id n at (format_of id) front b tail s ok h ds e)
list-refused {seen} {n} {at} {r = r} (sized_in {s = s} new h) =
    list-container seen n at s r new (container-sized n at s r (sized-read h))
list-refused {seen} {n} {at} {r = r} (inside form value s new fits h) =
    let place : at + 1 + length (len_bytes form (length value)) ≡ at + (1 + form_size form) = omega (arith, len_bytes-size form (length value)) in
    list-container seen n at (sized form value ++ s) r new
    (container-inside n at form value s r fits (rw place at (run-refused h)))
list-refused {seen} {n} {at} {r = r} (behind {s = s} f ok new few h) =
    let e = field-complete f seen n at s ok ((new-test seen (field_id f)).1 new) few in
    let w = field_bytes f in
    list-step seen n at (w ++ s) (omega (arith, field_in seen n at (w ++ s) _ e))
    ∙ then-on _ _ e ∙ then-stop _ _ (rw (begins f s, drop-append_seam w s) (list-refused h))

-- ---- what is refused a row says
-- length digits
data DigitsNo : ℕ → ℕ → List ℕ → Refusal → Type 0 where
  out : {d at : ℕ} {s : List ℕ} → LengthDigits s → length s < d → DigitsNo d at s (fault_at 1 (at + length s))
  bad : {d at : ℕ} (front : List ℕ) (b : ℕ) (s : List ℕ) → LengthDigits front → length front < d → ((b < 0xF0) ⊎ (0xF9 < b))
      → DigitsNo d at (front ++ (b ∷ s)) (fault_at 4 (at + length front))

-- a digit before them moves the place by one
one_more : {d at : ℕ} {s : List ℕ} {r : Refusal} (b : ℕ) → (0xF0 ≤ b) × (b ≤ 0xF9) → DigitsNo d (at + 1) s r → DigitsNo (suc d) at (b ∷ s) r
unfolding LengthDigits
one_more {d} {at} b e (out {s = s} h l) =
    let z : at + suc (length s) ≡ at + 1 + length s = omega arith in
    placed (DigitsNo (suc d) at (b ∷ s)) 1 z (out (e, h) (omega arith))
one_more {d} {at} b e (bad front c s h l f) =
    let z : at + suc (length front) ≡ at + 1 + length front = omega arith in
    placed (DigitsNo (suc d) at (b ∷ (front ++ (c ∷ s)))) 4 z (bad (b ∷ front) c s (e, h) (omega arith) f)

-- length digits
digits-covered : (d v at : ℕ) (s : List ℕ) → Covered (DigitsNo d at s) (digits_of d v at s)
unfolding digits_of LengthDigits
digits-covered zero v at s = is v
digits-covered (suc d) v at [] =
    let z : at + 0 ≡ at = omega arith in
    not (fault_at 1 at) (placed (DigitsNo (suc d) at []) 1 z (out {s = []} tt (omega arith)))
digits-covered (suc d) v at (b ∷ s) =
    let z : at + 0 ≡ at = omega arith in
    covered-unless (inverse (length_digit b)) (fault_at 4 at)
    (λ t. placed (DigitsNo (suc d) at (b ∷ s)) 4 z (bad [] b s tt (omega arith) ((digit-fails b).0 (not-true (length_digit b) t))))
    (λ t. covered-as (digits-covered d _ (at + 1) s) (λ r. one_more b ((digit-test b).0 (not-false (length_digit b) t))))

-- digits that are all there are read
digits-all : (d v at : ℕ) (s : List ℕ) → LengthDigits s → d ≤ length s → (w : ℕ) × (digits_of d v at s ≡ got w)
unfolding digits_of LengthDigits
digits-all zero v at s h l = (v, refl)
digits-all (suc d) v at [] h l = absurd (omega arith)
digits-all (suc d) v at (b ∷ s) h l =
    let r = digits-all d (v * 10 + (b - 0xF0)) (at + 1) s h.1 (omega arith) in
    (r.0, unless-on _ _ (ap inverse ((digit-test b).1 h.0)) ∙ r.1)

-- F0 so many times
zeros : (n : ℕ) → LengthDigits (replicate n 0xF0)
unfolding LengthDigits
zeros zero = tt
zeros (suc n) = ((omega arith, omega arith), zeros n)

-- digits that break off are the front of a length and of that many bytes
out-row : (d : ℕ) (s : List ℕ) → LengthDigits s → length s < d → (w : List ℕ) × (length w < 10 ^ d) × Cut s (digit_bytes d (length w) ++ w)
out-row d s h l =
    let f : List ℕ = replicate (d - length s) 0xF0 in
    let fs : length f ≡ d - length s = length-replicate (d - length s) 0xF0 in
    let size : length (s ++ f) ≡ d = omega (arith, length-append s f) in
    let v = digits-all d 0 0 (s ++ f) (digits-join s f h (zeros (d - length s))) (omega arith) in
    let i = digits-in d 0 0 (s ++ f) v.0 v.1 in
    let w : List ℕ = replicate v.0 0 in
    let ws : length w ≡ v.0 = length-replicate v.0 0 in
    let same : digit_bytes d (length w) ≡ s ++ f = rw ws (digits-sound d 0 0 (s ++ f) v.0 v.1 ∙ take_all d (s ++ f) (omega arith)) in
    (w, omega arith, record { missing = f ++ w; some = omega (arith, length-append f w); joined = rw same (sym (append_assoc s f w)) })

-- decimal digits
pub data UndecimalNo : ℕ → List ℕ → Refusal → Type 0 where
  first : {at : ℕ} (front : List ℕ) (b : ℕ) (s : List ℕ) → Decimals front → Undecimal b → UndecimalNo at (front ++ (b ∷ s)) (fault_at 6 (at + length front))

one-more-decimal : {at : ℕ} {s : List ℕ} {r : Refusal} (b : ℕ) → decimal b ≡ true → UndecimalNo (at + 1) s r → UndecimalNo at (b ∷ s) r
unfolding Decimals
one-more-decimal {at} b e (first front c s h f) =
    let z : at + suc (length front) ≡ at + 1 + length front = omega arith in
    placed (UndecimalNo at (b ∷ (front ++ (c ∷ s)))) 6 z (first (b ∷ front) c s (e, h) f)

-- decimal bytes, before whatever follows
pub undecimal-covered : {A : Type 0} {P : Refusal → Type 0} (at : ℕ) (s : List ℕ) (x : Reading A) → ((r : Refusal) → UndecimalNo at s r → P r)
    → (Decimals s → Covered P x) → Covered P (unless_undecimal at s x)
unfolding unless_undecimal Decimals
undecimal-covered at [] x m g = g tt
undecimal-covered at (b ∷ s) x m g =
    let z : at + 0 ≡ at = omega arith in
    covered-unless (inverse (decimal b)) (fault_at 6 at)
    (λ t. m (fault_at 6 at) (placed (UndecimalNo at (b ∷ s)) 6 z (first [] b s tt ((decimal-fails b).0 (not-true (decimal b) t)))))
    (λ t.
    let e = not-false (decimal b) t in
    undecimal-covered (at + 1) s x (λ r h. m r (one-more-decimal b e h)) (λ h. g (e, h)))

-- a value that is not decimal
undecimal-row : {seen : List ℕ} {n at d : ℕ} {value t : List ℕ} {r : Refusal} (id : ℕ) (s : List ℕ) → New seen id
    → SizeOk (format_of id) (length value) → holds_digits id ≡ true
    → field_bytes (plain id value) ++ s ≡ id ∷ t → length (length_in (format_of id) (length value)) ≡ d
    → UndecimalNo (at + (1 + d)) value r → ListNo seen n at (id ∷ t) r
undecimal-row {seen} {n} {at} {d} {t = t} id s new ok h e size (first front b tail ds f) =
    let value = front ++ (b ∷ tail) in
    let head = length_in (format_of id) (length value) in
    let z : at + suc (length (head ++ front)) ≡ at + (1 + d) + length front = omega (arith, length-append head front) in
    placed (ListNo seen n at (id ∷ t)) 6 z
    (subst (λ (x : List ℕ). ListNo seen n at x (fault_at 6 (at + suc (length (head ++ front))))) e (undecimal id front b tail s new ok h ds f))

-- a plain value
plain-covered : (seen : List ℕ) (id n at d v : ℕ) (t : List ℕ) → New seen id → SizeOk (format_of id) v
    → length_in (format_of id) v ≡ take d t → d ≤ length t → Covered (ListNo seen n at (id ∷ t)) (plain_of id n at (1 + d) v (id ∷ t))
unfolding plain_of value_of digits_in field_bytes
plain-covered seen id n at d v t new ok p l =
    let s = id ∷ t in
    covered-then _
    (covered-unless (ltb (length s) (1 + d + v)) (fault_at 1 (at + length s))
    (λ u.
    let less : length t < d + v = omega (arith, ltb-true (length s) (1 + d + v) u) in
    let f = filled (length_in (format_of id) v) t d v p l less in
    short {s = t} f.0 new (rw f.1 ok) (rw f.1 f.2))
    (λ u. is _))
    (λ r h. h)
    (λ value e.
    let i = value-in at (1 + d) v s value e in
    let size : length value ≡ v = omega (arith, ap length i.1, part_length s (1 + d) (1 + d + v) (omega arith) i.0) in
    let front : length_in (format_of id) (length value) ≡ take d t = rw size p in
    let taken : field_bytes (plain id value) ≡ take (1 + d + v) s = rw (front, ← i.1) (sym (field-parts id t d v)) in
    let whole = ap (λ (x : List ℕ). x ++ drop (1 + d + v) s) taken ∙ take-append-drop (1 + d + v) s in
    covered-pick (holds_digits id)
    (λ h.
    undecimal-covered (at + (1 + d)) value _
    (λ r row. undecimal-row id (drop (1 + d + v) s) new (rw size ok) h whole (ap length front ∙ length-take-le d t l) row)
    (λ ds. is _))
    (λ h. is _))

-- what is refused inside a container
inside-row : {seen : List ℕ} {n at : ℕ} {t : List ℕ} {r : Refusal} (form : Form) (value s : List ℕ) → New seen 0x06
    → FormOk form (length value) → (0x06 ∷ (len_bytes form (length value) ++ value)) ++ s ≡ 0x06 ∷ t
    → RunNo 4 n (at + (1 + form_size form)) value r → ListNo seen n at (0x06 ∷ t) r
unfolding sized
inside-row {seen} {n} {at} {r = r} form value s new ok e row =
    let place : at + (1 + form_size form) ≡ at + 1 + length (len_bytes form (length value)) = omega (arith, len_bytes-size form (length value)) in
    subst (λ (x : List ℕ). ListNo seen n at x r) e (inside form value s new ok (rw place at row))

-- what is refused in length digits
digits-row : {seen : List ℕ} {n at id : ℕ} {t : List ℕ} {r : Refusal} (d : ℕ) → format_of id ≡ Digits d → New seen id
    → DigitsNo d (at + 1) t r → ListNo seen n at (id ∷ t) r
unfolding SizeOk length_in
digits-row {seen} {n} {at} {id} d e new (out {s = s} h l) =
    let z : at + suc (length s) ≡ at + 1 + length s = omega arith in
    let r = out-row d s h l in
    placed (ListNo seen n at (id ∷ s)) 1 z (short {s = s} r.0 new (rw e r.1) (rw e r.2))
digits-row {seen} {n} {at} {id} d e new (bad front b s h l f) =
    let z : at + suc (length front) ≡ at + 1 + length front = omega arith in
    placed (ListNo seen n at (id ∷ (front ++ (b ∷ s)))) 4 z (no_digit front _ b s new e l (digits-said front h).1 f)

-- a container
container-covered : (seen : List ℕ) (n at : ℕ) (t : List ℕ) → New seen 0x06 → Bytes (0x06 ∷ t)
    → Covered (ListNo seen n at (0x06 ∷ t)) (container_of n at (0x06 ∷ t))
unfolding container_of value_of
container-covered seen n at t new b =
    let s : List ℕ = 0x06 ∷ t in
    let bs = bytes_drop 1 s b in
    covered-then _ (len-covered (at + 1) t bs) (λ r h. sized_in new h)
    (λ l e.
    let a = 1 + form_size l.form in
    let w = len-sound (at + 1) t l bs e in
    covered-then _
    (covered-unless (ltb (length s) (a + l.value)) (fault_at 1 (at + length s))
    (λ u.
    let less : length t < form_size l.form + l.value = omega (arith, ltb-true (length s) (a + l.value) u) in
    let end : at + 1 + length t ≡ at + length s = omega arith in
    sized_in new (rw end at (value-short (at + 1) t l bs e less)))
    (λ u. is _))
    (λ r h. h)
    (λ value g.
    let i = value-in at a l.value s value g in
    let size : length value ≡ l.value = omega (arith, ap length i.1, part_length s a (a + l.value) (omega arith) i.0) in
    covered-then _ (run-covered 4 n (at + a) value (rw i.1 at (bytes-part a (a + l.value) s b)))
    (λ r row.
    let taken : 0x06 ∷ (len_bytes l.form (length value) ++ value) ≡ take (a + l.value) s
    = rw (size, w.0, ← i.1) (sym (field-parts 0x06 t (form_size l.form) l.value)) in
    let whole = ap (λ (x : List ℕ). x ++ drop (a + l.value) s) taken ∙ take-append-drop (a + l.value) s in
    inside-row l.form value (drop (a + l.value) s) new (rw size w.1) whole row)
    (λ o x. is _)))

-- a field by its format
format-covered : (seen : List ℕ) (id n at : ℕ) (t : List ℕ) (f : Format) → format_of id ≡ f → New seen id → Bytes (id ∷ t)
    → Covered (ListNo seen n at (id ∷ t)) (field_by id n at (id ∷ t) f)
unfolding field_by SizeOk length_in Bytes
format-covered seen id n at t Unknown e new b = not (fault_at 5 at) (no_field e)
format-covered seen id n at t (Fixed k) e new b = plain-covered seen id n at 0 k t new (rw e) (rw e) (omega arith)
format-covered seen id n at t (Digits d) e new b =
    covered-then _ (digits-covered d 0 (at + 1) t) (λ r. digits-row d e new)
    (λ v g.
    let i = digits-in d 0 (at + 1) t v g in
    plain-covered seen id n at d v t new (rw e (omega arith)) (rw e (digits-sound d 0 (at + 1) t v g)) i.0)
format-covered seen id n at t Container e new b =
    let z = container-id id (b 0) e in
    rw z (container-covered seen n at t (rw z at new) (rw z at b))

-- a field
field-covered : (seen : List ℕ) (n at id : ℕ) (t : List ℕ) → Bytes (id ∷ t) → Covered (ListNo seen n at (id ∷ t)) (field_of seen n at (id ∷ t))
unfolding field_of
field-covered seen n at id t b =
    covered-unless (unknown (format_of id)) (fault_at 5 at) (λ u. no_field ((unknown-test (format_of id)).0 u))
    (λ u. covered-unless (among seen id) (fault_at 7 at) (λ v. twice ((fails (unknown-test (format_of id))).0 u) ((among-exactly seen id).0 v))
    (λ v. format-covered seen id n at t (format_of id) refl ((new-test seen id).0 v) b))

-- a row behind one more field
behind-row : {seen : List ℕ} {n at id : ℕ} {s rest : List ℕ} {size count : ℕ} {r : Refusal} (f : Field) → field_bytes f ++ rest ≡ s
    → size ≡ length (field_bytes f) → FieldOk f → id ≡ field_id f → New seen id → count ≡ n + count_field f → count ≤ 64
    → ListNo (id ∷ seen) count (at + size) rest r → ListNo seen n at s r
behind-row {n = n} f e z ok i new c few row =
    let less : n + count_field f ≤ 64 = omega arith in rw (← e) (behind f ok (rw i at new) less (rw (i, z, c) at row))

-- a list, one field after the other
list-covered-by : (f : ℕ) (seen : List ℕ) (n at : ℕ) (s : List ℕ) → length s ≤ f → n ≤ 64 → Bytes s → Covered (ListNo seen n at s) (list_of seen n at s)
list-covered-by zero seen n at [] l m b = rw (list-none seen n at [] refl) (is _)
list-covered-by zero seen n at (id ∷ t) l m b = absurd (omega arith)
list-covered-by (suc f) seen n at [] l m b = rw (list-none seen n at [] refl) (is _)
list-covered-by (suc f) seen n at (id ∷ t) l m b =
    let s = id ∷ t in
    rw (list-step seen n at s (omega arith))
    (covered-then _ (field-covered seen n at id t b) (λ r h. h)
    (λ o e.
    let i = field_in seen n at s o e in
    let g = field-sound seen n at s o b e in
    let rest = drop o.size s in
    let less : length rest ≤ f = omega (arith, length-drop o.size s) in
    covered-then _ (list-covered-by f (id ∷ seen) o.count (at + o.size) rest less (g.few m) (bytes_drop o.size s b))
    (λ r row.
    behind-row o.field (rw g.bytes (take-append-drop o.size s)) (sym (ap length g.bytes ∙ length-take-le o.size s i.1))
    g.ok (sym g.id) ((new-test seen id).0 (field-got seen n at s o e).1) g.count (g.few m) row)
    (λ o x. is _)))

pub list-covered : (seen : List ℕ) (n at : ℕ) (s : List ℕ) → n ≤ 64 → Bytes s → Covered (ListNo seen n at s) (list_of seen n at s)
list-covered seen n at s m b = list-covered-by (length s) seen n at s (omega arith) m b
