-- What a field and a list are read from: the bytes that are read are those that are written, and no others. Assumes nothing.
use mathlib.Core.Path.{◌≡◌, refl, sym, ap, ◌∙◌}
use mathlib.Core.Bool.{Bool, true, false, not}
use mathlib.Core.List.{List, [], ◌∷◌, ◌++◌, append_assoc}
use Prim.Native.Nat.{ℕ, zero, suc, ◌+◌, ◌-◌, ◌*◌, ◌/◌, ◌%◌, ◌^◌, ◌<◌, ◌≤◌}
use native.Mathlib.Nat.{pow-succ'}
use native.Mathlib.Omega.{arith}
use lib.ListN.{length, get_or, take, drop, length-append, length-drop, take-append-drop}
use lib.Seq.{take-suc, get_or_at, take-add, drop_at, take-append_seam, drop-append_seam}
use lib.Dec.{eqb}
use borrow.Author.Tests.{le-leb, le-ltb, eqb-true}
use Rattle.zvt_rules.specs.declared.Format.{Format}
use Rattle.zvt_rules.specs.declared.Format.TheVariants.{Unknown, Fixed, Digits, Container}
use Rattle.basics.specs.Lists.{part, among}
use Rattle.zvt_rules.specs.Reading.{Reading, got}
use Rattle.zvt_rules.specs.Limits.{most_objects, deepest}
use Rattle.zvt_rules.specs.Objects.{Form, form_size, len_of, Objs, count_objs, RunRead, run_of}
use Rattle.zvt_rules.specs.Fields.{format_of, unknown, length_digit, digits_of, unless_undecimal, holds_digits, digits_in, Field, plain, container, field_id, count_field, FieldRead, value_of, plain_of, container_of, field_by, field_of, count_fields, ListRead, list_of}
use Rattle.zvt_rules.specs.believed.Writing.{len_bytes, sized, run_bytes, digit_bytes, length_in, field_bytes, list_bytes}
use Rattle.basics.specs.believed.Lists.{Bytes}
use Rattle.zvt_rules.specs.believed.Grammar.{RunOk, Decimals, FormOk, SizeOk, FieldOk, ListOk}
use Rattle.zvt_rules.proofs.Readings.{got_same, got-not-refused, unless-got, unless-on, then-got, then-on}
use Rattle.basics.proofs.Tests.{pick-test, all_from, at_from}
use Rattle.zvt_rules.proofs.FieldReading.{digit-test, digits_last, digits-in, plain-got, container-got, field-got, field_in, list-none, list-step}
use Rattle.zvt_rules.proofs.ObjectReading.{part_length}
use Rattle.zvt_rules.proofs.Lengths.{len_bytes-size, len-sound, len-written}
use Rattle.zvt_rules.proofs.ObjectBytes.{bytes_drop, bytes-part, run_sound, run-complete}

-- ---- length digits
digit-back : (x : ℕ) → x < 10 → length_digit (0xF0 + x) ≡ true
digit-back x h = rw (le-leb 0xF0 (0xF0 + x) (omega arith), le-leb (0xF0 + x) 0xF9 (omega arith))

digits_more : (d v at : ℕ) (s : List ℕ) (u : ℕ) → digits_of d v at s ≡ got u → d < length s → length_digit (get_or s d 0) ≡ true
    → digits_of (suc d) v at s ≡ got (u * 10 + (get_or s d 0 - 0xF0))
unfolding digits_of
digits_more d v at [] u e h l = absurd (omega arith)
digits_more zero v at (b ∷ s) u e h l = unless-on _ _ (ap not l) ∙ ap (λ (x : ℕ). got (x * 10 + (b - 0xF0))) (got_same e)
digits_more (suc d) v at (b ∷ s) u e h l =
    let k = unless-got (not (length_digit b)) _ (digits_of d (v * 10 + (b - 0xF0)) (at + 1) s) u e in
    unless-on _ _ k.0 ∙ digits_more d (v * 10 + (b - 0xF0)) (at + 1) s u k.1 (omega arith) l

pub digit_bytes-size : (d v : ℕ) → length (digit_bytes d v) ≡ d
unfolding digit_bytes
digit_bytes-size zero v = refl
digit_bytes-size (suc d) v = omega (arith, length-append (digit_bytes d (v / 10)) ((0xF0 + v % 10) ∷ []), digit_bytes-size d (v / 10))

pub digits-written : (d at v : ℕ) (rest : List ℕ) → v < 10 ^ d → digits_of d 0 at (digit_bytes d v ++ rest) ≡ got v
unfolding digits_of digit_bytes
digits-written zero at v rest h = ap got (omega arith)
digits-written (suc d) at v rest h =
    let p = digit_bytes d (v / 10) in
    let b = 0xF0 + v % 10 in
    let size = digit_bytes-size d (v / 10) in
    let less : v / 10 < 10 ^ d = omega (arith, rw (pow-succ' 10 d) at h) in
    let here : get_or (p ++ (b ∷ rest)) d 0 ≡ b = get_or_at p b rest 0 d size in
    let long : d < length (p ++ (b ∷ rest)) = omega (arith, length-append p (b ∷ rest)) in
    let l : length_digit (get_or (p ++ (b ∷ rest)) d 0) ≡ true = rw here (digit-back (v % 10) (omega arith)) in
    rw (append_assoc p (b ∷ []) rest)
    (digits_more d 0 at (p ++ (b ∷ rest)) (v / 10) (digits-written d at (v / 10) (b ∷ rest) less) long l ∙ rw here (ap got (omega arith)))

pub digits-sound : (d v at : ℕ) (s : List ℕ) (w : ℕ) → digits_of d v at s ≡ got w → digit_bytes d w ≡ take d s
unfolding digit_bytes
digits-sound zero v at s w e = refl
digits-sound (suc d) v at s w e =
    let l = digits_last d v at s w e in
    let t = (digit-test (get_or s d 0)).0 l.3 in
    let high : w / 10 ≡ l.0 = omega (arith, l.4, t) in
    let low : 0xF0 + w % 10 ≡ get_or s d 0 = omega (arith, l.4, t) in
    rw (high, low, digits-sound d v at s l.0 l.1) (sym (take-suc s d 0 l.2))

-- ---- an id, d bytes, and v bytes behind them
pub field-parts : (id : ℕ) (t : List ℕ) (d v : ℕ) → take (1 + d + v) (id ∷ t) ≡ id ∷ (take d t ++ part (1 + d) (1 + d + v) (id ∷ t))
field-parts id t d v =
    let a : 1 + d ≡ suc d = omega arith in
    let e : 1 + d + v ≡ suc (d + v) = omega arith in
    let k : suc (d + v) - suc d ≡ v = omega arith in
    rw (e, a, k) (ap (λ (x : List ℕ). id ∷ x) (take-add d v t))

module _ (id : ℕ) (p w rest : List ℕ) (d : ℕ) (size : length p ≡ d) where
  pub back-within : 1 + d + length w ≤ length (id ∷ ((p ++ w) ++ rest))
  back-within = simp length-append (omega arith)

  pub back : part (1 + d) (1 + d + length w) (id ∷ ((p ++ w) ++ rest)) ≡ w
  back =
      let a : 1 + d ≡ suc d = omega arith in
      let k : 1 + d + length w - (1 + d) ≡ length w = omega arith in
      rw (k, a, append_assoc p w rest, drop_at p (w ++ rest) d size) (take-append_seam w rest)

-- ---- bytes of decimal digits
pub decimals-read : {A : Type 0} (at : ℕ) (s : List ℕ) (x : Reading A) → Decimals s → unless_undecimal at s x ≡ x
unfolding unless_undecimal Decimals
decimals-read at [] x h = refl
decimals-read at (b ∷ s) x h = unless-on _ _ (ap not h.0) ∙ decimals-read (at + 1) s x h.1

digits-read : {A : Type 0} (id at : ℕ) (s : List ℕ) (x : Reading A) → (holds_digits id ≡ true → Decimals s) → digits_in id at s x ≡ x
unfolding digits_in
digits-read id at s x h = pick-test (λ y. y ≡ x) (holds_digits id) (λ e. decimals-read at s x (h e)) (λ e. refl)

-- ---- a field that was read
pub record FieldSound (n : ℕ) (s : List ℕ) (o : FieldRead) : Type 0 where
  pub bytes : field_bytes o.field ≡ take o.size s
  pub ok : FieldOk o.field
  pub id : field_id o.field ≡ get_or s 0 0
  pub count : o.count ≡ n + count_field o.field
  pub few : n ≤ most_objects → o.count ≤ most_objects

plain-sound : (id n at d v : ℕ) (t : List ℕ) (o : FieldRead) → SizeOk (format_of id) v → length_in (format_of id) v ≡ take d t
    → plain_of id n at (1 + d) v (id ∷ t) ≡ got o
    → FieldSound n (id ∷ t) o
unfolding field_bytes FieldOk field_id count_field
plain-sound id n at d v t o ok p e =
    let g = plain-got id n at (1 + d) v (id ∷ t) o e in
    let value = part (1 + d) (1 + d + v) (id ∷ t) in
    let size : length value ≡ v = omega (arith, part_length (id ∷ t) (1 + d) (1 + d + v) (omega arith) g.0) in
    rw g.2
    (record {
      bytes = rw (size, p) (sym (field-parts id t d v));
      ok = (rw size ok, g.1);
      id = refl;
      count = omega arith;
      few = λ h. h;
    })

-- ---- a field that was written
pub value-back : (at : ℕ) (s : List ℕ) (a v : ℕ) (w : List ℕ) → a + v ≤ length s → part a (a + v) s ≡ w → value_of at a v s ≡ got w
unfolding value_of
value-back at s a v w h e = unless-on _ _ (le-ltb (length s) (a + v) h) ∙ ap got e

pub field-by : (seen : List ℕ) (n at : ℕ) (s : List ℕ) (id : ℕ) (f : Format) → get_or s 0 0 ≡ id → format_of id ≡ f → unknown f ≡ false
    → among seen id ≡ false → field_of seen n at s ≡ field_by id n at s f
unfolding field_of
field-by seen n at s id f i e known new = rw (i, e) (unless-on _ _ known ∙ unless-on _ _ new)

plain_back : (id n at : ℕ) (p value rest : List ℕ) (d : ℕ) → length p ≡ d → (holds_digits id ≡ true → Decimals value)
    → plain_of id n at (1 + d) (length value) (id ∷ ((p ++ value) ++ rest))
    ≡ got (record { field = plain id value; size = suc (length (p ++ value)); count = n + 0 })
unfolding plain_of
plain_back id n at p value rest d size h =
    let s = id ∷ ((p ++ value) ++ rest) in
    let whole : 1 + d + length value ≡ suc (length (p ++ value)) = omega (arith, length-append p value) in
    let none : n ≡ n + 0 = omega arith in
    then-on _ value (value-back at s (1 + d) (length value) value (back-within id p value rest d size) (back id p value rest d size))
    ∙ digits-read id _ value _ h ∙ cc

-- what a field's reading gives, and how many bytes the field takes
abbrev Back : List ℕ → ℕ → ℕ → Field → List ℕ → Type 0
Back seen n at f rest = field_of seen n at (field_bytes f ++ rest) ≡ got (record { field = f; size = length (field_bytes f); count = n + count_field f })

plain-complete : (id : ℕ) (value : List ℕ) (f : Format) (seen : List ℕ) (n at : ℕ) (rest : List ℕ) → format_of id ≡ f
    → SizeOk f (length value) → (holds_digits id ≡ true → Decimals value) → among seen id ≡ false → Back seen n at (plain id value) rest
unfolding SizeOk length_in unknown field_by field_bytes count_field
plain-complete id value Unknown seen n at rest e ok h new = absurd ok
plain-complete id value (Fixed k) seen n at rest e ok h new =
    rw e (field-by seen n at (id ∷ (value ++ rest)) id (Fixed k) refl e refl new ∙ rw (← ok) (plain_back id n at [] value rest 0 refl h))
plain-complete id value (Digits d) seen n at rest e ok h new =
    let p = digit_bytes d (length value) in
    rw e
    (field-by seen n at (id ∷ ((p ++ value) ++ rest)) id (Digits d) refl e refl new
    ∙ then-on _ (length value) (ap (digits_of d 0 (at + 1)) (append_assoc p value rest) ∙ digits-written d (at + 1) (length value) (value ++ rest) ok)
    ∙ plain_back id n at p value rest d (digit_bytes-size d (length value)) h)
plain-complete id value Container seen n at rest e ok h new = absurd ok

-- ---- containers
-- of all bytes only 06 is the id of a container; antt computes it
only : Format → ℕ → Bool
only Unknown id = true
only (Fixed k) id = true
only (Digits d) id = true
only Container id = eqb id 0x06

pub container-id : (id : ℕ) → id < 256 → format_of id ≡ Container → id ≡ 0x06
unfolding only all_from format_of among
container-id id h e = eqb-true id 0x06 (rw e at (at_from (λ i. only (format_of i) i) 0 256 refl id (omega arith) h))

container-sound : (id n at : ℕ) (t : List ℕ) (o : FieldRead) → Bytes (id ∷ t) → id ≡ 0x06 → container_of n at (id ∷ t) ≡ got o
    → FieldSound n (id ∷ t) o
unfolding field_bytes FieldOk field_id count_field sized
container-sound id n at t o b six e =
    let g = container-got n at (id ∷ t) o e in
    let d = form_size g.0.form in
    let v = g.0.value in
    let value = part (1 + d) (1 + d + v) (id ∷ t) in
    let r = run_sound deepest n _ value g.1 (bytes-part (1 + d) (1 + d + v) (id ∷ t) b) g.4 in
    let l = len-sound (at + 1) t g.0 (bytes_drop 1 (id ∷ t) b) g.2 in
    let size : length value ≡ v = omega (arith, part_length (id ∷ t) (1 + d) (1 + d + v) (omega arith) g.3) in
    rw g.5
    (record {
      bytes = rw (r.0, size, l.0, ← six) (sym (field-parts id t d v));
      ok = (rw (r.0, size) l.1, r.1);
      id = sym six;
      count = r.2;
      few = r.3;
    })

pub six : format_of 0x06 ≡ Container
unfolding format_of among
six = refl

container-back : (n at : ℕ) (form : Form) (w rest : List ℕ) (r : RunRead) → FormOk form (length w)
    → run_of deepest n (at + (1 + form_size form)) w ≡ got r
    → container_of n at (0x06 ∷ (sized form w ++ rest))
    ≡ got (record { field = container form r.objs; size = suc (length (sized form w)); count = r.count })
unfolding container_of sized
container-back n at form w rest r ok e =
    let p = len_bytes form (length w) in
    let s : List ℕ = 0x06 ∷ ((p ++ w) ++ rest) in
    let a = 1 + form_size form in
    let size = len_bytes-size form (length w) in
    let whole : a + length w ≡ suc (length (p ++ w)) = omega (arith, length-append p w) in
    then-on _ (record { form = form; value = length w })
    (ap (len_of (at + 1)) (append_assoc p w rest) ∙ len-written (at + 1) form (length w) (w ++ rest) ok)
    ∙ then-on _ w (value-back at s a (length w) w (back-within 0x06 p w rest (form_size form) size) (back 0x06 p w rest (form_size form) size))
    ∙ then-on _ r e ∙ cc

container-complete : (form : Form) (os : Objs) (seen : List ℕ) (n at : ℕ) (rest : List ℕ) → FormOk form (length (run_bytes os)) → RunOk os deepest
    → among seen 0x06 ≡ false → n + count_objs os ≤ most_objects → Back seen n at (container form os) rest
unfolding unknown field_by field_bytes count_field
container-complete form os seen n at rest ok deep new few =
    let w = run_bytes os in
    field-by seen n at (0x06 ∷ (sized form w ++ rest)) 0x06 Container refl six refl new
    ∙ container-back n at form w rest (record { objs = os; count = n + count_objs os }) ok
    (run-complete os deepest n (at + (1 + form_size form)) deep few)

-- ---- fields and lists
by-sound : (id n at : ℕ) (t : List ℕ) (f : Format) (o : FieldRead) → Bytes (id ∷ t) → format_of id ≡ f
    → field_by id n at (id ∷ t) f ≡ got o → FieldSound n (id ∷ t) o
unfolding field_by SizeOk length_in Bytes
by-sound id n at t Unknown o b e g = absurd (got-not-refused (sym g))
by-sound id n at t (Fixed k) o b e g = plain-sound id n at 0 k t o (rw e) (rw e) g
by-sound id n at t (Digits d) o b e g =
    let k = then-got (digits_of d 0 (at + 1) t) _ o g in
    let i = digits-in d 0 (at + 1) t k.0 k.1 in
    plain-sound id n at d k.0 t o (rw e (omega arith)) (rw e (digits-sound d 0 (at + 1) t k.0 k.1)) k.2
by-sound id n at t Container o b e g = container-sound id n at t o b (container-id id (b 0) e) g

pub field-sound : (seen : List ℕ) (n at : ℕ) (s : List ℕ) (o : FieldRead) → Bytes s → field_of seen n at s ≡ got o → FieldSound n s o
field-sound seen n at [] o b e = absurd (omega (arith, field_in seen n at [] o e))
field-sound seen n at (id ∷ t) o b e = by-sound id n at t (format_of id) o b refl (field-got seen n at (id ∷ t) o e).2

pub field-complete : (f : Field) (seen : List ℕ) (n at : ℕ) (rest : List ℕ) → FieldOk f → among seen (field_id f) ≡ false
    → n + count_field f ≤ most_objects
    → field_of seen n at (field_bytes f ++ rest) ≡ got (record { field = f; size = length (field_bytes f); count = n + count_field f })
unfolding FieldOk field_id count_field
field-complete (plain id value) seen n at rest ok new few = plain-complete id value (format_of id) seen n at rest refl ok.0 ok.1 new
field-complete (container form os) seen n at rest ok new few = container-complete form os seen n at rest ok.0 ok.1 new few

-- what is read of a list
abbrev pub ListSound : List ℕ → ℕ → List ℕ → ListRead → Type 0
ListSound seen n s r = (list_bytes r.fields ≡ s) × ListOk seen r.fields × (r.count ≡ n + count_fields r.fields) × (n ≤ most_objects → r.count ≤ most_objects)

none-sound : (seen : List ℕ) (n at : ℕ) (r : ListRead) → list_of seen n at [] ≡ got r → ListSound seen n [] r
unfolding list_bytes ListOk count_fields
none-sound seen n at r e = rw (got_same (sym e ∙ list-none seen n at [] refl)) (refl, tt, omega arith, λ k. k)

more-sound : (seen : List ℕ) (n : ℕ) (s : List ℕ) (o : FieldRead) (l r : ListRead) → FieldSound n s o → among seen (get_or s 0 0) ≡ false
    → ListSound (get_or s 0 0 ∷ seen) o.count (drop o.size s) l
    → ◌≡◌ {A = Reading ListRead} (got (record { fields = o.field ∷ l.fields; count = l.count })) (got r) → ListSound seen n s r
unfolding list_bytes ListOk count_fields
more-sound seen n s o l r g new h e =
    rw (← (got_same e))
    (rw (g.bytes, h.0) (take-append-drop o.size s), (g.ok, rw g.id new, rw g.id h.1), omega (arith, g.count, h.2), λ m. h.3 (g.few m))

sound-by : (f : ℕ) (seen : List ℕ) (n at : ℕ) (s : List ℕ) (r : ListRead) → length s ≤ f → Bytes s → list_of seen n at s ≡ got r
    → ListSound seen n s r
sound-by zero seen n at [] r h b e = none-sound seen n at r e
sound-by zero seen n at (id ∷ t) r h b e = absurd (omega arith)
sound-by (suc f) seen n at [] r h b e = none-sound seen n at r e
sound-by (suc f) seen n at (id ∷ t) r h b e =
    let s = id ∷ t in
    let k = then-got (field_of seen n at s) _ r (sym (list-step seen n at s (omega arith)) ∙ e) in
    let o = k.0 in
    let rest = drop o.size s in
    let i = field_in seen n at s o k.1 in
    let l = then-got (list_of (id ∷ seen) o.count (at + o.size) rest) _ r k.2 in
    let less : length rest ≤ f = omega (arith, length-drop o.size s) in
    let ih = sound-by f (id ∷ seen) o.count (at + o.size) rest l.0 less (bytes_drop o.size s b) l.1 in
    more-sound seen n s o l.0 r (field-sound seen n at s o b k.1) (field-got seen n at s o k.1).1 ih l.2

pub list-sound : (seen : List ℕ) (n at : ℕ) (s : List ℕ) (r : ListRead) → Bytes s → list_of seen n at s ≡ got r → ListSound seen n s r
list-sound seen n at s r = sound-by (length s) seen n at s r (omega arith)

pub begins : (f : Field) (rest : List ℕ) → get_or (field_bytes f ++ rest) 0 0 ≡ field_id f
unfolding field_bytes field_id
begins (plain id value) rest = refl
begins (container form os) rest = refl

more-back : (seen : List ℕ) (n at : ℕ) (w rest : List ℕ) (f : Field) (fs : List Field) (c d : ℕ)
    → field_of seen n at (w ++ rest) ≡ got (record { field = f; size = length w; count = c })
    → list_of (get_or (w ++ rest) 0 0 ∷ seen) c (at + length w) rest ≡ got (record { fields = fs; count = d })
    → list_of seen n at (w ++ rest) ≡ got (record { fields = f ∷ fs; count = d })
more-back seen n at w rest f fs c d g h =
    list-step seen n at (w ++ rest) (omega (arith, field_in seen n at (w ++ rest) _ g))
    ∙ then-on _ _ g ∙ then-on _ (record { fields = fs; count = d }) (rw (drop-append_seam w rest) h)

pub list-complete : (fs : List Field) (seen : List ℕ) (n at : ℕ) → ListOk seen fs → n + count_fields fs ≤ most_objects
    → list_of seen n at (list_bytes fs) ≡ got (record { fields = fs; count = n + count_fields fs })
unfolding list_bytes ListOk count_fields
list-complete [] seen n at ok few = let none : n ≡ n + 0 = omega arith in list-none seen n at [] refl ∙ cc
list-complete (f ∷ fs) seen n at ok few =
    let c = n + count_field f in
    let g = field-complete f seen n at (list_bytes fs) ok.0 ok.1 (omega arith) in
    let ih = list-complete fs (field_id f ∷ seen) c (at + length (field_bytes f)) ok.2 (omega arith) in
    let whole : c + count_fields fs ≡ n + (count_field f + count_fields fs) = omega arith in
    rw (← whole) (more-back seen n at (field_bytes f) (list_bytes fs) f fs c (c + count_fields fs) g (rw (begins f (list_bytes fs)) ih))
