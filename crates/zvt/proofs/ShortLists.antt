-- A list that is read: its first field and the rest, and what its shortest writing is. Assumes nothing.
use mathlib.Core.Path.{◌≡◌, refl, sym, ap, ap₂, ◌∙◌}
use mathlib.Core.Bool.{Bool, true, false, ◌||◌}
use mathlib.Core.List.{List, [], ◌∷◌, ◌++◌}
use Prim.Native.Nat.{ℕ, ◌+◌, ◌<◌, ◌≤◌}
use native.Mathlib.Omega.{arith}
use lib.ListN.{length, get_or, take, drop}
use lib.Seq.{take-suc}
use lib.Dec.{eqb}
use borrow.Author.Tests.{le-ltb}
use Rattle.std.proofs.Common.{Err, Ok}
use Rattle.basics.proofs.Tests.{never}
use Rattle.zvt_rules.specs.declared.Refusal.{Refusal}
use Rattle.zvt_rules.specs.declared.Format.{Format}
use Rattle.zvt_rules.specs.declared.Format.TheVariants.{Unknown, Fixed, Digits, Container}
use Rattle.basics.specs.Lists.{part, among}
use Rattle.zvt_rules.specs.Reading.{got, unless}
use Rattle.zvt_rules.specs.Limits.{most_objects}
use Rattle.zvt_rules.specs.Objects.{Form, form_size, Objs}
use Rattle.zvt_rules.specs.Fields.{format_of, digits_of, Field, plain, container, field_id, count_fields, FieldRead, ListRead, field_by, field_of, list_of}
use Rattle.zvt_rules.specs.believed.Writing.{sized, field_bytes, list_bytes, field_value}
use Rattle.zvt_rules.specs.Shortest.{short_field, short_list}
use Rattle.basics.specs.believed.Lists.{Bytes}
use Rattle.zvt_rules.specs.believed.Grammar.{ListOk}
use Rattle.zvt_rules.proofs.Readings.{got_same, got-not-refused, then-got, then-on}
use Rattle.zvt_rules.proofs.ObjectBytes.{bytes_drop, bytes-part, run_sound}
use Rattle.zvt_rules.proofs.FieldReading.{plain-got, container-got, field-got, list-none, list-step}
use Rattle.zvt_rules.proofs.FieldBytes.{FieldSound, field-sound, list-sound, list-complete}
use Rattle.zvt.specs.declared.objects.Bounds.{Bounds}
use Rattle.zvt.specs.ObjectSteps.{as_bounds, bounds_in}
use Rattle.zvt.specs.FieldSteps.{bounds_by, field_bounds}
use Rattle.zvt.specs.WritingSteps.{head_bytes, value_bytes, RunReads, short_field_of, ListReads, list_written, short_list_of}
use Rattle.zvt.proofs.ShortRuns.{Alone, run_alone, bounds-are, bounds-never}

-- ---- a list that is read is read alone too: after no ids, after no objects, at no place
Fewer : List ℕ → List ℕ → Type 0
Fewer less seen = (x : ℕ) → among seen x ≡ false → among less x ≡ false

or-fewer : (t u v : Bool) → (u ≡ false → v ≡ false) → (t || u) ≡ false → (t || v) ≡ false
or-fewer true u v h e = e
or-fewer false u v h e = h e

fewer-more : (k : ℕ) (less seen : List ℕ) → Fewer less seen → Fewer (k ∷ less) (k ∷ seen)
unfolding Fewer among
fewer-more k less seen h x = or-fewer (eqb k x) (among seen x) (among less x) (h x)

fewer : (fs : List Field) (less seen : List ℕ) → Fewer less seen → ListOk seen fs → ListOk less fs
unfolding Fewer ListOk
fewer [] less seen h ok = tt
fewer (f ∷ fs) less seen h ok =
    (ok.0, h (field_id f) ok.1, fewer fs (field_id f ∷ less) (field_id f ∷ seen) (fewer-more (field_id f) less seen h) ok.2)

pub list-alone : (seen : List ℕ) (n at : ℕ) (s : List ℕ) (r : ListRead) → Bytes s → n ≤ most_objects → list_of seen n at s ≡ got r
    → list_of [] 0 0 s ≡ got (record { fields = r.fields; count = 0 + count_fields r.fields })
unfolding Fewer among
list-alone seen n at s r b h e =
    let f = list-sound seen n at s r b e in
    let few : 0 + count_fields r.fields ≤ most_objects = omega (arith, f.2, f.3 h) in
    rw f.0 at (list-complete r.fields [] 0 0 (fewer r.fields [] seen (λ x m. refl) f.1) few)

-- ---- where the parts of a field lie
pub record FieldAt (s : List ℕ) (b : Bounds) (f : Field) : Type 0 where
  pub start : 1 ≤ b.from
  pub order : b.from ≤ b.to
  pub within : b.to ≤ length s
  pub value : field_value f ≡ part b.from b.to s
  pub plainly : b.nested ≡ false → f ≡ plain (get_or s 0 0) (part b.from b.to s)
  pub run : b.nested ≡ true → (form : Form) × (os : Objs) × (f ≡ container form os) × Alone (part b.from b.to s) os

abbrev Bounded : List ℕ → Format → FieldRead → Type 0
Bounded s format o = (b : Bounds) × (bounds_by 0 s format ≡ got b) × (b.to ≡ o.size) × FieldAt s b o.field

bounds-fit : (a v : ℕ) (run : Bool) (s : List ℕ) → a + v ≤ length s
    → bounds_in 0 1 a v run s ≡ got (record { tag = 1; from = a; to = a + v; nested = run })
unfolding bounds_in unless
bounds-fit a v run s h = rw (le-ltb (length s) (a + v) h)

plain-at : (s : List ℕ) (a v : ℕ) (o : FieldRead) → 1 ≤ a → a + v ≤ length s
    → o ≡ record { field = plain (get_or s 0 0) (part a (a + v) s); size = a + v; count = 0 }
    → (b : Bounds) × (bounds_in 0 1 a v false s ≡ got b) × (b.to ≡ o.size) × FieldAt s b o.field
unfolding field_value
plain-at s a v o l h e = (
  record { tag = 1; from = a; to = a + v; nested = false },
  bounds-fit a v false s h,
  ap (λ (x : FieldRead). x.size) (sym e),
  record {
    start = l;
    order = omega arith;
    within = h;
    value = ap (λ (x : FieldRead). field_value x.field) e;
    plainly = λ _. ap (λ (x : FieldRead). x.field) e;
    run = λ t. never cc;
  },
)

field_at : (s : List ℕ) (format : Format) (o : FieldRead) → Bytes s → field_by (get_or s 0 0) 0 0 s format ≡ got o → Bounded s format o
unfolding field_by bounds_by field_value
field_at s Unknown o bs e = absurd (got-not-refused (sym e))
field_at s (Fixed k) o bs e =
    let p = plain-got (get_or s 0 0) 0 0 1 k s o e in
    plain-at s 1 k o (omega arith) p.0 p.2
field_at s (Digits d) o bs e =
    let k = then-got (digits_of d 0 (0 + 1) (drop 1 s)) _ o e in
    let p = plain-got (get_or s 0 0) 0 0 (1 + d) k.0 s o k.2 in
    let q = plain-at s (1 + d) k.0 o (omega arith) p.0 p.2 in
    (q.0, then-on _ k.0 k.1 ∙ q.1, q.2, q.3)
field_at s Container o bs e =
    let p = container-got 0 0 s o e in
    let l = p.0 in
    let a = 1 + form_size l.form in
    let value = part a (a + l.value) s in
    let vs = bytes-part a (a + l.value) s bs in
    let alone = run_alone 4 0 (0 + a) value p.1 vs (omega arith) (omega arith) p.4 in (
      record { tag = 1; from = a; to = a + l.value; nested = true },
      then-on _ l p.2 ∙ bounds-fit a l.value true s p.3,
      ap (λ (x : FieldRead). x.size) (sym p.5),
      record {
        start = omega arith;
        order = omega arith;
        within = p.3;
        value = ap (λ (x : FieldRead). field_value x.field) p.5 ∙ (run_sound 4 0 (0 + a) value p.1 vs p.4).0;
        plainly = λ t. never cc;
        run = λ _. (l.form, p.1.objs, ap (λ (x : FieldRead). x.field) p.5, alone);
      },
    )

-- ---- the shortest writing of a field
field-short : (s : List ℕ) (b : Bounds) (o : FieldRead) → FieldAt s b o.field → FieldSound 0 s o → b.to ≡ o.size
    → field_bytes (short_field o.field) ≡ short_field_of b s
unfolding field_bytes short_field short_field_of value_bytes head_bytes sized field_id
field-short s b o at sound size = go b.nested refl
  where
    go : (t : Bool) → b.nested ≡ t → field_bytes (short_field o.field) ≡ short_field_of b s
    go false t =
        let e = at.plainly t in
        rw t (ap field_bytes (ap short_field e ∙ sym e) ∙ sound.bytes ∙ ap (λ (k : ℕ). take k s) (sym size))
    go true t =
        let r = at.run t in
        let id : 0x06 ≡ get_or s 0 0 = ap field_id (sym r.2) ∙ sound.id in
        let first : take 1 s ≡ 0x06 ∷ [] = take-suc s 0 0 (omega (arith, at.start, at.order, at.within)) ∙ ap (λ (k : ℕ). k ∷ []) (sym id) in
        rw (t, r.2, first, r.3.short)

-- ---- no bytes, and the first field
pub record FirstField (s : List ℕ) (r : ListRead) (b : Bounds) : Type 0 where
  pub bounds : bounds_by 0 s (format_of (get_or s 0 0)) ≡ got b
  pub field : Field
  pub at : FieldAt s b field
  pub id : field_id field ≡ get_or s 0 0
  pub bytes : field_bytes field ≡ take b.to s
  pub short : field_bytes (short_field field) ≡ short_field_of b s
  pub rest : ListRead
  pub behind : list_of [] 0 0 (drop b.to s) ≡ got rest
  pub all : r.fields ≡ field ∷ rest.fields

read-fields : (x y : ListRead) → got x ≡ got y → y.fields ≡ x.fields
read-fields x y e = ap (λ (r : ListRead). r.fields) (sym (got_same e))

pub first_field : (s : List ℕ) (r : ListRead) → Bytes s → list_of [] 0 0 s ≡ got r → 0 < length s → (b : Bounds) × FirstField s r b
first_field s r bs e l =
    let k = then-got (field_of [] 0 0 s) _ r (sym (list-step [] 0 0 s l) ∙ e) in
    let o = k.0 in
    let q = then-got (list_of (get_or s 0 0 ∷ []) o.count (0 + o.size) (drop o.size s)) _ r k.2 in
    let sound = field-sound [] 0 0 s o bs k.1 in
    let at = field_at s (format_of (get_or s 0 0)) o bs (field-got [] 0 0 s o k.1).2 in
    let b = at.0 in
    let tail = drop o.size s in
    let alone = list-alone (get_or s 0 0 ∷ []) o.count (0 + o.size) tail q.0 (bytes_drop o.size s bs) (sound.few (omega arith)) q.1 in (
      b,
      record {
        bounds = at.1;
        field = o.field;
        at = at.3;
        id = sound.id;
        bytes = rw at.2 sound.bytes;
        short = field-short s b o at.3 sound at.2;
        rest = record { fields = q.0.fields; count = 0 + count_fields q.0.fields };
        behind = rw at.2 alone;
        all = read-fields _ r q.2;
      },
    )

pub list-written : (s : List ℕ) (r : ListRead) → list_of [] 0 0 s ≡ got r → short_list_of s ≡ list_bytes (short_list r.fields)
unfolding short_list_of list_written
list-written s r e = rw e

pub list-short-none : (s : List ℕ) → length s ≡ 0 → short_list_of s ≡ []
unfolding list_bytes short_list
list-short-none s h = list-written s _ (list-none [] 0 0 s h)

-- as the writer finds it
pub record FieldToPut (s : List ℕ) (b : Bounds) : Type 0 where
  pub start : 1 ≤ b.from
  pub order : b.from ≤ b.to
  pub within : b.to ≤ length s
  pub inside : b.nested ≡ true → RunReads (part b.from b.to s)
  pub rest : ListReads (drop b.to s)
  pub all : short_list_of s ≡ short_field_of b s ++ short_list_of (drop b.to s)

field-to-put : (s : List ℕ) → Bytes s → ListReads s → 0 < length s → (b : Bounds) × (field_bounds 0 s ≡ Ok b) × FieldToPut s b
unfolding ListReads field_bounds as_bounds list_bytes short_list
field-to-put s bs r l =
    let f = (first_field s r.0 bs r.1 l).1 in
    let b = (first_field s r.0 bs r.1 l).0 in (
      b,
      ap as_bounds f.bounds,
      record {
        start = f.at.start;
        order = f.at.order;
        within = f.at.within;
        inside = λ t. (f.at.run t).3.reads;
        rest = (f.rest, f.behind);
        all =
            list-written s r.0 r.1 ∙ ap (λ (fs : List Field). list_bytes (short_list fs)) f.all
            ∙ ap₂ (λ (u v : List ℕ). u ++ v) f.short (sym (list-written _ f.rest f.behind));
      },
    )

pub field_is : (s : List ℕ) (b : Bounds) → Bytes s → ListReads s → 0 < length s → field_bounds 0 s ≡ Ok b → FieldToPut s b
field_is s b bs r l = bounds-are _ (field-to-put s bs r l) b

pub field-never : (s : List ℕ) (r : Refusal) → Bytes s → ListReads s → 0 < length s → field_bounds 0 s ≡ Err r → ⊥
field-never s r bs reads l = bounds-never _ (field-to-put s bs reads l) r
