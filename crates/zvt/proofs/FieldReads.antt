-- What the reader of a field answers, by where the value lies. Assumes nothing.
use mathlib.Core.Path.{◌≡◌, refl, sym, ap, ◌∙◌}
use mathlib.Core.Bool.{Bool, true, false}
use mathlib.Core.List.{List}
use Prim.Native.Nat.{ℕ, ◌+◌, ◌-◌, ◌≤◌}
use native.Mathlib.Omega.{arith}
use lib.ListN.{length, get_or, drop}
use borrow.Author.Tests.{ltb-false}
use Rattle.std.proofs.Common.{Err, Ok, Result}
use Rattle.zvt_rules.specs.declared.Refusal.{Refusal}
use Rattle.zvt_rules.specs.declared.Format.{Format}
use Rattle.zvt_rules.specs.declared.Format.TheVariants.{Unknown, Fixed, Digits, Container}
use Rattle.basics.specs.Lists.{part}
use Rattle.zvt_rules.specs.Reading.{Reading, got, refused, fault_at, unless, and_then}
use Rattle.zvt_rules.specs.Limits.{deepest}
use Rattle.zvt_rules.specs.Objects.{form_size, Len, len_of, RunRead, run_of}
use Rattle.zvt_rules.specs.Fields.{format_of, unknown, digits_of, digits_in, plain, container, FieldRead, value_of, plain_of, container_of, field_by}
use Rattle.zvt_rules.specs.believed.Writing.{run_bytes, field_bytes, field_value}
use Rattle.zvt_rules.specs.Shortest.{form_for, short_run, short_field}
use Rattle.basics.specs.believed.Lists.{Bytes}
use Rattle.zvt_rules.proofs.Readings.{got_same, got-not-refused, unless-got, unless-on, then-got, then-on, then-stop}
use Rattle.zvt_rules.proofs.ObjectReading.{part_length}
use Rattle.basics.proofs.Tests.{by-test, never}
use Rattle.zvt_rules.proofs.ObjectBytes.{bytes_drop, bytes-part, run_sound}
use Rattle.zvt_rules.proofs.FieldReading.{digits-got}
use Rattle.zvt_rules.proofs.Lengths.{sized-size, len-sound}
use Rattle.zvt.specs.declared.objects.Bounds.{Bounds}
use Rattle.zvt.specs.declared.objects.Tally.{Tally}
use Rattle.zvt.specs.declared.objects.Located.{Located}
use Rattle.zvt.proofs.Located.{located-stopped, located-got, got-located, stopped-located}
use Rattle.zvt.specs.ObjectSteps.{as_bounds, as_part, bounds_in, spare_run, tally_of, run_tally, run_answer}
use Rattle.zvt.specs.FieldSteps.{bounds_by, field_bounds, spare_field, field_tally, plain_answer, field_when, field_part, value_begins, field_located}
use Rattle.zvt.proofs.RunLaws.{part-got, part-stopped, spare-read, tally-is, Fits, tally-fits}

-- ---- readings that stop alike
cut-alike : {A B : Type 0} (t : Bool) (q r : Refusal) (x : A) (y : B) → unless t q (got x) ≡ refused r → unless t q (got y) ≡ refused r
unfolding unless
cut-alike true q r x y e = cc
cut-alike false q r x y e = absurd (got-not-refused e)

both-stop : {A B C : Type 0} (x : Reading A) (f : A → Reading B) (g : A → Reading C) (r : Refusal)
    → ((a : A) → f a ≡ refused r → g a ≡ refused r) → and_then x f ≡ refused r → and_then x g ≡ refused r
unfolding and_then
both-stop (got a) f g r h e = h a e
both-stop (refused q) f g r h e = cc

-- ---- bounds that were found, and not
found : (x : Reading Bounds) (b : Bounds) → as_bounds x ≡ Ok b → x ≡ got b
unfolding as_bounds
found (got a) b e = cc
found (refused r) b e = never cc

not_found : (x : Reading Bounds) (r : Refusal) → as_bounds x ≡ Err r → x ≡ refused r
unfolding as_bounds
not_found (got a) r e = never cc
not_found (refused q) r e = cc

module _ (at a v : ℕ) (run : Bool) (s : List ℕ) where
  no_value : (r : Refusal) → bounds_in at 1 a v run s ≡ refused r → value_of at a v s ≡ refused r
  unfolding bounds_in value_of
  no_value r e = cut-alike _ _ r _ _ e

  value_found : (b : Bounds) → bounds_in at 1 a v run s ≡ got b
      → (a + v ≤ length s) × (record { tag = 1; from = a; to = a + v; nested = run } ≡ b) × (value_of at a v s ≡ got (part a (a + v) s))
  unfolding bounds_in value_of
  value_found b e = let k = unless-got _ _ _ b e in (ltb-false _ _ k.0, got_same k.1, unless-on _ _ k.0)

  lies-found : (b : Bounds) → bounds_in at 1 a v run s ≡ got b → (b.from ≤ b.to) × (b.to ≤ length s)
  lies-found b e = let k = value_found b e in rw (sym k.1) (omega arith, k.0)

-- ---- the field by the format of its id
by-lies : (at : ℕ) (s : List ℕ) (f : Format) (b : Bounds) → bounds_by at s f ≡ got b → (b.from ≤ b.to) × (b.to ≤ length s)
unfolding bounds_by
by-lies at s Unknown b e = absurd (got-not-refused (sym e))
by-lies at s (Fixed k) b e = lies-found at 1 k false s b e
by-lies at s (Digits d) b e =
    let k = then-got (digits_of d 0 (at + 1) (drop 1 s)) _ b e in lies-found at (1 + d) k.0 false s b k.2
by-lies at s Container b e =
    let k = then-got (len_of (at + 1) (drop 1 s)) _ b e in lies-found at (1 + form_size k.0.form) k.0.value true s b k.2

module _ (id n at : ℕ) (s : List ℕ) where
  by-stopped : (f : Format) (r : Refusal) → bounds_by at s f ≡ refused r → field_by id n at s f ≡ refused r
  unfolding bounds_by field_by plain_of container_of
  by-stopped Unknown r e = cc
  by-stopped (Fixed k) r e = then-stop _ r (no_value at 1 k false s r e)
  by-stopped (Digits d) r e = both-stop _ _ _ r (λ v h. then-stop _ r (no_value at (1 + d) v false s r h)) e
  by-stopped Container r e = both-stop _ _ _ r (λ l h. then-stop _ r (no_value at (1 + form_size l.form) l.value true s r h)) e

  abbrev plain_at : Bounds → Reading FieldRead
  plain_at b =
      digits_in id (at + b.from) (part b.from b.to s) (got (record { field = plain id (part b.from b.to s); size = b.to; count = n }))

  plain-found : (a v : ℕ) (b : Bounds) → bounds_in at 1 a v false s ≡ got b → plain_of id n at a v s ≡ plain_at b
  unfolding plain_of
  plain-found a v b e = let k = value_found at a v false s b e in rw (sym k.1) (then-on _ _ k.2)

  by-plain : (f : Format) (b : Bounds) → bounds_by at s f ≡ got b → b.nested ≡ false → field_by id n at s f ≡ plain_at b
  unfolding bounds_by field_by
  by-plain Unknown b e h = absurd (got-not-refused (sym e))
  by-plain (Fixed k) b e h = plain-found 1 k b e
  by-plain (Digits d) b e h =
      let k = then-got (digits_of d 0 (at + 1) (drop 1 s)) _ b e in then-on _ _ k.1 ∙ plain-found (1 + d) k.0 b k.2
  by-plain Container b e h =
      let k = then-got (len_of (at + 1) (drop 1 s)) _ b e in
      let i = value_found at (1 + form_size k.0.form) k.0.value true s b k.2 in
      never cc

  -- a container's length, and its run still to be read
  pub record Contained (f : Format) (b : Bounds) : Type 0 where
    pub len : Len
    pub read : len_of (at + 1) (drop 1 s) ≡ got len
    pub tag : b.tag ≡ 1
    pub from : b.from ≡ 1 + form_size len.form
    pub to : b.to ≡ b.from + len.value
    pub then :
        field_by id n at s f
        ≡ and_then (run_of deepest n (at + b.from) (part b.from b.to s)) λ r.
        got (record { field = container len.form r.objs; size = b.to; count = r.count })

  by-container : (f : Format) (b : Bounds) → bounds_by at s f ≡ got b → b.nested ≡ true → Contained f b
  unfolding bounds_by field_by container_of
  by-container Unknown b e h = absurd (got-not-refused (sym e))
  by-container (Fixed k) b e h =
      let i = value_found at 1 k false s b e in never cc
  by-container (Digits d) b e h =
      let k = then-got (digits_of d 0 (at + 1) (drop 1 s)) _ b e in
      let i = value_found at (1 + d) k.0 false s b k.2 in
      never cc
  by-container Container b e h =
      let k = then-got (len_of (at + 1) (drop 1 s)) _ b e in
      let i = value_found at (1 + form_size k.0.form) k.0.value true s b k.2 in
      rw (sym i.1)
      (record { len = k.0; read = k.1; tag = refl; from = refl; to = refl; then = then-on _ _ k.1 ∙ then-on _ _ i.2 })

-- ---- the answer for a field
when-by : (id n at : ℕ) (s : List ℕ) (f : Format)
    → unless (unknown f) (fault_at 5 at) (unless false (fault_at 7 at) (field_by id n at s f)) ≡ field_by id n at s f
unfolding unless unknown field_by
when-by id n at s Unknown = refl
when-by id n at s (Fixed k) = refl
when-by id n at s (Digits d) = refl
when-by id n at s Container = refl

pub field-unknown : (twice : Bool) (n at : ℕ) (s : List ℕ) → format_of (get_or s 0 0) ≡ Unknown → field_part twice n at s ≡ Err (fault_at 5 at)
unfolding field_part field_when unless unknown as_part
field-unknown twice n at s e = rw e

pub field-twice : (twice : Bool) (n at : ℕ) (s : List ℕ) → unknown (format_of (get_or s 0 0)) ≡ false → twice ≡ true
    → field_part twice n at s ≡ Err (fault_at 7 at)
unfolding field_part field_when unless as_part
field-twice twice n at s e f = rw (e, f)

pub field-value : (at : ℕ) (s : List ℕ) (b : Bounds) → field_bounds at s ≡ Ok b → (b.from ≤ b.to) × (b.to ≤ length s)
unfolding field_bounds
field-value at s b e = by-lies at s (format_of (get_or s 0 0)) b (found _ b e)

-- the container that lies there is answered by its tally
abbrev pub Answered : Bool → ℕ → ℕ → List ℕ → Bounds → ℕ → ℕ → Type 0
Answered twice n at s b objects saved = Fits b saved × (field_part twice n at s ≡ Ok (tally_of b objects saved))

module _ (twice : Bool) (n at : ℕ) (s : List ℕ) (once : twice ≡ false) where
  abbrev format : Format
  format = format_of (get_or s 0 0)

  by-format : (x : Reading FieldRead) → field_by (get_or s 0 0) n at s format ≡ x → field_part twice n at s ≡ as_part field_tally x
  unfolding field_part field_when
  by-format x e = ap (as_part field_tally) (rw once (when-by (get_or s 0 0) n at s format) ∙ e)

  pub field-no-bounds : (r : Refusal) → field_bounds at s ≡ Err r → field_part twice n at s ≡ Err r
  unfolding field_bounds as_part
  field-no-bounds r e = by-format _ (by-stopped (get_or s 0 0) n at s format r (not_found _ r e))

  pub field_plain : (b : Bounds) → field_bounds at s ≡ Ok b → b.nested ≡ false → field_part twice n at s ≡ plain_answer n at b s
  unfolding field_bounds plain_answer
  field_plain b e h = by-format _ (by-plain (get_or s 0 0) n at s format b (found _ b e) h)

  module _ (b : Bounds) (bounds : field_bounds at s ≡ Ok b) (h : b.nested ≡ true) where
    -- the answer for the run inside
    abbrev inner : Result Tally Refusal
    inner = run_answer deepest n (at + b.from) (part b.from b.to s)

    contained : Contained (get_or s 0 0) n at s format b
    unfolding field_bounds
    contained = by-container (get_or s 0 0) n at s format b (found _ b bounds) h

    pub field-no-inner : (r : Refusal) → inner ≡ Err r → field_part twice n at s ≡ Err r
    unfolding run_answer as_part
    field-no-inner r e = by-format _ (contained.then ∙ then-stop _ r (part-stopped _ _ r e))

    container-tally : Bytes s → (r : RunRead) → run_of deepest n (at + b.from) (part b.from b.to s) ≡ got r
        → Answered twice n at s b r.count (spare_run r.objs)
    unfolding as_part field_tally spare_field field_bytes short_field
    container-tally bs r e =
        let c = contained in
        let l = c.len in
        let f = len-sound (at + 1) (drop 1 s) l (bytes_drop 1 s bs) c.read in
        let i = spare-read deepest n (at + b.from) (part b.from b.to s) r (bytes-part b.from b.to s bs) e in
        let w = field-value at s b bounds in
        let v : length (part b.from b.to s) ≡ l.value = omega (arith, part_length s b.from b.to w.0 w.1) in
        let short = run_bytes (short_run r.objs) in (
          tally-fits b l.form l.value (spare_run r.objs) f.1 (omega arith) c.to (omega arith),
          by-format _ (c.then ∙ then-on _ r e)
              ∙ ap Ok (tally-is b r.count (spare_run r.objs) _ _ (length short)
              (omega (arith, sized-size l.form (run_bytes r.objs))) (omega arith)
              (omega (arith, sized-size (form_for (length short)) short))),
        )

    pub field-container : Bytes s → (r : Tally) → inner ≡ Ok r → Answered twice n at s b r.objects r.spare
    unfolding run_answer run_tally
    field-container bs =
        part-got (run_tally (part b.from b.to s)) (run_of deepest n (at + b.from) (part b.from b.to s))
        (λ r. Answered twice n at s b r.objects r.spare) (container-tally bs)

-- ---- where the value begins
-- where the value of a field that is read begins
abbrev pub ValueFrom : Bool → ℕ → ℕ → List ℕ → ℕ → Type 0
ValueFrom twice n at s from = (o : FieldRead) → field_when twice n at s ≡ got o → from ≡ value_begins o

module _ (n at : ℕ) (s : List ℕ) (bs : Bytes s) (b : Bounds) (bounds : field_bounds at s ≡ Ok b) where
  abbrev id : ℕ
  id = get_or s 0 0

  value-length : length (part b.from b.to s) ≡ b.to - b.from
  value-length = let w = field-value at s b bounds in part_length s b.from b.to w.0 w.1

  pub value-from : ValueFrom false n at s b.from
  unfolding field_when field_bounds field_value value_begins
  value-from o e =
      let w = field-value at s b bounds in
      let g = found _ b bounds in
      let f : field_by id n at s (format_of id) ≡ got o = sym (when-by id n at s (format_of id)) ∙ e in
      by-test b.nested
      (λ t.
      let c = by-container id n at s (format_of id) b g t in
      let k = then-got (run_of deepest n (at + b.from) (part b.from b.to s)) _ o (sym c.then ∙ f) in
      let run = (run_sound deepest n (at + b.from) (part b.from b.to s) k.0 (bytes-part b.from b.to s bs) k.1).0 in
      rw (← (got_same k.2), run, value-length) (omega (arith, w.0)))
      (λ t.
      let d = digits-got id (at + b.from) (part b.from b.to s) _ o (sym (by-plain id n at s (format_of id) b g t) ∙ f) in
      rw (← (got_same d.1), value-length) (omega (arith, w.0)))

-- it does not lie behind the field
pub from-inside : (twice : Bool) (n at : ℕ) (s : List ℕ) (from : ℕ) → ValueFrom twice n at s from → (t : Tally) → field_part twice n at s ≡ Ok t → from ≤ t.size
unfolding field_part field_tally value_begins
from-inside twice n at s from v = part-got field_tally (field_when twice n at s) (λ t. from ≤ t.size) (λ o e. omega (arith, v o e))

-- ---- a field that was read, and one that is refused
module _ (twice : Bool) (n at : ℕ) (s : List ℕ) where
  pub field-located : (t : Tally) (from : ℕ) → field_part twice n at s ≡ Ok t → ValueFrom twice n at s from
      → Ok (record { tally = t; lies = from }) ≡ field_located twice n at s
  unfolding field_part field_located
  field-located t from e v = sym (located-got field_tally value_begins (field_when twice n at s) t from e v)

  pub field-stopped : (r : Refusal) → field_part twice n at s ≡ Err r → Err r ≡ field_located twice n at s
  unfolding field_part field_located
  field-stopped r e = sym (located-stopped field_tally value_begins (field_when twice n at s) r e)

  pub field-read : (r : Located ℕ) → field_located twice n at s ≡ Ok r → (field_part twice n at s ≡ Ok r.tally) × ValueFrom twice n at s r.lies
  unfolding field_part field_located
  field-read r e = got-located field_tally value_begins (field_when twice n at s) r e

  pub field-refused : (r : Refusal) → field_located twice n at s ≡ Err r → field_part twice n at s ≡ Err r
  unfolding field_part field_located
  field-refused r e = stopped-located field_tally value_begins (field_when twice n at s) r e
