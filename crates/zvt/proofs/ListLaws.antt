-- What the reader of a list answers from the i-th byte on, and what the marks of ids say. Assumes nothing.
use mathlib.Core.Path.{◌≡◌, refl, sym, ap, ◌∙◌}
use mathlib.Core.Bool.{Bool, true, false, ◌||◌}
use mathlib.Core.List.{List, [], ◌∷◌}
use Prim.Native.Nat.{ℕ, ◌+◌, ◌-◌, ◌<◌, ◌≤◌}
use native.Mathlib.Nat.{add-zero, add_assoc}
use native.Mathlib.Omega.{arith}
use lib.ListN.{length, get_or, drop, set, length-set, replicate, length-replicate, get_or-replicate, length-append, length-drop}
use lib.Seq.{get_or-set_same, get_or-set_other, get_or-drop, drop-drop, length-take-le}
use lib.Dec.{eqb}
use borrow.Author.Tests.{eqb-true, eqb-false}
use Rattle.std.proofs.Common.{Err, Ok, Result}
use Rattle.zvt_rules.specs.declared.Refusal.{Refusal}
use Rattle.basics.specs.Lists.{among}
use Rattle.zvt_rules.specs.Reading.{got}
use Rattle.zvt_rules.specs.Fields.{format_of, Field, field_id, FieldRead, ListRead, field_of, list_of, plain, container}
use Rattle.zvt_rules.specs.believed.Writing.{run_bytes, field_bytes, list_bytes, field_value, sized, length_in, len_bytes}
use Rattle.zvt_rules.specs.Listed.{listed_at, listed_from}
use Rattle.zvt_rules.specs.Shortest.{short_field, short_list}
use Rattle.basics.specs.believed.Lists.{Bytes}
use Rattle.zvt_rules.specs.believed.Grammar.{FieldOk, ListOk}
use Rattle.zvt_rules.proofs.Readings.{then-on, then-stop}
use Rattle.zvt_rules.proofs.ObjectBytes.{bytes_drop}
use Rattle.zvt_rules.proofs.FieldReading.{field_in, list-none, list-step}
use Rattle.zvt_rules.proofs.FieldBytes.{field-sound, list-sound}
use Rattle.zvt_rules.proofs.FieldShort.{field-shorter, list-shorter}
use Rattle.zvt.specs.declared.objects.Tally.{Tally}
use Rattle.zvt.specs.ObjectSteps.{as_part}
use Rattle.zvt.specs.FieldSteps.{spare_field, spare_list, field_tally, list_tally, field_when, field_part, list_answer, value_begins}
use Rattle.zvt.proofs.RunLaws.{part-got, part-stopped, part-alike, part_then, spared}
use Rattle.zvt.proofs.FieldReads.{ValueFrom}

-- ---- the marks: at each id, whether it is one of those that came
abbrev pub Marks : List Bool → List ℕ → Type 0
Marks seen ids = (length seen ≡ 256) × ((k : ℕ) → k < 256 → get_or seen k false ≡ among ids k)

pub marks-none : Marks (replicate 256 false) []
unfolding among
marks-none = (length-replicate 256 false, λ k h. get_or-replicate 256 k false false h)

pub marks-more : (seen : List Bool) (ids : List ℕ) (id : ℕ) → id < 256 → Marks seen ids → Marks (set seen id true) (id ∷ ids)
unfolding among
marks-more seen ids id l m = (length-set seen id true ∙ m.0, λ k h. go k h (eqb id k) refl)
  where
    go : (k : ℕ) → k < 256 → (t : Bool) → eqb id k ≡ t → get_or (set seen id true) k false ≡ (t || among ids k)
    go k h true e = rw (sym (eqb-true id k e)) (get_or-set_same seen id true false (omega (arith, m.0)))
    go k h false e = get_or-set_other seen id k true false (λ f. eqb-false id k e (sym f)) ∙ m.1 k h

-- ---- the bytes saved
spare_more : (f : Field) (fs : List Field) (ids : List ℕ) → FieldOk f → ListOk ids fs → spare_list (f ∷ fs) ≡ spare_field f + spare_list fs
unfolding spare_field spare_list list_bytes short_list
spare_more f fs ids a b =
    omega (
      arith,
      field-shorter f a,
      list-shorter fs ids b,
      length-append (field_bytes f) (list_bytes fs),
      length-append (field_bytes (short_field f)) (list_bytes (short_list fs)),
    )

-- the tally of a list of which so many bytes are saved already
abbrev tally_from : ℕ → ℕ → ListRead → Tally
tally_from size spare r = record { size = size; objects = r.count; spare = spare + spare_list r.fields }

module _ (ids : List ℕ) (twice : Bool) (n at : ℕ) (s : List ℕ) (seen : twice ≡ among ids (get_or s 0 0)) where
  field_is : field_when twice n at s ≡ field_of ids n at s
  unfolding field_when field_of
  field_is = rw seen

  list-no-first : 0 < length s → (r : Refusal) → field_part twice n at s ≡ Err r → (f : ListRead → Tally)
      → as_part f (list_of ids n at s) ≡ Err r
  unfolding field_part as_part
  list-no-first l r e f = ap (as_part f) (list-step ids n at s l ∙ then-stop _ r (sym field_is ∙ part-stopped _ _ r e))

  abbrev Goes : ℕ → ℕ → Tally → Type 0
  Goes size spare t =
      (1 ≤ t.size) × (t.size ≤ length s) × (t.spare ≤ t.size)
      × (as_part (tally_from size spare) (list_of ids n at s)
      ≡ as_part (tally_from size (spare + t.spare)) (list_of (get_or s 0 0 ∷ ids) t.objects (at + t.size) (drop t.size s)))

  goes : Bytes s → 0 < length s → (size spare : ℕ) (o : FieldRead) → field_when twice n at s ≡ got o → Goes size spare (field_tally o)
  unfolding field_tally spare_field
  goes b l size spare o e =
      let f = sym field_is ∙ e in
      let i = field_in ids n at s o f in
      let g = field-sound ids n at s o b f in
      let size_is : length (field_bytes o.field) ≡ o.size = ap length g.bytes ∙ length-take-le o.size s i.1 in
      let next = get_or s 0 0 ∷ ids in
      let left = drop o.size s in (
        i.0,
        i.1,
        omega arith,
        ap (as_part (tally_from size spare)) (list-step ids n at s l ∙ then-on _ o f)
            ∙ part_then (tally_from size spare) (tally_from size (spare + spare_field o.field)) (list_of next o.count (at + o.size) left)
            (λ r. record { fields = o.field ∷ r.fields; count = r.count })
            (λ r h.
            let k = list-sound next o.count (at + o.size) left r (bytes_drop o.size s b) h in
            spared size r.count (omega (arith, spare_more o.field r.fields next g.ok k.1))),
      )

  list-goes : Bytes s → 0 < length s → (size spare : ℕ) (t : Tally) → field_part twice n at s ≡ Ok t → Goes size spare t
  unfolding field_part
  list-goes b l size spare = part-got field_tally (field_when twice n at s) (Goes size spare) (goes b l size spare)

-- ---- a list from the i-th byte on, with so many bytes saved before
module _ (at : ℕ) (s : List ℕ) where
  abbrev pub list_from : List ℕ → ℕ → ℕ → ℕ → Result Tally Refusal
  list_from ids n i spare = as_part (tally_from (length s) spare) (list_of ids n (at + i) (drop i s))

  pub list-begins : list_answer at s ≡ list_from [] 0 0 0
  unfolding list_answer list_tally
  list-begins = rw add-zero (part-alike _ _ (list_of [] 0 at s) (λ r. spared (length s) r.count (omega arith)))

  module _ (ids : List ℕ) (n i spare : ℕ) where
    pub list-ends : i ≤ length s → length s ≤ i → list_from ids n i spare ≡ Ok (record { size = i; objects = n; spare = spare })
    unfolding as_part spare_list list_bytes short_list
    list-ends l h =
        let e : length s ≡ i = omega arith in
        rw (list-none ids n (at + i) (drop i s) (omega (arith, length-drop i s)), add-zero, e)

    -- behind the next field, with that tally
    abbrev pub GoesOn : Tally → Type 0
    GoesOn t =
        (1 ≤ t.size) × (i + t.size ≤ length s) × (t.spare ≤ t.size)
        × (list_from ids n i spare ≡ list_from (get_or s i 0 ∷ ids) t.objects (i + t.size) (spare + t.spare))

    module _ (twice : Bool) (seen : twice ≡ among ids (get_or s i 0)) (l : i < length s) where
      -- the answer for the field that is next
      abbrev next : Result Tally Refusal
      next = field_part twice n (at + i) (drop i s)

      some : 0 < length (drop i s)
      some = omega (arith, length-drop i s)

      is_seen : twice ≡ among ids (get_or (drop i s) 0 0)
      is_seen = rw (get_or-drop i s 0 0, add-zero) seen

      pub list-stops : (r : Refusal) → next ≡ Err r → list_from ids n i spare ≡ Err r
      list-stops r e = list-no-first ids twice n (at + i) (drop i s) is_seen some r e _

      pub list-goes-on : Bytes s → (t : Tally) → next ≡ Ok t → GoesOn t
      list-goes-on b t e =
          let g = list-goes ids twice n (at + i) (drop i s) is_seen (bytes_drop i s b) some (length s) spare t e in
          (g.0, omega (arith, length-drop i s), g.2, g.3 ∙ rw (get_or-drop i s 0 0, add-zero, drop-drop t.size i s, add_assoc at i t.size))

-- a value is no longer than its field
value-size : (f : Field) → length (field_value f) ≤ length (field_bytes f)
unfolding field_value field_bytes sized
value-size (plain id value) = omega (arith, length-append (length_in (format_of id) (length value)) value)
value-size (container form os) = omega (arith, length-append (len_bytes form (length (run_bytes os))) (run_bytes os))

-- ---- where the next field lies, and those behind it: the list that begins with that field, by the list behind it
abbrev pub Listing : ℕ → List ℕ → List ℕ → ℕ → ℕ → ℕ → Tally → Type 0
Listing at s ids n i from t =
    (r : ListRead) → list_of (get_or s i 0 ∷ ids) t.objects (at + (i + t.size)) (drop (i + t.size) s) ≡ got r
    → (q : ListRead) × (list_of ids n (at + i) (drop i s) ≡ got q)
    × (listed_from (at + i) q.fields
    ≡ record { id = get_or s i 0; from = at + i + from; to = at + i + t.size } ∷ listed_from (at + (i + t.size)) r.fields)

module _ (at : ℕ) (s ids : List ℕ) (n i from : ℕ) (b : Bytes s) (twice : Bool) (seen : twice ≡ among ids (get_or s i 0)) (l : i < length s) where
  lists : (o : FieldRead) → field_when twice n (at + i) (drop i s) ≡ got o → from ≡ value_begins o → Listing at s ids n i from (field_tally o)
  unfolding field_tally listed_from listed_at value_begins
  lists o e lead r h =
      let first : get_or (drop i s) 0 0 ≡ get_or s i 0 = get_or-drop i s 0 0 ∙ rw add-zero in
      let f = sym (field_is ids twice n (at + i) (drop i s) (rw first seen)) ∙ e in
      let k = field_in ids n (at + i) (drop i s) o f in
      let g = field-sound ids n (at + i) (drop i s) o (bytes_drop i s b) f in
      let size : length (field_bytes o.field) ≡ o.size = ap length g.bytes ∙ length-take-le o.size (drop i s) k.1 in
      let id : field_id o.field ≡ get_or s i 0 = g.id ∙ first in
      let start : at + i + o.size - length (field_value o.field) ≡ at + i + from = omega (arith, lead, size, value-size o.field) in
      let rest : list_of (get_or (drop i s) 0 0 ∷ ids) o.count (at + i + o.size) (drop o.size (drop i s)) ≡ got r =
      rw (first, drop-drop o.size i s, add_assoc at i o.size) h in (
        record { fields = o.field ∷ r.fields; count = r.count },
        list-step ids n (at + i) (drop i s) (omega (arith, length-drop i s)) ∙ then-on _ o f ∙ then-on _ r rest,
        rw (size, id, start, add_assoc at i o.size),
      )

  pub list-notes : ValueFrom twice n (at + i) (drop i s) from → (t : Tally)
      → field_part twice n (at + i) (drop i s) ≡ Ok t → Listing at s ids n i from t
  unfolding field_part
  list-notes lead t e =
      part-got field_tally (field_when twice n (at + i) (drop i s)) (Listing at s ids n i from) (λ o f. lists o f (lead o f)) t e
