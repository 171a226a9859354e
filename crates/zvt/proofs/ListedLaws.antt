-- The fields of a list that lies in a message, one after the other. Assumes nothing.
use mathlib.Core.Path.{◌≡◌, refl, ap, ◌∙◌}
use mathlib.Core.List.{List, [], ◌∷◌}
use Prim.Native.Nat.{ℕ, ◌+◌, ◌-◌, ◌<◌, ◌≤◌}
use native.Mathlib.Nat.{add-zero}
use native.Mathlib.Omega.{arith}
use lib.ListN.{length, get_or, take, drop, length-drop}
use lib.Seq.{length-take-le, take-add, take-take, drop_at, drop-drop, get_or-take, get_or-drop}
use Rattle.std.proofs.Common.{Err, None, Ok, Option, Some}
use Rattle.basics.proofs.Tests.{never}
use Rattle.zvt_rules.specs.declared.Refusal.{Refusal}
use Rattle.basics.specs.Lists.{part}
use Rattle.zvt_rules.specs.Reading.{got}
use Rattle.zvt_rules.specs.Fields.{Field, field_id, list_of}
use Rattle.zvt_rules.specs.believed.Writing.{field_bytes, field_value}
use Rattle.basics.specs.believed.Lists.{Bytes}
use Rattle.zvt_rules.proofs.ObjectReading.{part_length}
use Rattle.zvt_rules.proofs.ObjectBytes.{bytes-part}
use Rattle.zvt_rules.proofs.FieldReading.{list-none}
use Rattle.zvt_rules.specs.declared.Listed.{Listed}
use Rattle.zvt.specs.declared.objects.Bounds.{Bounds}
use Rattle.zvt.specs.ObjectSteps.{as_bounds}
use Rattle.zvt.specs.FieldSteps.{field_bounds}
use Rattle.zvt_rules.specs.Listed.{listed_at, listed_from}
use Rattle.zvt.specs.ListSteps.{list_fields, fields_between, listed_in, ListIn, FieldHere, StandsAt, field, none}
use Rattle.zvt.specs.WritingSteps.{ListReads}
use Rattle.zvt.proofs.ShortLists.{first_field}

-- ---- a part of a part
module _ (a e : ℕ) (s : List ℕ) (order : a ≤ e) (inside : e ≤ length s) where
  part-rest : (k : ℕ) → k ≤ e - a → drop k (part a e s) ≡ part (a + k) e s
  part-rest k h =
      let m : e - a ≡ k + (e - (a + k)) = omega arith in
      let t = drop a s in
      let size : length (take k t) ≡ k = length-take-le k t (omega (arith, length-drop a s)) in
      rw (m, take-add k (e - (a + k)) t, drop_at (take k t) (take (e - (a + k)) (drop k t)) k size, drop-drop k a s)

  part-part : (x y : ℕ) → x ≤ y → y ≤ e - a → part x y (part a e s) ≡ part (a + x) (a + y) s
  part-part x y h l =
      let m : a + y - (a + x) ≡ y - x = omega arith in
      rw (part-rest x (omega arith), m) (take-take (y - x) (e - (a + x)) (drop (a + x) s) (omega arith))

  pub part-first : a < e → get_or (part a e s) 0 0 ≡ get_or s a 0
  part-first h = get_or-take (e - a) (drop a s) 0 0 (omega arith) ∙ get_or-drop a s 0 0 ∙ rw add-zero

-- ---- the first field of a list, and the list behind it
pub no_fields : (at end : ℕ) (s : List ℕ) → at ≡ end → fields_between at end s ≡ []
unfolding fields_between list_fields
no_fields at end s e = let z : end - at ≡ 0 = omega arith in rw (z, list-none [] 0 0 [] refl)

pub list-empty : (at end : ℕ) (s : List ℕ) → at ≡ end → listed_in at end s ≡ []
unfolding listed_in listed_from
list-empty at end s e = ap (listed_from at) (no_fields at end s e)

-- the field at its head: where its value lies, and that the rest is a list again
pub record FirstIn (at end : ℕ) (s : List ℕ) : Type 0 where
  pub field : Field
  pub bounds : Bounds
  pub read : field_bounds 0 (part at end s) ≡ Ok bounds
  pub order : bounds.from ≤ bounds.to
  pub some : 0 < bounds.to
  pub within : at + bounds.to ≤ end
  pub id : field_id field ≡ get_or s at 0
  pub value : field_value field ≡ part (at + bounds.from) (at + bounds.to) s
  pub rest : ListIn (at + bounds.to) end s
  pub fields : fields_between at end s ≡ field ∷ fields_between (at + bounds.to) end s
  pub all : listed_in at end s ≡ record { id = get_or s at 0; from = at + bounds.from; to = at + bounds.to } ∷ listed_in (at + bounds.to) end s

pub first-in : (at end : ℕ) (s : List ℕ) → Bytes s → ListIn at end s → at < end → FirstIn at end s
unfolding field_bounds as_bounds listed_at listed_from list_fields fields_between listed_in ListReads
first-in at end s b l h =
    let t = part at end s in
    let r = l.reads in
    let long = part_length s at end l.order l.inside in
    let k = first_field t r.0 (bytes-part at end s b) r.1 (omega arith) in
    let x = k.0 in
    let f = k.1 in
    let value = part-part at end s l.order l.inside x.from x.to f.at.order (omega (arith, f.at.within)) in
    let behind = part-rest at end s l.order l.inside x.to (omega (arith, f.at.within)) in
    let rest : list_of [] 0 0 (part (at + x.to) end s) ≡ got f.rest = rw (← behind) f.behind in
    let id : field_id f.field ≡ get_or s at 0 = f.id ∙ part-first at end s l.order l.inside h in
    let size : length (field_bytes f.field) ≡ x.to = ap length f.bytes ∙ length-take-le x.to t f.at.within in
    let held : length (field_value f.field) ≡ x.to - x.from = ap length f.at.value ∙ part_length t x.from x.to f.at.order f.at.within in
    let from : at + x.to - length (field_value f.field) ≡ at + x.from = omega (arith, f.at.order) in
    let fields : fields_between at end s ≡ f.field ∷ fields_between (at + x.to) end s = rw (r.1, rest) f.all in
    record {
      field = f.field;
      bounds = x;
      read = ap as_bounds f.bounds;
      order = f.at.order;
      some = omega (arith, f.at.start, f.at.order);
      within = omega (arith, f.at.within);
      id = id;
      value = f.at.value ∙ value;
      rest = record { order = omega (arith, f.at.within); inside = l.inside; short = omega (arith, l.short); reads = (f.rest, rest) };
      fields = fields;
      all = ap (listed_from at) fields ∙ rw (size, from, id);
    }

module _ (at end : ℕ) (s : List ℕ) (b : Bytes s) (h : ListIn at end s) (n : at ≡ end → ⊥) where
  -- its bounds give it
  pub first-is : (x : Bounds) → field_bounds 0 (part at end s) ≡ Ok x
      → (x.from ≤ x.to) × (at + x.to ≤ end) × FieldHere at end s (record { id = get_or s at 0; from = at + x.from; to = at + x.to })
  first-is x e =
      let f = first-in at end s b h (omega (arith, h.order)) in
      let same : f.bounds ≡ x = cc f.read in
      rw (← same) (f.order, f.within, record { some = omega (arith, f.some); rest = f.rest; all = f.all })

  -- and are never refused
  pub first-never : (r : Refusal) → field_bounds 0 (part at end s) ≡ Err r → ⊥
  first-never r e = never (cc (first-in at end s b h (omega (arith, h.order))).read)

-- ---- what stands at a place says of the whole list
pub field-here : {at e : ℕ} {s : List ℕ} {r : Option Listed} {l : Listed} → StandsAt at e s r → r ≡ Some l → FieldHere at e s l
field-here {l = l} (field {l = k} h) e = let same : k ≡ l = cc in rw same at h
field-here (none h) e = never cc

pub none_here : {at e : ℕ} {s : List ℕ} {r : Option Listed} → StandsAt at e s r → r ≡ None → listed_in at e s ≡ []
none_here (field h) e = never cc
none_here (none h) e = h
