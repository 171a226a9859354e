-- What the readers of objects and runs answer, case by case, with the bytes saved. Assumes nothing.
use mathlib.Core.Path.{◌≡◌, refl, ap, ◌∙◌, subst}
use mathlib.Core.Bool.{true, false}
use mathlib.Core.List.{List}
use Prim.Native.Nat.{ℕ, ◌+◌, ◌-◌, ◌<◌, ◌≤◌}
use native.Mathlib.Nat.{add-zero, add_assoc}
use native.Mathlib.Omega.{arith}
use lib.ListN.{length, get_or, take, drop, length-append, length-drop}
use lib.Seq.{drop-drop, length-take-le}
use borrow.Author.Tests.{le-leb, lt-leb, eq-eqb, ne_eqb}
use Rattle.std.proofs.Common.{Err, Ok, Result}
use Rattle.zvt_rules.specs.declared.Refusal.{Refusal}
use Rattle.basics.specs.Lists.{part}
use Rattle.zvt_rules.specs.Reading.{Reading, got, refused, fault_at, unless, and_then}
use Rattle.zvt_rules.specs.Limits.{most_objects}
use Rattle.zvt_rules.specs.Objects.{nested, Form, form_size, Head, from, to, head_of, Obj, Objs, more, OneRead, RunRead, leaf_of, branch_of, one_of, run_of}
use Rattle.zvt_rules.specs.believed.Writing.{obj_bytes, run_bytes}
use Rattle.zvt_rules.specs.Shortest.{form_for, short_obj, short_run}
use Rattle.basics.specs.believed.Lists.{Bytes}
use Rattle.zvt_rules.specs.believed.Grammar.{FormOk, ObjOk, RunOk}
use Rattle.basics.proofs.Tests.{pick_true, pick-false, never}
use Rattle.zvt_rules.proofs.Readings.{then-on, then-stop}
use Rattle.zvt_rules.proofs.ObjectReading.{part_length, head-got, head-in, inside, one_in, run_none, run_step, one-step}
use Rattle.zvt_rules.proofs.Lengths.{object-size, len-sound, form-shorter}
use Rattle.zvt_rules.proofs.ObjectShort.{obj-shorter, run-shorter}
use Rattle.zvt_rules.proofs.ObjectBytes.{bytes_drop, bytes-part, run_sound, one-sound}
use Rattle.zvt.specs.declared.objects.Bounds.{Bounds}
use Rattle.zvt.specs.declared.objects.Tally.{Tally}
use Rattle.zvt.specs.ObjectSteps.{as_bounds, as_part, bounds_of, head_answer, spare_obj, spare_run, tally_of, one_tally, run_tally, one_answer, run_answer}

-- ---- an answer goes back to what was read
pub part-got : {A : Type 0} (f : A → Tally) (x : Reading A) (P : Tally → Type 0) → ((a : A) → x ≡ got a → P (f a))
    → (t : Tally) → as_part f x ≡ Ok t → P t
unfolding as_part
part-got f (got a) P h t e = subst P (let g : f a ≡ t = cc in g) (h a refl)
part-got f (refused r) P h t e = never cc

pub part-stopped : {A : Type 0} (f : A → Tally) (x : Reading A) (r : Refusal) → as_part f x ≡ Err r → x ≡ refused r
unfolding as_part
part-stopped f (got a) r e = never cc
part-stopped f (refused q) r e = cc

abbrev bounds_from : List ℕ → Reading Head → Result Bounds Refusal
bounds_from s x = as_bounds (and_then x λ h. got (bounds_of s h))

bounds-got : (s : List ℕ) (x : Reading Head) (P : Bounds → Type 0) → ((h : Head) → x ≡ got h → P (bounds_of s h))
    → (b : Bounds) → bounds_from s x ≡ Ok b → P b
unfolding as_bounds and_then
bounds-got s (got h) P f b e = subst P (let g : bounds_of s h ≡ b = cc in g) (f h refl)
bounds-got s (refused r) P f b e = never cc

bounds-stopped : (s : List ℕ) (x : Reading Head) (r : Refusal) → bounds_from s x ≡ Err r → x ≡ refused r
unfolding as_bounds and_then
bounds-stopped s (got h) r e = never cc
bounds-stopped s (refused q) r e = cc

-- ---- the bytes saved
spare_more : (o : Obj) (os : Objs) (left : ℕ) → ObjOk o left → RunOk os left → spare_run (more o os) ≡ spare_obj o + spare_run os
unfolding spare_obj spare_run run_bytes short_run
spare_more o os left a b =
    omega (
      arith,
      obj-shorter o left a,
      run-shorter os left b,
      length-append (obj_bytes o) (run_bytes os),
      length-append (obj_bytes (short_obj o)) (run_bytes (short_run os)),
    )

-- a run that was read has as many bytes as it was read from, and shortest so many fewer
pub spare-read : (left n at : ℕ) (s : List ℕ) (r : RunRead) → Bytes s → run_of left n at s ≡ got r
    → (length (run_bytes r.objs) ≡ length s) × (length (run_bytes (short_run r.objs)) + spare_run r.objs ≡ length s)
unfolding spare_run
spare-read left n at s r b e =
    let i = run_sound left n at s r b e in
    let l = ap length i.0 in
    (l, omega (arith, run-shorter r.objs left i.1))

-- the tally of an object or a container of whole bytes, short when its value is the shortest, of w bytes
pub tally-is : (b : Bounds) (objects saved whole short w : ℕ) → whole ≡ b.to → b.to - b.from - saved ≡ w
    → short ≡ b.tag + (form_size (form_for w) + w)
    → ◌≡◌ {A = Tally} (record { size = b.to; objects = objects; spare = whole - short }) (tally_of b objects saved)
unfolding tally_of
tally-is b objects saved whole short w e f g =
    let k = ap (λ (x : ℕ). form_size (form_for x)) f in
    ap (λ (x : ℕ). record { size = b.to; objects = objects; spare = x }) (omega arith)

-- what a tally asks, with so many bytes saved
abbrev pub Fits : Bounds → ℕ → Type 0
Fits b saved = (b.tag + form_size (form_for (b.to - b.from - saved)) ≤ b.from) × (b.from + saved ≤ b.to)

pub tally-fits : (b : Bounds) (form : Form) (v saved : ℕ) → FormOk form v → b.from ≡ b.tag + form_size form → b.to ≡ b.from + v → saved ≤ v
    → Fits b saved
tally-fits b form v saved ok e f l = (omega (arith, form-shorter form v (b.to - b.from - saved) ok (omega arith)), omega arith)

-- ---- what is known of a tally goes by what was read
pub part-alike : {A : Type 0} (f g : A → Tally) (x : Reading A) → ((a : A) → f a ≡ g a) → as_part f x ≡ as_part g x
unfolding as_part
part-alike f g (got a) h = ap Ok (h a)
part-alike f g (refused r) h = refl

pub part_then : {A B : Type 0} (f : B → Tally) (g : A → Tally) (x : Reading A) (y : A → B) → ((a : A) → x ≡ got a → f (y a) ≡ g a)
    → as_part f (and_then x λ a. got (y a)) ≡ as_part g x
unfolding as_part and_then
part_then f g (got a) y h = ap Ok (h a refl)
part_then f g (refused r) y h = refl

pub spared : (size objects : ℕ) {x y : ℕ} → x ≡ y
    → ◌≡◌ {A = Tally} (record { size = size; objects = objects; spare = x }) (record { size = size; objects = objects; spare = y })
spared size objects e = rw e

-- ---- a run
-- its tally, when so many bytes are saved before it
abbrev tally_from : ℕ → ℕ → RunRead → Tally
tally_from size spare r = record { size = size; objects = r.count; spare = spare + spare_run r.objs }

module _ (left n at : ℕ) (s : List ℕ) (some : 0 < length s) where
  run-no-first : (r : Refusal) → one_answer left n at s ≡ Err r → (f : RunRead → Tally) → as_part f (run_of left n at s) ≡ Err r
  unfolding one_answer as_part
  run-no-first r e f = ap (as_part f) (run_step left n at s some ∙ then-stop _ r (part-stopped _ _ r e))

  abbrev Goes : ℕ → ℕ → Tally → Type 0
  Goes size spare t =
      (2 ≤ t.size) × (t.size ≤ length s) × (t.spare ≤ t.size)
      × (as_part (tally_from size spare) (run_of left n at s)
      ≡ as_part (tally_from size (spare + t.spare)) (run_of left t.objects (at + t.size) (drop t.size s)))

  goes : Bytes s → (size spare : ℕ) (o : OneRead) → one_of left n at s ≡ got o → Goes size spare (one_tally o)
  unfolding one_tally spare_obj
  goes b size spare o e =
      let i = one_in left n at s o e in
      let g = one-sound left n at s o b e in
      let size_is : length (obj_bytes o.obj) ≡ o.size = ap length g.0 ∙ length-take-le o.size s i.1 in
      let rest = drop o.size s in (
        i.0,
        i.1,
        omega arith,
        ap (as_part (tally_from size spare)) (run_step left n at s some ∙ then-on _ o e)
            ∙ part_then (tally_from size spare) (tally_from size (spare + spare_obj o.obj)) (run_of left o.count (at + o.size) rest)
            (λ r. record { objs = more o.obj r.objs; count = r.count })
            (λ r h.
            let k = run_sound left o.count (at + o.size) rest r (bytes_drop o.size s b) h in
            spared size r.count (omega (arith, spare_more o.obj r.objs left g.1 k.1))),
      )

  run-goes : Bytes s → (size spare : ℕ) (t : Tally) → one_answer left n at s ≡ Ok t → Goes size spare t
  unfolding one_answer
  run-goes b size spare = part-got one_tally (one_of left n at s) (Goes size spare) (goes b size spare)

-- ---- a run from the i-th byte on, with so many bytes saved before
module _ (left at : ℕ) (s : List ℕ) where
  abbrev pub run_from : ℕ → ℕ → ℕ → Result Tally Refusal
  run_from n i spare = as_part (tally_from (length s) spare) (run_of left n (at + i) (drop i s))

  pub run-begins : (n : ℕ) → run_answer left n at s ≡ run_from n 0 0
  unfolding run_answer run_tally
  run-begins n = rw add-zero (part-alike _ _ (run_of left n at s) (λ r. spared (length s) r.count (omega arith)))

  module _ (n i spare : ℕ) where
    pub run_ends : i ≤ length s → length s ≤ i → run_from n i spare ≡ Ok (record { size = i; objects = n; spare = spare })
    unfolding as_part spare_run run_bytes short_run
    run_ends l h =
        let e : length s ≡ i = omega arith in
        rw (run_none left n (at + i) (drop i s) (omega (arith, length-drop i s)), add-zero, e)

    -- behind the next object, with that tally
    abbrev pub GoesOn : Tally → Type 0
    GoesOn t =
        (2 ≤ t.size) × (i + t.size ≤ length s) × (t.spare ≤ t.size)
        × (run_from n i spare ≡ run_from t.objects (i + t.size) (spare + t.spare))

    module _ (l : i < length s) where
      -- the answer for the object that is next
      abbrev next : Result Tally Refusal
      next = one_answer left n (at + i) (drop i s)

      some : 0 < length (drop i s)
      some = omega (arith, length-drop i s)

      pub run-stops : (r : Refusal) → next ≡ Err r → run_from n i spare ≡ Err r
      run-stops r e = run-no-first left n (at + i) (drop i s) some r e _

      pub run-goes-on : Bytes s → (t : Tally) → next ≡ Ok t → GoesOn t
      run-goes-on b t e =
          let g = run-goes left n (at + i) (drop i s) some (bytes_drop i s b) (length s) spare t e in
          (g.0, omega (arith, length-drop i s), g.2, g.3 ∙ rw (drop-drop t.size i s, add_assoc at i t.size))

-- ---- an object
pub one-full : (left n at : ℕ) (s : List ℕ) → most_objects ≤ n → one_answer left n at s ≡ Err (fault_at 10 at)
unfolding one_answer as_part unless
one-full left n at s h = rw (one-step left n at s, le-leb most_objects n h)

pub one-deep : (left n at : ℕ) (s : List ℕ) → n < most_objects → left ≡ 0 → one_answer left n at s ≡ Err (fault_at 9 at)
unfolding one_answer as_part unless
one-deep left n at s h e = rw (one-step left n at s, lt-leb most_objects n h, eq-eqb left 0 e)

-- the answer for the run inside an object
abbrev inner : ℕ → ℕ → ℕ → List ℕ → Bounds → Result Tally Refusal
inner left n at s b = run_answer (left - 1) (n + 1) (at + b.from) (part b.from b.to s)

-- the object that lies there is answered by its tally
abbrev pub Answered : ℕ → ℕ → ℕ → List ℕ → Bounds → ℕ → ℕ → Type 0
Answered left n at s b objects saved = Fits b saved × (one_answer left n at s ≡ Ok (tally_of b objects saved))

-- where the value lies
pub value-in : (at : ℕ) (s : List ℕ) (b : Bounds) → head_answer at s ≡ Ok b → (2 ≤ b.from) × (b.from ≤ b.to) × (b.to ≤ length s)
unfolding head_answer bounds_of
value-in at s =
    bounds-got s (head_of at s) (λ b. (2 ≤ b.from) × (b.from ≤ b.to) × (b.to ≤ length s))
    (λ h e. let i = head-in at s h e in (i.1, omega arith, i.2))

module _ (at : ℕ) (s : List ℕ) (h : Head) (b : Bytes s) (read : head_of at s ≡ got h) where
  fits : (saved : ℕ) → saved ≤ h.value → Fits (bounds_of s h) saved
  unfolding bounds_of
  fits saved l =
      let f = len-sound (at + h.tag) (drop h.tag s) _ (bytes_drop h.tag s b) (head-got at s h read).len in
      tally-fits (bounds_of s h) h.form h.value saved f.1 refl refl l

  tag-length : length (take h.tag s) ≡ h.tag
  tag-length = let i = head-in at s h read in length-take-le h.tag s (omega arith)

  value-length : length (part (from h) (to h) s) ≡ h.value
  value-length = let i = head-in at s h read in omega (arith, part_length s (from h) (to h) (omega arith) i.2)

  leaf-tally : (n : ℕ) → one_tally (leaf_of n s h) ≡ tally_of (bounds_of s h) (n + 1) 0
  unfolding one_tally obj_bytes short_obj spare_obj bounds_of
  leaf-tally n =
      let tag = take h.tag s in
      let value = part (from h) (to h) s in
      let t = tag-length in
      let v = value-length in
      tally-is (bounds_of s h) (n + 1) 0 _ _ (length value) (omega (arith, object-size tag h.form value)) (omega arith)
      (omega (arith, object-size tag (form_for (length value)) value))

  branch-tally : (left n a : ℕ) (r : RunRead) → run_of left n a (part (from h) (to h) s) ≡ got r
      → (spare_run r.objs ≤ h.value) × (one_tally (branch_of s h r) ≡ tally_of (bounds_of s h) r.count (spare_run r.objs))
  unfolding one_tally obj_bytes short_obj spare_obj bounds_of
  branch-tally left n a r e =
      let i = spare-read left n a (part (from h) (to h) s) r (bytes-part (from h) (to h) s b) e in
      let tag = take h.tag s in
      let short = run_bytes (short_run r.objs) in
      let t = tag-length in
      let v = value-length in (
        omega arith,
        tally-is (bounds_of s h) r.count (spare_run r.objs) _ _ (length short)
            (omega (arith, object-size tag h.form (run_bytes r.objs)))
            (omega arith) (omega (arith, object-size tag (form_for (length short)) short)),
      )

module _ (left n at : ℕ) (s : List ℕ) (room : n < most_objects) (deep : left ≡ 0 → ⊥) where
  at_head : one_of left n at s ≡ and_then (head_of at s) (λ h. inside run_of left n at s h)
  unfolding unless
  at_head = rw (one-step left n at s, lt-leb most_objects n room, ne_eqb left 0 deep)

  pub one-no-head : (r : Refusal) → head_answer at s ≡ Err r → one_answer left n at s ≡ Err r
  unfolding head_answer one_answer as_part
  one-no-head r e = ap (as_part one_tally) (at_head ∙ then-stop _ r (bounds-stopped s _ r e))

  at_leaf : (h : Head) → head_of at s ≡ got h → nested (get_or s 0 0) ≡ false → one_of left n at s ≡ got (leaf_of n s h)
  at_leaf h e f = at_head ∙ then-on _ h e ∙ pick-false _ _ f

  at-branch : (h : Head) → head_of at s ≡ got h → nested (get_or s 0 0) ≡ true
      → one_of left n at s ≡ and_then (run_of (left - 1) (n + 1) (at + from h) (part (from h) (to h) s)) (λ r. got (branch_of s h r))
  at-branch h e f = at_head ∙ then-on _ h e ∙ pick_true _ _ f

  pub one-leaf : Bytes s → (b : Bounds) → head_answer at s ≡ Ok b → b.nested ≡ false → Answered left n at s b (n + 1) 0
  unfolding head_answer one_answer as_part bounds_of
  one-leaf bs =
      bounds-got s (head_of at s) (λ b. b.nested ≡ false → Answered left n at s b (n + 1) 0)
      (λ h e f. (fits at s h bs e 0 (omega arith), ap (as_part one_tally) (at_leaf h e f) ∙ ap Ok (leaf-tally at s h bs e n)))

  pub one-no-inner : (b : Bounds) → head_answer at s ≡ Ok b → b.nested ≡ true → (r : Refusal) → inner left n at s b ≡ Err r
      → one_answer left n at s ≡ Err r
  unfolding head_answer one_answer run_answer as_part bounds_of
  one-no-inner =
      bounds-got s (head_of at s)
      (λ b. b.nested ≡ true → (r : Refusal) → inner left n at s b ≡ Err r → one_answer left n at s ≡ Err r)
      (λ h e f r g. ap (as_part one_tally) (at-branch h e f ∙ then-stop _ r (part-stopped _ _ r g)))

  pub one-branch : Bytes s → (b : Bounds) → head_answer at s ≡ Ok b → b.nested ≡ true → (r : Tally) → inner left n at s b ≡ Ok r
      → Answered left n at s b r.objects r.spare
  unfolding head_answer one_answer run_answer as_part bounds_of run_tally
  one-branch bs =
      bounds-got s (head_of at s)
      (λ b. b.nested ≡ true → (r : Tally) → inner left n at s b ≡ Ok r → Answered left n at s b r.objects r.spare)
      (λ h e f.
      let t = part (from h) (to h) s in
      part-got (run_tally t) (run_of (left - 1) (n + 1) (at + from h) t) (λ r. Answered left n at s (bounds_of s h) r.objects r.spare)
      (λ r g.
      let i = branch-tally at s h bs e (left - 1) (n + 1) (at + from h) r g in
      (fits at s h bs e (spare_run r.objs) i.0, ap (as_part one_tally) (at-branch h e f ∙ then-on _ r g) ∙ ap Ok i.1)))
