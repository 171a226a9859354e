-- What is read of data objects is what was written, and what is written is read. Assumes nothing.
use mathlib.Core.Path.{◌≡◌, refl, sym, ap, ◌∙◌, subst}
use mathlib.Core.Bool.{Bool, true, false}
use mathlib.Core.List.{List, [], ◌∷◌, ◌++◌, append_assoc}
use mathlib.Core.Logic.{⊎_elim}
use Prim.Native.Nat.{ℕ, zero, suc, ◌+◌, ◌-◌, ◌<◌, ◌≤◌}
use native.Mathlib.Nat.{add-sub_cancel_left}
use native.Mathlib.Omega.{arith}
use lib.ListN.{length, get_or, take, drop, length-append, length-drop, take-append-drop}
use lib.Seq.{get_or-drop, take-add, take-append_seam, drop-append_seam, drop-append-add, drop_at}
use borrow.Author.Tests.{lt-leb, ne_eqb, le-ltb}
use Rattle.basics.specs.Lists.{part}
use Rattle.zvt_rules.specs.Reading.{Reading, got, fault_at, unless}
use Rattle.zvt_rules.specs.Limits.{most_objects}
use Rattle.zvt_rules.specs.Objects.{long_tag, top_bit, nested, second_tag, tag_size, Form, form_size, len_of, Head, from, to, head_with, head_of, Obj, leaf, branch, Objs, none, more, OneRead, RunRead, run_of, one_of, count_obj, count_objs}
use Rattle.zvt_rules.specs.believed.Writing.{len_bytes, sized, obj_bytes, run_bytes}
use Rattle.basics.specs.believed.Lists.{Bytes}
use Rattle.zvt_rules.specs.believed.Grammar.{TagOk, FormOk, ObjOk, RunOk}
use Rattle.basics.proofs.Tests.{pick-test, pick_true, pick-false}
use Rattle.zvt_rules.proofs.Readings.{got_same, got-not-refused, unless-got, then-on}
use Rattle.zvt_rules.proofs.ObjectReading.{part_length, head-got, head-in, inside, one-got, one_in, run_none, run_step, one-step, run-got}
use Rattle.zvt_rules.proofs.Lengths.{len_bytes-size, object-size, len-written, len-sound}

-- ---- bytes
pub bytes_drop : (k : ℕ) (s : List ℕ) → Bytes s → Bytes (drop k s)
unfolding Bytes
bytes_drop k s h i = rw (get_or-drop k s i 0) (h (k + i))

pub bytes_take : (k : ℕ) (s : List ℕ) → Bytes s → Bytes (take k s)
unfolding Bytes
bytes_take zero s h i = omega arith
bytes_take (suc k) [] h i = omega arith
bytes_take (suc k) (b ∷ s) h zero = h 0
bytes_take (suc k) (b ∷ s) h (suc i) = bytes_take k s (λ m. h (suc m)) i

pub bytes-part : (a e : ℕ) (s : List ℕ) → Bytes s → Bytes (part a e s)
bytes-part a e s h = bytes_take (e - a) (drop a s) (bytes_drop a s h)

-- ---- a tag that is read, and one that is written
second-sound : (at b : ℕ) (s : List ℕ) (k : ℕ) → long_tag b ≡ true → second_tag at s ≡ got k → TagOk (take k (b ∷ s)) (nested b)
unfolding second_tag TagOk
second-sound at b [] k t e = absurd (got-not-refused (sym e))
second-sound at b (c ∷ s) k t e =
    let g = unless-got (top_bit c) (fault_at 8 at) (got 2) k e in
    subst (λ (m : ℕ). TagOk (take m (b ∷ (c ∷ s))) (nested b)) (got_same g.1) (t, g.0, refl)

pub tag-sound : (at : ℕ) (s : List ℕ) (k : ℕ) → tag_size at s ≡ got k → TagOk (take k s) (nested (get_or s 0 0))
unfolding tag_size TagOk
tag-sound at [] k e = absurd (got-not-refused (sym e))
tag-sound at (b ∷ s) k e =
    pick-test (λ (x : Reading ℕ). x ≡ got k → TagOk (take k (b ∷ s)) (nested b)) (long_tag b) (λ t. second-sound (at + 1) b s k t)
    (λ t f. subst (λ (m : ℕ). TagOk (take m (b ∷ s)) (nested b)) (got_same f) (t, refl)) e

pub tag-written : (at : ℕ) (tag t : List ℕ) (run : Bool) → TagOk tag run
    → (tag_size at (tag ++ t) ≡ got (length tag)) × (nested (get_or (tag ++ t) 0 0) ≡ run)
unfolding tag_size second_tag TagOk unless
tag-written at [] t run ok = absurd ok
tag-written at (b ∷ []) t run ok = (rw ok.0, ok.1)
tag-written at (b ∷ (c ∷ [])) t run ok = (rw (ok.0, ok.1), ok.2)
tag-written at (b ∷ (c ∷ (d ∷ s))) t run ok = absurd ok

-- ---- a head that is read: the bytes up to the value's end are tag, length and value
pub head-sound : (at : ℕ) (s : List ℕ) (h : Head) → Bytes s → head_of at s ≡ got h
    → TagOk (take h.tag s) (nested (get_or s 0 0)) × FormOk h.form (length (part (from h) (to h) s))
    × (take h.tag s ++ sized h.form (part (from h) (to h) s) ≡ take (to h) s)
unfolding sized
head-sound at s h b e =
    let w = head-got at s h e in
    let l = len-sound (at + h.tag) (drop h.tag s) _ (bytes_drop h.tag s b) w.len in
    let span : to h - from h ≡ h.value = add-sub_cancel_left (from h) h.value in
    let size : length (part (from h) (to h) s) ≡ h.value = part_length s (from h) (to h) (omega arith) w.within ∙ span in (
      tag-sound at s h.tag w.tag,
      rw size l.1,
      rw (size, l.0, span, ← (append_assoc (take h.tag s)), ← (take-add h.tag (form_size h.form) s))
          (sym (take-add (from h) h.value s)),
    )

-- ---- what is read was written: its bytes, its limits, its count
abbrev RunSound : ℕ → ℕ → List ℕ → RunRead → Type 0
RunSound left n s r =
    (run_bytes r.objs ≡ s) × RunOk r.objs left × (r.count ≡ n + count_objs r.objs) × (n ≤ most_objects → r.count ≤ most_objects)

abbrev OneSound : ℕ → ℕ → List ℕ → OneRead → Type 0
OneSound left n s o = (obj_bytes o.obj ≡ take o.size s) × ObjOk o.obj left × (o.count ≡ n + count_obj o.obj) × (o.count ≤ most_objects)

-- an object, where that is known of the shorter runs
one_from : (left n at : ℕ) (s : List ℕ) (o : OneRead)
    → ((l m a : ℕ) (t : List ℕ) (r : RunRead) → length t < length s → Bytes t → run_of l m a t ≡ got r → RunSound l m t r)
    → Bytes s → one_of left n at s ≡ got o → OneSound left n s o
unfolding obj_bytes ObjOk count_obj
one_from left n at s o run b e =
    let w = one-got left n at s o e in
    let h = w.head in
    let i = head-in at s h w.read in
    let g = head-sound at s h b w.read in
    let room = w.few in
    ⊎_elim
    (λ x.
    let inner = part (from h) (to h) s in
    let l : length inner < length s = omega (arith, part_length s (from h) (to h) (omega arith) i.2) in
    let f = run (left - 1) (n + 1) (at + from h) inner x.1.0 l (bytes-part (from h) (to h) s b) x.1.1 in
    subst (OneSound left n s) x.1.2
    (rw f.0 g.2, (rw x.0 at g.0, rw f.0 g.1, w.deep, f.1), omega (arith, f.2), f.3 (omega arith)))
    (λ x. subst (OneSound left n s) x.1 (g.2, (rw x.0 at g.0, g.1, w.deep), refl, omega arith)) w.inside

run-from : (left n at : ℕ) (s : List ℕ) (r : RunRead)
    → ((l m a : ℕ) (t : List ℕ) (q : RunRead) → length t < length s → Bytes t → run_of l m a t ≡ got q → RunSound l m t q)
    → Bytes s → 0 < length s → run_of left n at s ≡ got r → RunSound left n s r
unfolding run_bytes RunOk count_objs
run-from left n at s r run b l e =
    let w = run-got left n at s r l e in
    let o = w.first in
    let i = one_in left n at s o w.read in
    let g = one_from left n at s o run b w.read in
    let l : length (drop o.size s) < length s = omega (arith, length-drop o.size s) in
    let f = run left o.count (at + o.size) (drop o.size s) w.rest l (bytes_drop o.size s b) w.then in
    subst (RunSound left n s) w.all
    (rw (g.0, f.0) (take-append-drop o.size s), (g.1, f.1), omega (arith, g.2, f.2), λ m. f.3 g.3)

none-sound : (left n at : ℕ) (r : RunRead) → run_of left n at [] ≡ got r → RunSound left n [] r
unfolding run_bytes RunOk count_objs
none-sound left n at r e = subst (RunSound left n []) (got_same (sym (run_none left n at [] refl) ∙ e)) (refl, tt, omega arith, λ m. m)

by-sound : (f left n at : ℕ) (s : List ℕ) (r : RunRead) → length s ≤ f → Bytes s → run_of left n at s ≡ got r → RunSound left n s r
by-sound zero left n at [] r l b e = none-sound left n at r e
by-sound zero left n at (c ∷ s) r l b e = absurd (omega arith)
by-sound (suc f) left n at [] r l b e = none-sound left n at r e
by-sound (suc f) left n at (c ∷ s) r l b e =
    run-from left n at (c ∷ s) r (λ i m a t q h. by-sound f i m a t q (omega arith)) b (omega arith) e

pub run_sound : (left n at : ℕ) (s : List ℕ) (r : RunRead) → Bytes s → run_of left n at s ≡ got r
    → (run_bytes r.objs ≡ s) × RunOk r.objs left × (r.count ≡ n + count_objs r.objs) × (n ≤ most_objects → r.count ≤ most_objects)
run_sound left n at s r = by-sound (length s) left n at s r (omega arith)

pub one-sound : (left n at : ℕ) (s : List ℕ) (o : OneRead) → Bytes s → one_of left n at s ≡ got o
    → (obj_bytes o.obj ≡ take o.size s) × ObjOk o.obj left × (o.count ≡ n + count_obj o.obj) × (o.count ≤ most_objects)
one-sound left n at s o = one_from left n at s o (λ l m a t r h. run_sound l m a t r)

-- ---- what is written is read
module _ (tag : List ℕ) (form : Form) (v rest : List ℕ) where
  abbrev whole : List ℕ
  whole = (tag ++ sized form v) ++ rest

  abbrev written : Head
  written = record { tag = length tag; form = form; value = length v }

  regroup : whole ≡ tag ++ (len_bytes form (length v) ++ (v ++ rest))
  unfolding sized
  regroup = simp append_assoc

  taken : take (length tag) whole ≡ tag
  taken = rw regroup (take-append_seam tag _)

  pub value-part : part (from written) (to written) whole ≡ v
  value-part =
      let behind = drop_at (len_bytes form (length v)) (v ++ rest) (form_size form) (len_bytes-size form (length v)) in
      rw (regroup, add-sub_cancel_left (from written) (length v), drop-append-add tag, behind) (take-append_seam v rest)

  end : length (tag ++ sized form v) ≡ to written
  end = omega (arith, object-size tag form v)

  module _ (run : Bool) (ok : TagOk tag run) (fits : FormOk form (length v)) where
    pub first : nested (get_or whole 0 0) ≡ run
    first = rw regroup (tag-written 0 tag _ run ok).1

    at_len : (at : ℕ) → len_of at (drop (length tag) whole) ≡ got (record { form = form; value = length v })
    at_len at = rw (regroup, drop-append_seam tag) (len-written at form (length v) (v ++ rest) fits)

    pub head-written : (at : ℕ) → head_of at whole ≡ got written
    unfolding head_of head_with unless
    head-written at =
        then-on _ (length tag) (rw regroup (tag-written at tag _ run ok).0) ∙ then-on _ _ (at_len (at + length tag))
        ∙ rw (le-ltb (length whole) (to written) (omega (arith, end, length-append (tag ++ sized form v) rest)))

    at-object : (left n at : ℕ) → n < most_objects → 0 < left → one_of left n at whole ≡ inside run_of left n at whole written
    unfolding unless
    at-object left n at room deep =
        rw (one-step left n at whole, lt-leb most_objects n room, ne_eqb left 0 (λ e. omega arith)) (then-on _ written (head-written at))

leaf-written : (tag : List ℕ) (form : Form) (v rest : List ℕ) (left n at : ℕ) → TagOk tag false → FormOk form (length v) → n < most_objects → 0 < left
    → one_of left n at ((tag ++ sized form v) ++ rest)
    ≡ got (record { obj = leaf tag form v; size = length (tag ++ sized form v); count = n + 1 })
leaf-written tag form v rest left n at ok fits room deep =
    at-object tag form v rest false ok fits left n at room deep ∙ pick-false _ _ (first tag form v rest false ok fits)
    ∙ cc (taken tag form v rest, value-part tag form v rest, end tag form v rest)

branch-written : (tag : List ℕ) (form : Form) (os : Objs) (rest : List ℕ) (left n at c : ℕ)
    → TagOk tag true → FormOk form (length (run_bytes os)) → n < most_objects → 0 < left
    → ((a : ℕ) → run_of (left - 1) (n + 1) a (run_bytes os) ≡ got (record { objs = os; count = c }))
    → one_of left n at ((tag ++ sized form (run_bytes os)) ++ rest)
    ≡ got (record { obj = branch tag form os; size = length (tag ++ sized form (run_bytes os)); count = c })
branch-written tag form os rest left n at c ok fits room deep inner =
    let v = run_bytes os in
    at-object tag form v rest true ok fits left n at room deep ∙ pick_true _ _ (first tag form v rest true ok fits)
    ∙ then-on _ (record { objs = os; count = c }) (rw (value-part tag form v rest) (inner _))
    ∙ cc (taken tag form v rest, end tag form v rest)

more-written : (w t : List ℕ) (o : Obj) (os : Objs) (left n at c d : ℕ)
    → one_of left n at (w ++ t) ≡ got (record { obj = o; size = length w; count = c })
    → ((a : ℕ) → run_of left c a t ≡ got (record { objs = os; count = d }))
    → run_of left n at (w ++ t) ≡ got (record { objs = more o os; count = d })
more-written w t o os left n at c d e inner =
    let i = one_in left n at (w ++ t) _ e in
    run_step left n at (w ++ t) (omega arith) ∙ then-on _ _ e ∙ then-on _ _ (rw (drop-append_seam w t) (inner _))

-- a run and its count, as a reading
abbrev counted : Objs → ℕ → Reading RunRead
counted os c = got (record { objs = os; count = c })

mutual
  unfolding obj_bytes run_bytes ObjOk RunOk count_obj count_objs

  pub one-complete : (o : Obj) (left n at : ℕ) (rest : List ℕ) → ObjOk o left → n + count_obj o ≤ most_objects
      → one_of left n at (obj_bytes o ++ rest) ≡ got (record { obj = o; size = length (obj_bytes o); count = n + count_obj o })
  one-complete (leaf tag form value) left n at rest ok fits = leaf-written tag form value rest left n at ok.0 ok.1 (omega arith) ok.2
  one-complete (branch tag form os) left n at rest ok fits =
      branch-written tag form os rest left n at (n + suc (count_objs os)) ok.0 ok.1 (omega arith) ok.2
      (λ a. run-complete os (left - 1) (n + 1) a ok.3 (omega arith) ∙ ap (counted os) (omega arith))

  pub run-complete : (os : Objs) (left n at : ℕ) → RunOk os left → n + count_objs os ≤ most_objects
      → run_of left n at (run_bytes os) ≡ got (record { objs = os; count = n + count_objs os })
  run-complete none left n at ok fits = run_none left n at [] refl ∙ ap (counted none) (omega arith)
  run-complete (more o os) left n at ok fits =
      more-written (obj_bytes o) (run_bytes os) o os left n at (n + count_obj o) (n + (count_obj o + count_objs os))
      (one-complete o left n at (run_bytes os) ok.0 (omega arith))
      (λ a. run-complete os left (n + count_obj o) a ok.1 (omega arith) ∙ ap (counted os) (omega arith))
