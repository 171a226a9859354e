-- The rows of data objects say exactly what the reader refuses. Assumes nothing.
use mathlib.Core.Path.{◌≡◌, refl, sym, ap, ◌∙◌, subst}
use mathlib.Core.Bool.{Bool, true}
use mathlib.Core.List.{List, [], ◌∷◌, ◌++◌, append_assoc}
use mathlib.Core.Logic.{◌⊎◌, inl, inr, ⊎_elim}
use Prim.Native.Nat.{ℕ, zero, suc, ◌+◌, ◌-◌, ◌*◌, ◌/◌, ◌%◌, ◌<◌, ◌≤◌}
use native.Mathlib.Nat.{eq-or-lt_of_le}
use native.Mathlib.Omega.{arith}
use lib.ListN.{length, get_or, take, drop, replicate, length-replicate, length-append, length-drop, take-append-drop}
use lib.Seq.{drop-append_seam, length-take-le}
use lib.Dec.{ltb, leb, eqb}
use borrow.Author.Tests.{lt-leb, le-leb, ne_eqb, lt-ltb, le-ltb, eq-eqb, eqb-true, eqb-false, ltb-true, ltb-false, leb-true, leb-false}
use Rattle.zvt_rules.specs.declared.Refusal.{Refusal}
use Rattle.basics.specs.Lists.{part}
use Rattle.zvt_rules.specs.Reading.{got, refused, fault_at, unless}
use Rattle.zvt_rules.specs.Objects.{long_tag, top_bit, nested, second_tag, tag_size, Form, bare, one, two, form_size, Len, one_byte_len, two_byte_len, len_of, from, to, head_with, head_of, Obj, run_of, one_of, count_obj}
use Rattle.zvt_rules.specs.believed.Writing.{len_bytes, sized, obj_bytes}
use Rattle.basics.specs.believed.Lists.{Bytes}
use Rattle.zvt_rules.specs.believed.Grammar.{TagOk, FormOk, ObjOk}
use Rattle.zvt_rules.specs.believed.Rows.{SizedNo, short, wrong, ObjectFits, RunNo, too_many, too_deep, tag_short, tag_wrong, sized_in, inside, behind}
use Rattle.basics.proofs.Tests.{pick_true}
use Rattle.zvt_rules.proofs.Readings.{then-on, then-stop}
use Rattle.zvt_rules.proofs.ObjectReading.{part_length, tag_in, len-in, head-in, one_in, run_none, run_step, one-step}
use Rattle.zvt_rules.proofs.Lengths.{len_bytes-size, len-sound, len-written}
use Rattle.zvt_rules.proofs.ObjectBytes.{bytes_drop, bytes-part, tag-sound, tag-written, head-sound, value-part, first, head-written, one-sound, one-complete}
use Rattle.zvt_rules.proofs.RowReadings.{Covered, is, not, covered-unless, moved, placed, covered-pick, covered-then, filled}

-- ---- what a row says is refused
-- a length and that many bytes: refused at the length, or the value is too short
abbrev pub SizedRead : ℕ → List ℕ → Refusal → Type 0
SizedRead at s r =
    (len_of at s ≡ refused r)
    ⊎ ((l : Len) × (len_of at s ≡ got l) × (length s < form_size l.form + l.value) × (fault_at 1 (at + length s) ≡ r))

-- one that is cut, by its form and by how many bytes of it are there
short-read : (at : ℕ) (s : List ℕ) (form : Form) (w m : List ℕ) → FormOk form (length w) → 0 < length m
    → s ++ m ≡ len_bytes form (length w) ++ w → SizedRead at s (fault_at 1 (at + length s))
unfolding len_of one_byte_len two_byte_len len_bytes form_size
short-read at [] form w m ok l e = let z : at ≡ at + 0 = omega arith in inl (moved 1 z)
short-read at (x ∷ s) bare w m ok l e =
    let i : x ≡ length w = cc in
    let j : s ++ m ≡ w = cc in
    let less : length (x ∷ s) < 1 + length w = omega (arith, length-append s m, ap length j) in
    inr (record { form = bare; value = length w }, rw i (len-written at bare (length w) s ok), less, refl)
short-read at (x ∷ []) one w m ok l e = let i : x ≡ 0x81 = cc in inl (rw i)
short-read at (x ∷ (y ∷ s)) one w m ok l e =
    let i : x ≡ 0x81 = cc in
    let h : y ≡ length w = cc in
    let j : s ++ m ≡ w = cc in
    let less : length (x ∷ (y ∷ s)) < 2 + length w = omega (arith, length-append s m, ap length j) in
    inr (record { form = one; value = length w }, rw (i, h) (len-written at one (length w) s ok), less, refl)
short-read at (x ∷ []) two w m ok l e = let i : x ≡ 0x82 = cc in inl (rw i)
short-read at (x ∷ (y ∷ [])) two w m ok l e =
    let i : x ≡ 0x82 = cc in
    let z : at + 1 + 1 ≡ at + 2 = omega arith in
    inl (rw i (moved 1 z))
short-read at (x ∷ (y ∷ (z ∷ s))) two w m ok l e =
    let i : x ≡ 0x82 = cc in
    let h : y ≡ length w / 256 = cc in
    let g : z ≡ length w % 256 = cc in
    let j : s ++ m ≡ w = cc in
    let less : length (x ∷ (y ∷ (z ∷ s))) < 3 + length w = omega (arith, length-append s m, ap length j) in
    inr (record { form = two; value = length w }, rw (i, h, g) (len-written at two (length w) s ok), less, refl)

-- each row of them
pub sized-read : {at : ℕ} {s : List ℕ} {r : Refusal} → SizedNo at s r → SizedRead at s r
unfolding sized len_of
sized-read {at} {s} (short form w ok c) = short-read at s form w c.missing ok c.some c.joined
sized-read {at} (wrong {b = b} {s = s} h) =
    let g : (0x80 ≤ b) × (b ≡ 0x81 → ⊥) × (b ≡ 0x82 → ⊥)
    = ⊎_elim (λ e. (omega arith, λ f. omega arith, λ f. omega arith)) (λ e. (omega arith, λ f. omega arith, λ f. omega arith)) h in
    inl (rw (le-ltb b 0x80 g.0, ne_eqb b 0x81 g.1, ne_eqb b 0x82 g.2))

-- the front of a tag
tag-cut : (at : ℕ) (s tag : List ℕ) (run : Bool) (m : List ℕ) → TagOk tag run → 0 < length s → 0 < length m → s ++ m ≡ tag
    → tag_size at s ≡ refused (fault_at 1 (at + length s))
unfolding TagOk tag_size second_tag
tag-cut at s [] run m ok h l e = absurd ok
tag-cut at s (b ∷ []) run m ok h l e = absurd (omega (arith, length-append s m, ap length e))
tag-cut at [] (b ∷ (c ∷ [])) run m ok h l e = absurd (omega arith)
tag-cut at (x ∷ []) (b ∷ (c ∷ [])) run m ok h l e = let i : x ≡ b = cc in rw (i, ok.0)
tag-cut at (x ∷ (y ∷ s)) (b ∷ (c ∷ [])) run m ok h l e = absurd (omega (arith, length-append s m, ap length e))
tag-cut at s (b ∷ (c ∷ (d ∷ t))) run m ok h l e = absurd ok

-- a run is refused where its first object is
run-stop : (left n at : ℕ) (s : List ℕ) (r : Refusal) → 0 < length s → one_of left n at s ≡ refused r → run_of left n at s ≡ refused r
run-stop left n at s r l e = run_step left n at s l ∙ then-stop _ _ e

-- an object with room is refused where its head is
one-head : (left n at : ℕ) (s : List ℕ) (r : Refusal) → ObjectFits left n → head_of at s ≡ refused r → one_of left n at s ≡ refused r
unfolding unless
one-head left n at s r room e = one-step left n at s ∙ rw (lt-leb 64 n room.0, ne_eqb left 0 (λ z. omega (arith, room.1))) (then-stop _ _ e)

-- a head is refused where what stands behind its tag is
head-sized : (at : ℕ) (tag s : List ℕ) (run : Bool) (r : Refusal) → TagOk tag run → SizedRead (at + length tag) s r
    → head_of at (tag ++ s) ≡ refused r
unfolding head_of head_with unless
head-sized at tag s run r ok h =
    let t = (tag-written at tag s run ok).0 in
    then-on _ (length tag) t
    ∙ rw (drop-append_seam tag s)
    (⊎_elim (λ e. then-stop _ _ e)
    (λ x.
    let l = x.0 in
    let size = length-append tag s in
    let less : length (tag ++ s) < length tag + form_size l.form + l.value = omega (arith, x.2) in
    let end : at + length (tag ++ s) ≡ at + length tag + length s = omega arith in
    then-on _ l x.1 ∙ rw (lt-ltb _ _ less) (moved 1 end ∙ ap refused x.3)) h)

-- a tag is not empty
tag-append : (tag s : List ℕ) (run : Bool) → TagOk tag run → 0 < length (tag ++ s)
unfolding TagOk
tag-append [] s run ok = absurd ok
tag-append (b ∷ t) s run ok = omega arith

-- each row of a run
pub run-refused : {left n at : ℕ} {s : List ℕ} {r : Refusal} → RunNo left n at s r → run_of left n at s ≡ refused r
unfolding unless head_of tag_size second_tag
run-refused {left} {n} {at} {s} (too_many l h) = run-stop left n at s (fault_at 10 at) l (one-step left n at s ∙ rw (le-leb 64 n h))
run-refused {left} {n} {at} {s} (too_deep l h z) = run-stop left n at s (fault_at 9 at) l (one-step left n at s ∙ rw (lt-leb 64 n h, z))
run-refused {left} {n} {at} {s} (tag_short tag run room l ok c) =
    run-stop left n at s (fault_at 1 (at + length s)) l
    (one-head left n at s (fault_at 1 (at + length s)) room (then-stop _ _ (tag-cut at s tag run c.missing ok l c.some c.joined)))
run-refused {left} {n} {at} (tag_wrong {b = b} {c = c} {s = s} room e f) =
    run-stop left n at (b ∷ (c ∷ s)) (fault_at 8 (at + 1)) (omega arith)
    (one-head left n at (b ∷ (c ∷ s)) (fault_at 8 (at + 1)) room (then-stop _ _ (rw (eq-eqb (b % 32) 31 e, le-leb 128 c f))))
run-refused {left} {n} {at} {r = r} (sized_in {s = s} tag run room ok h) =
    run-stop left n at (tag ++ s) r (tag-append tag s run ok)
    (one-head left n at (tag ++ s) r room (head-sized at tag s run r ok (sized-read h)))
run-refused {left} {n} {at} {r = r} (inside tag form w s room ok fits h) =
    let all = (tag ++ sized form w) ++ s in
    let place : at + length (tag ++ len_bytes form (length w)) ≡ at + (length tag + form_size form)
    = omega (arith, length-append tag (len_bytes form (length w)), len_bytes-size form (length w)) in
    let inner = rw place at (run-refused h) in
    run-stop left n at all r (rw (append_assoc tag (sized form w) s) (tag-append tag (sized form w ++ s) true ok))
    (one-step left n at all
    ∙ rw (lt-leb 64 n room.0, ne_eqb left 0 (λ z. omega (arith, room.1)))
    (then-on _ _ (head-written tag form w s true ok fits at) ∙ pick_true _ _ (first tag form w s true ok fits)
    ∙ then-stop _ _ (rw (value-part tag form w s) inner)))
run-refused {left} {n} {at} {r = r} (behind {s = s} o ok few h) =
    let e = one-complete o left n at s ok few in
    let w = obj_bytes o in
    let i = one_in left n at (w ++ s) _ e in
    run_step left n at (w ++ s) (omega arith) ∙ then-on _ _ e ∙ then-stop _ _ (rw (drop-append_seam w s) (run-refused h))

-- ---- what is refused a row says
-- the first length bytes that are none
other : (b : ℕ) → 0x80 ≤ b → (b ≡ 0x81 → ⊥) → (b ≡ 0x82 → ⊥) → (b ≡ 0x80) ⊎ (0x83 ≤ b)
other b h i j =
    ⊎_elim (λ e. inl (sym e))
    (λ l. ⊎_elim (λ e. absurd (i (sym e))) (λ m. ⊎_elim (λ e. absurd (j (sym e))) inr (eq-or-lt_of_le m)) (eq-or-lt_of_le l)) (eq-or-lt_of_le h)

-- a tag
tag-covered : (left n at : ℕ) (s : List ℕ) → ObjectFits left n → 0 < length s → Covered (RunNo left n at s) (tag_size at s)
unfolding tag_size second_tag TagOk
tag-covered left n at [] r l = absurd (omega arith)
tag-covered left n at (b ∷ []) r l =
    covered-pick (long_tag b)
    (λ t. not (fault_at 1 (at + 1))
    (tag_short (b ∷ (0 ∷ [])) (nested b) r l (t, refl, refl) (record { missing = 0 ∷ []; some = omega arith; joined = refl })))
    (λ t. is 1)
tag-covered left n at (b ∷ (c ∷ s)) r l =
    covered-pick (long_tag b)
    (λ t. covered-unless (top_bit c) (fault_at 8 (at + 1)) (λ u. tag_wrong r (eqb-true (b % 32) 31 t) (leb-true 128 c u)) (λ u. is 2)) (λ t. is 1)

-- 81 and one byte, 82 and two
one-covered : (at b : ℕ) (s : List ℕ) → b ≡ 0x81 → Covered (SizedNo at (b ∷ s)) (one_byte_len (at + 1) s)
unfolding one_byte_len FormOk sized len_bytes
one-covered at b [] e = not (fault_at 1 (at + 1)) (short {s = b ∷ []} one [] (omega arith) (record { missing = 0 ∷ []; some = omega arith; joined = rw e }))
one-covered at b (v ∷ s) e = is _

two-covered : (at b : ℕ) (s : List ℕ) → b ≡ 0x82 → Bytes s → Covered (SizedNo at (b ∷ s)) (two_byte_len (at + 1) s)
unfolding two_byte_len FormOk sized len_bytes Bytes
two-covered at b [] e h =
    not (fault_at 1 (at + 1)) (short {s = b ∷ []} two [] (omega arith) (record { missing = 0 ∷ (0 ∷ []); some = omega arith; joined = rw e }))
two-covered at b (x ∷ []) e h =
    let w : List ℕ = replicate (x * 256) 0 in
    let size : length w ≡ x * 256 = length-replicate (x * 256) 0 in
    let high : length w / 256 ≡ x = omega arith in
    let low : length w % 256 ≡ 0 = omega arith in
    let z : at + 2 ≡ at + 1 + 1 = omega arith in
    not (fault_at 1 (at + 1 + 1))
    (placed (SizedNo at (b ∷ (x ∷ []))) 1 z
    (short {s = b ∷ (x ∷ [])} two w (omega (arith, h 0)) (record { missing = 0 ∷ w; some = omega arith; joined = cc })))
two-covered at b (x ∷ (y ∷ s)) e h = is _

-- a length
pub len-covered : (at : ℕ) (s : List ℕ) → Bytes s → Covered (SizedNo at s) (len_of at s)
unfolding len_of FormOk sized len_bytes Bytes
len-covered at [] h =
    let z : at + 0 ≡ at = omega arith in
    not (fault_at 1 at) (placed (SizedNo at []) 1 z (short bare [] (omega arith) (record { missing = 0 ∷ []; some = omega arith; joined = refl })))
len-covered at (b ∷ s) h =
    covered-pick (ltb b 0x80) (λ t. is _)
    (λ t. covered-pick (eqb b 0x81) (λ u. one-covered at b s (eqb-true b 0x81 u))
    (λ u. covered-pick (eqb b 0x82) (λ w. two-covered at b s (eqb-true b 0x82 w) (λ i. h (suc i)))
    (λ w. not (fault_at 22 at) (wrong (other b (ltb-false b 0x80 t) (eqb-false b 0x81 u) (eqb-false b 0x82 w))))))

-- a value that is too short, behind a length that was read
pub value-short : (at : ℕ) (s : List ℕ) (l : Len) → Bytes s → len_of at s ≡ got l → length s < form_size l.form + l.value
    → SizedNo at s (fault_at 1 (at + length s))
unfolding sized
value-short at s l b e h =
    let w = len-sound at s l b e in
    let f = filled (len_bytes l.form l.value) s (form_size l.form) l.value w.0 (len-in at s l e).1 h in
    short {s = s} l.form f.0 (rw f.1 w.1) (rw f.1 f.2)

-- a tag that was read stands before the rest
tag-first : (at : ℕ) (s : List ℕ) (t : ℕ) → tag_size at s ≡ got t → (length (take t s) ≡ t) × (take t s ++ drop t s ≡ s)
tag-first at s t e = (length-take-le t s (tag_in at s t e).1, take-append-drop t s)

-- a head
head-covered : (left n at : ℕ) (s : List ℕ) → ObjectFits left n → 0 < length s → Bytes s → Covered (RunNo left n at s) (head_of at s)
unfolding head_of head_with
head-covered left n at s room l b =
    covered-then _ (tag-covered left n at s room l) (λ r h. h)
    (λ t e.
    let f = tag-first at s t e in
    let rest = drop t s in
    let bs = bytes_drop t s b in
    let row : (r : Refusal) → SizedNo (at + t) rest r → RunNo left n at s r
    = λ r h.
    subst (λ (x : List ℕ). RunNo left n at x r) f.1
    (sized_in (take t s) (nested (get_or s 0 0)) room (tag-sound at s t e) (rw f.0 h)) in
    covered-then _ (len-covered (at + t) rest bs) row
    (λ m g.
    covered-unless _ (fault_at 1 (at + length s))
    (λ u.
    let less : length rest < form_size m.form + m.value
    = omega (arith, ltb-true (length s) (t + form_size m.form + m.value) u, length-drop t s, tag_in at s t e) in
    let end : at + t + length rest ≡ at + length s = omega (arith, length-drop t s, tag_in at s t e) in
    row (fault_at 1 (at + length s)) (rw end at (value-short (at + t) rest m bs g less)))
    (λ u. is _)))

-- an object, where that is known of the shorter runs
abbrev Shorter : List ℕ → Type 0
Shorter s = (left n at : ℕ) (t : List ℕ) → length t < length s → Bytes t → Covered (RunNo left n at t) (run_of left n at t)

-- an object by its steps
one-covered-by : (left n at : ℕ) (s : List ℕ) → 0 < length s → Bytes s → Shorter s → Covered (RunNo left n at s) (one_of left n at s)
one-covered-by left n at s l b ih =
    rw (one-step left n at s)
    (covered-unless (leb 64 n) (fault_at 10 at) (λ t. too_many l (leb-true 64 n t))
    (λ t. covered-unless (eqb left 0) (fault_at 9 at) (λ u. too_deep l (leb-false 64 n t) (eqb-true left 0 u))
    (λ u.
    let zero = eqb-false left 0 u in
    let room : ObjectFits left n = (leb-false 64 n t, omega arith) in
    covered-then _ (head-covered left n at s room l b) (λ r h. h)
    (λ h e.
    let i = head-in at s h e in
    let g = head-sound at s h b e in
    let inner = part (from h) (to h) s in
    let less : length inner < length s = omega (arith, part_length s (from h) (to h) (omega arith) i.2) in
    covered-pick (nested (get_or s 0 0))
    (λ v. covered-then _ (ih (left - 1) (n + 1) (at + from h) inner less (bytes-part (from h) (to h) s b))
    (λ r row.
    let tag = take h.tag s in
    let whole : (tag ++ sized h.form inner) ++ drop (to h) s ≡ s = rw g.2 (take-append-drop (to h) s) in
    let place : at + from h ≡ at + length (tag ++ len_bytes h.form (length inner))
    = omega (
      arith,
      length-append tag (len_bytes h.form (length inner)),
      len_bytes-size h.form (length inner),
      length-take-le h.tag s (omega arith),
    ) in
    subst (λ (x : List ℕ). RunNo left n at x r) whole
    (inside tag h.form inner (drop (to h) s) room (rw v at g.0) g.1 (rw place at row)))
    (λ a x. is _))
    (λ v. is _)))))

-- a row behind one more object
behind-row : {left n at : ℕ} {s rest : List ℕ} {size count : ℕ} {r : Refusal} (o : Obj) → obj_bytes o ++ rest ≡ s → size ≡ length (obj_bytes o)
    → ObjOk o left → count ≡ n + count_obj o → count ≤ 64 → RunNo left count (at + size) rest r → RunNo left n at s r
behind-row {n = n} o e f ok c few row = let less : n + count_obj o ≤ 64 = omega arith in rw (← e) (behind o ok less (rw (f, c) at row))

-- a run, one object after the other
run-covered-by : (f left n at : ℕ) (s : List ℕ) → length s ≤ f → Bytes s → Covered (RunNo left n at s) (run_of left n at s)
run-covered-by zero left n at [] l b = rw (run_none left n at [] refl) (is _)
run-covered-by zero left n at (c ∷ s) l b = absurd (omega arith)
run-covered-by (suc f) left n at [] l b = rw (run_none left n at [] refl) (is _)
run-covered-by (suc f) left n at (c ∷ t) l b =
    let s = c ∷ t in
    rw (run_step left n at s (omega arith))
    (covered-then _ (one-covered-by left n at s (omega arith) b (λ i m a u h. run-covered-by f i m a u (omega arith))) (λ r h. h)
    (λ o e.
    let i = one_in left n at s o e in
    let g = one-sound left n at s o b e in
    let rest = drop o.size s in
    covered-then _ (run-covered-by f left o.count (at + o.size) rest (omega (arith, length-drop o.size s)) (bytes_drop o.size s b))
    (λ r row.
    behind-row o.obj (rw g.0 (take-append-drop o.size s))
    (sym (ap length g.0 ∙ length-take-le o.size s i.1)) g.1 g.2 g.3 row)
    (λ r x. is _)))

pub run-covered : (left n at : ℕ) (s : List ℕ) → Bytes s → Covered (RunNo left n at s) (run_of left n at s)
run-covered left n at s b = run-covered-by (length s) left n at s (omega arith) b
