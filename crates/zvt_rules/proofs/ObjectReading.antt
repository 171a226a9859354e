-- What the reading of data objects says step by step, with no bound on the steps. Assumes nothing.
use mathlib.Core.Path.{◌≡◌, refl, sym, ap, ◌∙◌, subst}
use mathlib.Core.Bool.{true, false}
use mathlib.Core.List.{List, [], ◌∷◌}
use mathlib.Core.Logic.{◌⊎◌, inl, inr, ⊎_elim}
use Prim.Native.Nat.{ℕ, zero, suc, ◌+◌, ◌-◌, ◌<◌, ◌≤◌}
use native.Mathlib.Omega.{arith}
use lib.ListN.{length, get_or, take, drop, length-take, length-drop}
use lib.Seq.{take_all}
use lib.Dec.{ltb, leb, eqb}
use borrow.Author.Tests.{ltb-false, leb-false, eqb-false}
use Rattle.basics.specs.Choice.{pick}
use Rattle.basics.specs.Lists.{part}
use Rattle.zvt_rules.specs.Reading.{Reading, got, fault_at, unless, and_then}
use Rattle.zvt_rules.specs.Limits.{most_objects}
use Rattle.zvt_rules.specs.Objects.{long_tag, top_bit, nested, second_tag, tag_size, form_size, Len, one_byte_len, two_byte_len, len_of, Head, from, to, head_with, head_of, Obj, none, more, OneRead, RunRead, leaf_of, branch_of, run_by, one_by, run_of, one_of}
use Rattle.basics.proofs.Tests.{pick-test}
use Rattle.zvt_rules.proofs.Readings.{got_same, got-not-refused, unless-got, then-got, then-alike}

-- a part up to the end is what is left
pub tail : (k : ℕ) (s : List ℕ) → take (length s - k) (drop k s) ≡ drop k s
tail k s = take_all (length s - k) (drop k s) (omega (arith, length-drop k s))

pub part_length : (s : List ℕ) (a e : ℕ) → a ≤ e → e ≤ length s → length (part a e s) ≡ e - a
part_length s a e h l = omega (arith, length-take (e - a) (drop a s), length-drop a s)

-- ---- a tag and a length lie within the bytes, and are not empty
second-in : (at : ℕ) (s : List ℕ) (k : ℕ) → second_tag at s ≡ got k → (k ≡ 2) × (1 ≤ length s)
unfolding second_tag
second-in at [] k e = absurd (got-not-refused (sym e))
second-in at (b ∷ s) k e = (got_same (sym (unless-got (top_bit b) (fault_at 8 at) (got 2) k e).1), omega arith)

pub tag_in : (at : ℕ) (s : List ℕ) (k : ℕ) → tag_size at s ≡ got k → (1 ≤ k) × (k ≤ length s)
unfolding tag_size
tag_in at [] k e = absurd (got-not-refused (sym e))
tag_in at (b ∷ s) k e =
    pick-test (λ (x : Reading ℕ). x ≡ got k → (1 ≤ k) × (k ≤ length (b ∷ s))) (long_tag b)
    (λ t f. let i = second-in (at + 1) s k f in omega arith) (λ t f. let i : 1 ≡ k = got_same f in omega arith) e

abbrev LenIn : List ℕ → Len → Type 0
LenIn s l = (1 ≤ form_size l.form) × (form_size l.form ≤ length s)

one-byte-in : (at b : ℕ) (s : List ℕ) (l : Len) → one_byte_len at s ≡ got l → LenIn (b ∷ s) l
unfolding one_byte_len form_size
one-byte-in at b [] l e = absurd (got-not-refused (sym e))
one-byte-in at b (v ∷ s) l e = subst (LenIn (b ∷ (v ∷ s))) (got_same e) (omega arith)

two-bytes-in : (at b : ℕ) (s : List ℕ) (l : Len) → two_byte_len at s ≡ got l → LenIn (b ∷ s) l
unfolding two_byte_len form_size
two-bytes-in at b [] l e = absurd (got-not-refused (sym e))
two-bytes-in at b (h ∷ []) l e = absurd (got-not-refused (sym e))
two-bytes-in at b (h ∷ (c ∷ s)) l e = subst (LenIn (b ∷ (h ∷ (c ∷ s)))) (got_same e) (omega arith)

pub len-in : (at : ℕ) (s : List ℕ) (l : Len) → len_of at s ≡ got l → (1 ≤ form_size l.form) × (form_size l.form ≤ length s)
unfolding len_of form_size
len-in at [] l e = absurd (got-not-refused (sym e))
len-in at (b ∷ s) l e =
    let P : Reading Len → Type 0 = λ x. x ≡ got l → LenIn (b ∷ s) l in
    pick-test P (ltb b 0x80) (λ t f. subst (LenIn (b ∷ s)) (got_same f) (omega arith))
    (λ t. pick-test P (eqb b 0x81) (λ u. one-byte-in (at + 1) b s l)
    (λ u. pick-test P (eqb b 0x82) (λ w. two-bytes-in (at + 1) b s l) (λ w f. absurd (got-not-refused (sym f))))) e

-- ---- what a head that was read says
pub record HeadRead (at : ℕ) (s : List ℕ) (h : Head) : Type 0 where
  pub tag : tag_size at s ≡ got h.tag
  pub len : len_of (at + h.tag) (drop h.tag s) ≡ got (record { form = h.form; value = h.value })
  pub within : to h ≤ length s

pub head-got : (at : ℕ) (s : List ℕ) (h : Head) → head_of at s ≡ got h → HeadRead at s h
unfolding head_of head_with
head-got at s h e =
    let t = then-got (tag_size at s) _ h e in
    let l = then-got (len_of (at + t.0) (drop t.0 s)) _ h t.2 in
    let g = unless-got (ltb (length s) (t.0 + form_size l.0.form + l.0.value)) _ _ h l.2 in
    subst (HeadRead at s) (got_same g.1) (record { tag = t.1; len = l.1; within = ltb-false _ _ g.0 })

pub head-in : (at : ℕ) (s : List ℕ) (h : Head) → head_of at s ≡ got h → (1 ≤ h.tag) × (2 ≤ from h) × (to h ≤ length s)
head-in at s h e =
    let w = head-got at s h e in
    let t = tag_in at s h.tag w.tag in
    let l = len-in (at + h.tag) (drop h.tag s) _ w.len in
    let i = w.within in
    omega arith

-- ---- an object, by whatever reader of the run inside it
abbrev RunReader : Type 0
RunReader = ℕ → ℕ → ℕ → List ℕ → Reading RunRead

abbrev pub inside : RunReader → ℕ → ℕ → ℕ → List ℕ → Head → Reading OneRead
inside run left n at s h =
    pick (nested (get_or s 0 0))
    (and_then (run (left - 1) (n + 1) (at + from h) (part (from h) (to h) s)) λ r. got (branch_of s h r)) (got (leaf_of n s h))

abbrev object : RunReader → ℕ → ℕ → ℕ → List ℕ → Reading OneRead
object run left n at s =
    unless (leb most_objects n) (fault_at 10 at) (unless (eqb left 0) (fault_at 9 at) (and_then (head_of at s) λ h. inside run left n at s h))

-- what an object that was read says
abbrev pub Inside : RunReader → ℕ → ℕ → ℕ → List ℕ → OneRead → Head → Type 0
Inside run left n at s o h =
    ((nested (get_or s 0 0) ≡ true)
    × ((r : RunRead) × (run (left - 1) (n + 1) (at + from h) (part (from h) (to h) s) ≡ got r) × (branch_of s h r ≡ o)))
    ⊎ ((nested (get_or s 0 0) ≡ false) × (leaf_of n s h ≡ o))

pub record ObjRead (run : RunReader) (left n at : ℕ) (s : List ℕ) (o : OneRead) : Type 0 where
  pub few : n < most_objects
  pub deep : 0 < left
  pub head : Head
  pub read : head_of at s ≡ got head
  pub inside : Inside run left n at s o head

inside-got : (run : RunReader) (left n at : ℕ) (s : List ℕ) (h : Head) (o : OneRead)
    → inside run left n at s h ≡ got o → Inside run left n at s o h
inside-got run left n at s h o =
    pick-test (λ (x : Reading OneRead). x ≡ got o → Inside run left n at s o h) (nested (get_or s 0 0))
    (λ t f.
    let r = then-got (run (left - 1) (n + 1) (at + from h) (part (from h) (to h) s)) _ o f in
    inl (t, (r.0, r.1, got_same r.2)))
    (λ t f. inr (t, got_same f))

object-got : (run : RunReader) (left n at : ℕ) (s : List ℕ) (o : OneRead) → object run left n at s ≡ got o → ObjRead run left n at s o
object-got run left n at s o e =
    let c = unless-got (leb most_objects n) (fault_at 10 at) _ o e in
    let d = unless-got (eqb left 0) (fault_at 9 at) _ o c.1 in
    let h = then-got (head_of at s) _ o d.1 in
    let z = eqb-false left 0 d.0 in
    record { few = leb-false most_objects n c.0; deep = omega arith; head = h.0; read = h.1; inside = inside-got run left n at s h.0 o h.2 }

-- it takes two bytes at least, and lies within
object-in : (run : RunReader) (left n at : ℕ) (s : List ℕ) (o : OneRead) → object run left n at s ≡ got o → (2 ≤ o.size) × (o.size ≤ length s)
object-in run left n at s o e =
    let w = object-got run left n at s o e in
    let i = head-in at s w.head w.read in
    let size : OneRead → ℕ = λ x. x.size in
    let z : to w.head ≡ o.size = ⊎_elim (λ b. ap size b.1.2) (λ b. ap size b.1) w.inside in
    omega arith

by_in : (f left n at : ℕ) (s : List ℕ) (o : OneRead) → one_by f left n at s ≡ got o → (2 ≤ o.size) × (o.size ≤ length s)
unfolding one_by
by_in zero left n at s o e = absurd (got-not-refused (sym e))
by_in (suc f) left n at s o e = object-in (λ l m a t. run_by f l m a t) left n at s o e

pub one_in : (left n at : ℕ) (s : List ℕ) (o : OneRead) → one_of left n at s ≡ got o → (2 ≤ o.size) × (o.size ≤ length s)
unfolding one_of
one_in left n at s o e = by_in (suc (length s)) left n at s o e

-- ---- how much fuel there is does not matter, where there is enough
abbrev Agree : RunReader → RunReader → List ℕ → Type 0
Agree p q s = (l m a : ℕ) (t : List ℕ) → length t + 2 ≤ length s → p l m a t ≡ q l m a t

object-alike : (p q : RunReader) (left n at : ℕ) (s : List ℕ) → Agree p q s → object p left n at s ≡ object q left n at s
object-alike p q left n at s f =
    ap (λ (x : Reading OneRead). unless (leb most_objects n) (fault_at 10 at) (unless (eqb left 0) (fault_at 9 at) x))
    (then-alike (head_of at s) _ _ (λ h e.
    let i = head-in at s h e in
    rw (f (left - 1) (n + 1) (at + from h) (part (from h) (to h) s) (omega (arith, part_length s (from h) (to h) (omega arith) i.2)))))

abbrev and_more : Obj → RunRead → Reading RunRead
and_more o r = got (record { objs = more o r.objs; count = r.count })

abbrev rest : RunReader → ℕ → ℕ → List ℕ → OneRead → Reading RunRead
rest run left at s o = and_then (run left o.count (at + o.size) (drop o.size s)) λ r. and_more o.obj r

rest-alike : (p q : RunReader) (f left n at : ℕ) (s : List ℕ) (y : Reading OneRead) → Agree p q s → one_by f left n at s ≡ y
    → and_then (one_by f left n at s) (λ o. rest p left at s o) ≡ and_then y (λ o. rest q left at s o)
rest-alike p q f left n at s y h e =
    then-alike (one_by f left n at s) _ _ (λ o g.
    let i = by_in f left n at s o g in
    ap (λ (x : Reading RunRead). and_then x (and_more o.obj))
    (h left o.count (at + o.size) (drop o.size s) (omega (arith, length-drop o.size s))))
    ∙ ap (λ (x : Reading OneRead). and_then x (λ o. rest q left at s o)) e

mutual
  unfolding run_by

  run-enough : (f g left n at : ℕ) (s : List ℕ) → length s < f → length s < g → run_by f left n at s ≡ run_by g left n at s
  run-enough zero g left n at s hf hg = absurd (omega arith)
  run-enough (suc f) zero left n at s hf hg = absurd (omega arith)
  run-enough (suc f) (suc g) left n at [] hf hg = refl
  run-enough (suc f) (suc g) left n at (b ∷ s) hf hg =
      rest-alike (λ l m a t. run_by f l m a t) (λ l m a t. run_by g l m a t) f left n at (b ∷ s) (one_by g left n at (b ∷ s))
      (λ l m a t h. run-enough f g l m a t (omega arith) (omega arith)) (one-enough f g left n at (b ∷ s) (omega arith) (omega arith) (omega arith))

  one-enough : (f g left n at : ℕ) (s : List ℕ) → 0 < length s → length s ≤ f → length s ≤ g → one_by f left n at s ≡ one_by g left n at s
  one-enough zero g left n at s l hf hg = absurd (omega arith)
  one-enough (suc f) zero left n at s l hf hg = absurd (omega arith)
  one-enough (suc f) (suc g) left n at s l hf hg =
      object-alike (λ l m a t. run_by f l m a t) (λ l m a t. run_by g l m a t) left n at s
      (λ l m a t h. run-enough f g l m a t (omega arith) (omega arith))

-- ---- the laws of a run and of an object, without fuel
pub run_none : (left n at : ℕ) (s : List ℕ) → length s ≡ 0 → run_of left n at s ≡ got (record { objs = none; count = n })
unfolding run_of run_by
run_none left n at [] h = refl
run_none left n at (b ∷ s) h = absurd (omega arith)

pub run_step : (left n at : ℕ) (s : List ℕ) → 0 < length s
    → run_of left n at s
    ≡ and_then (one_of left n at s) (λ o. and_then (run_of left o.count (at + o.size) (drop o.size s)) (λ r.
    got (record { objs = more o.obj r.objs; count = r.count })))
unfolding run_of run_by one_of
run_step left n at [] h = absurd (omega arith)
run_step left n at (b ∷ s) h =
    let f = suc (length s) in
    rest-alike (λ l m a t. run_by f l m a t) run_of f left n at (b ∷ s) (one_of left n at (b ∷ s))
    (λ l m a t k. run-enough f (suc (length t)) l m a t (omega arith) (omega arith))
    (one-enough f (suc f) left n at (b ∷ s) (omega arith) (omega arith) (omega arith))

pub one-step : (left n at : ℕ) (s : List ℕ)
    → one_of left n at s
    ≡ unless (leb most_objects n) (fault_at 10 at) (unless (eqb left 0) (fault_at 9 at) (and_then (head_of at s) λ h. inside run_of left n at s h))
unfolding run_of one_of one_by
one-step left n at s =
    object-alike (λ l m a t. run_by (length s) l m a t) run_of left n at s
    (λ l m a t k. run-enough (length s) (suc (length t)) l m a t (omega arith) (omega arith))

-- what an object that was read says, the run inside it read as any run is
pub one-got : (left n at : ℕ) (s : List ℕ) (o : OneRead) → one_of left n at s ≡ got o → ObjRead run_of left n at s o
one-got left n at s o e = object-got run_of left n at s o (sym (one-step left n at s) ∙ e)

-- what a run that was read says: its first object, and the rest
pub record MoreRead (left n at : ℕ) (s : List ℕ) (r : RunRead) : Type 0 where
  pub first : OneRead
  pub rest : RunRead
  pub read : one_of left n at s ≡ got first
  pub then : run_of left first.count (at + first.size) (drop first.size s) ≡ got rest
  pub all : ◌≡◌ {A = RunRead} (record { objs = more first.obj rest.objs; count = rest.count }) r

pub run-got : (left n at : ℕ) (s : List ℕ) (r : RunRead) → 0 < length s → run_of left n at s ≡ got r → MoreRead left n at s r
run-got left n at s r l e =
    let x = then-got (one_of left n at s) _ r (sym (run_step left n at s l) ∙ e) in
    let y = then-got (run_of left x.0.count (at + x.0.size) (drop x.0.size s)) _ r x.2 in
    record { first = x.0; rest = y.0; read = x.1; then = y.1; all = got_same y.2 }
