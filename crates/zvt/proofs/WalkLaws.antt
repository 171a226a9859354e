-- A walk over a list that notes where some of its fields lie: no id stands twice, so that the last field with an id is the only one.
-- Assumes nothing.
use mathlib.Core.Path.{◌≡◌, refl, sym, ap, ◌∙◌}
use mathlib.Core.Bool.{true, or-true}
use mathlib.Core.List.{List, [], ◌∷◌}
use Prim.Native.Nat.{ℕ, suc, ◌+◌, ◌<◌, ◌≤◌}
use native.Mathlib.Nat.{add-zero}
use native.Mathlib.Omega.{arith}
use lib.ListN.{length, get_or, drop, set, replicate, length-drop}
use lib.Dec.{eqb}
use borrow.Author.Tests.{lt-ltb, eqb-true, eq-eqb}
use Rattle.std.proofs.Common.{Err, None, Option, Some, Ok}
use Rattle.zvt_rules.specs.declared.Refusal.{Refusal}
use Rattle.basics.specs.Lists.{among}
use Rattle.zvt_rules.specs.Reading.{got}
use Rattle.basics.specs.Buffers.{front, Whole}
use Rattle.basics.specs.Text.{Text, text, add_one, add_all}
use Rattle.zvt_rules.specs.Fields.{Field, field_id, ListRead, list_of}
use Rattle.zvt_rules.specs.believed.Writing.{field_bytes}
use Rattle.basics.specs.believed.Lists.{Bytes}
use Rattle.zvt_rules.specs.believed.Grammar.{ListOk}
use Rattle.zvt_rules.specs.declared.Listed.{Listed}
use Rattle.zvt_rules.specs.declared.Span.{Span}
use Rattle.zvt_rules.specs.Listed.{listed_at, listed_from, named_listed, ids_listed}
use Rattle.basics.proofs.Tests.{by-test, pick_true, pick-false, true-false, never}
use Rattle.zvt_rules.proofs.Readings.{got_same}
use Rattle.basics.proofs.Text.{put_whole}
use Rattle.zvt_rules.proofs.FieldReading.{list-none}
use Rattle.zvt_rules.proofs.FieldBytes.{list-sound}
use Rattle.zvt.specs.declared.objects.Tally.{Tally}
use Rattle.zvt.specs.declared.objects.Located.{Located}
use Rattle.zvt.proofs.Located.{located-stopped, located-got, got-located, stopped-located}
use Rattle.zvt.specs.FieldSteps.{list_answer, list_located, noted, noted_all, spans_in}
use Rattle.zvt.specs.ListSteps.{listed_in, FieldHere}
use Rattle.zvt.proofs.ListLaws.{Listing}

-- ---- no id stands twice
unfoldable Once : List Listed → Type 0
Once [] = Unit {0}
Once (l ∷ ls) = (named_listed l.id ls ≡ None) × Once ls

-- an id that was seen does not come
seen-gone : (id at : ℕ) (seen : List ℕ) (fs : List Field) → ListOk seen fs → among seen id ≡ true → named_listed id (listed_from at fs) ≡ None
unfolding ListOk listed_from listed_at named_listed among
seen-gone id at seen [] ok h = refl
seen-gone id at seen (f ∷ fs) ok h =
    by-test (eqb (field_id f) id)
    (λ e. absurd (true-false (rw (eqb-true (field_id f) id e) h) ok.1))
    (λ e. pick-false _ _ e ∙ seen-gone id (at + length (field_bytes f)) (field_id f ∷ seen) fs ok.2 (rw (h, or-true)))

listed-once : (at : ℕ) (seen : List ℕ) (fs : List Field) → ListOk seen fs → Once (listed_from at fs)
unfolding ListOk listed_from listed_at Once among
listed-once at seen [] ok = tt
listed-once at seen (f ∷ fs) ok =
    let next = at + length (field_bytes f) in
    (seen-gone (field_id f) next (field_id f ∷ seen) fs ok.2 (rw (eq-eqb (field_id f) (field_id f) refl)), listed-once next (field_id f ∷ seen) fs ok.2)

-- ---- the last field with an id, where x was noted before
unfoldable last_in : ℕ → Option Span → List Listed → Option Span
last_in id x [] = x
last_in id x (l ∷ ls) = last_in id (noted id l x) ls

last_none : (id : ℕ) (x : Option Span) (ls : List Listed) → named_listed id ls ≡ None → last_in id x ls ≡ x
unfolding named_listed last_in noted
last_none id x [] e = refl
last_none id x (l ∷ ls) e =
    by-test (eqb l.id id) (λ t. let there = sym e ∙ pick_true _ (named_listed id ls) t in never cc)
    (λ t. ap (λ (y : Option Span). last_in id y ls) (pick-false _ x t) ∙ last_none id x ls (sym (pick-false _ _ t) ∙ e))

unfoldable or_else : Option Span → Option Span → Option Span
or_else x None = x
or_else x (Some p) = Some p

or-none : (x : Option Span) → or_else None x ≡ x
unfolding or_else
or-none None = refl
or-none (Some p) = refl

last-is : (id : ℕ) (x : Option Span) (ls : List Listed) → Once ls → last_in id x ls ≡ or_else x (named_listed id ls)
unfolding Once named_listed last_in noted or_else
last-is id x [] o = refl
last-is id x (l ∷ ls) o =
    by-test (eqb l.id id)
    (λ t.
    let gone : named_listed id ls ≡ None = rw (← (eqb-true l.id id t)) o.0 in
    ap (λ (y : Option Span). last_in id y ls) (pick_true _ x t) ∙ last_none id _ ls gone ∙ sym (ap (or_else x) (pick_true _ _ t)))
    (λ t. ap (λ (y : Option Span). last_in id y ls) (pick-false _ x t) ∙ last-is id x ls o.1 ∙ sym (ap (or_else x) (pick-false _ _ t)))

-- ---- the same of several ids
pub lasts : List ℕ → List (Option Span) → List Listed → List (Option Span)
lasts [] xs ls = []
lasts (id ∷ ids) [] ls = []
lasts (id ∷ ids) (x ∷ xs) ls = last_in id x ls ∷ lasts ids xs ls

pub noted-size : (ids : List ℕ) (l : Listed) (xs : List (Option Span)) → length xs ≡ length ids → length (noted_all ids l xs) ≡ length ids
unfolding noted_all
noted-size [] l xs e = refl
noted-size (id ∷ ids) l [] e = e
noted-size (id ∷ ids) l (x ∷ xs) e = ap suc (noted-size ids l xs (omega arith))

pub lasts-next : (ids : List ℕ) (xs : List (Option Span)) (l : Listed) (ls : List Listed) → lasts ids (noted_all ids l xs) ls ≡ lasts ids xs (l ∷ ls)
unfolding lasts noted_all last_in
lasts-next [] xs l ls = refl
lasts-next (id ∷ ids) [] l ls = refl
lasts-next (id ∷ ids) (x ∷ xs) l ls = ap (λ ys. last_in id (noted id l x) ls ∷ ys) (lasts-next ids xs l ls)

pub lasts-end : (ids : List ℕ) (xs : List (Option Span)) → length xs ≡ length ids → lasts ids xs [] ≡ xs
unfolding lasts last_in
lasts-end [] [] e = refl
lasts-end [] (x ∷ xs) e = absurd (omega arith)
lasts-end (id ∷ ids) [] e = absurd (omega arith)
lasts-end (id ∷ ids) (x ∷ xs) e = ap (λ ys. x ∷ ys) (lasts-end ids xs (omega arith))

lasts-first : (ids : List ℕ) (ls : List Listed) → Once ls → lasts ids (replicate (length ids) None) ls ≡ spans_in ls ids
unfolding lasts spans_in or_else
lasts-first [] ls o = refl
lasts-first (id ∷ ids) ls o =
    let one : last_in id None ls ≡ named_listed id ls = last-is id _ ls o ∙ or-none (named_listed id ls) in
    rw one (ap (λ ys. named_listed id ls ∷ ys) (lasts-first ids ls o))

pub lasts-all : (ids : List ℕ) (at : ℕ) (fs : List Field) → ListOk [] fs → length ids ≡ 4
    → lasts ids (replicate 4 None) (listed_from at fs) ≡ spans_in (listed_from at fs) ids
lasts-all ids at fs ok h =
    ap (λ n. lasts ids (replicate n None) (listed_from at fs)) (sym h) ∙ lasts-first ids (listed_from at fs) (listed-once at [] fs ok)

-- ---- where the fields with those ids lie in a list that is read
abbrev pub Finds : List ℕ → ℕ → List ℕ → List (Option Span) → Type 0
Finds ids at s found = (r : ListRead) → list_of [] 0 at s ≡ got r → found ≡ spans_in (listed_from at r.fields) ids

module _ (ids : List ℕ) (at : ℕ) (s : List ℕ) where
  pub list-located : (t : Tally) (lies : List (Option Span)) → list_answer at s ≡ Ok t → Finds ids at s lies
      → Ok (record { tally = t; lies = lies }) ≡ list_located ids at s
  unfolding list_located list_answer
  list-located t lies e f = sym (located-got _ _ (list_of [] 0 at s) t lies e f)

  pub list-stopped : (r : Refusal) → list_answer at s ≡ Err r → Err r ≡ list_located ids at s
  unfolding list_located list_answer
  list-stopped r e = sym (located-stopped _ _ (list_of [] 0 at s) r e)

  pub list-read : (r : Located (List (Option Span))) → list_located ids at s ≡ Ok r → (list_answer at s ≡ Ok r.tally) × Finds ids at s r.lies
  unfolding list_located list_answer
  list-read r e = got-located _ _ (list_of [] 0 at s) r e

  pub list-refused : (r : Refusal) → list_located ids at s ≡ Err r → list_answer at s ≡ Err r
  unfolding list_located list_answer
  list-refused r e = stopped-located _ _ (list_of [] 0 at s) r e

-- ---- a list from the i-th byte on, where so much is noted of the fields before it: with those behind it, that is what all of them give
abbrev pub Noting : ℕ → List ℕ → List ℕ → List ℕ → ℕ → ℕ → List (Option Span) → Type 0
Noting at s ids seen n i fields =
    (r : ListRead) → list_of seen n (at + i) (drop i s) ≡ got r
    → (q : ListRead) × (list_of [] 0 at s ≡ got q) × (spans_in (listed_from at q.fields) ids ≡ lasts ids fields (listed_from (at + i) r.fields))

module _ (at : ℕ) (s ids : List ℕ) where
  pub noting-begins : Bytes s → length ids ≡ 4 → Noting at s ids [] 0 0 (replicate 4 None)
  noting-begins b h r e =
      let f : list_of [] 0 at s ≡ got r = rw (add-zero at) at e in
      (r, f, rw (add-zero at) (sym (lasts-all ids at r.fields (list-sound [] 0 at s r b f).1 h)))

  pub noting-goes : (seen : List ℕ) (n i from : ℕ) (fields : List (Option Span)) (t : Tally) → Noting at s ids seen n i fields → Listing at s seen n i from t
      → Noting at s ids (get_or s i 0 ∷ seen) t.objects (i + t.size)
      (noted_all ids (record { id = get_or s i 0; from = at + i + from; to = at + i + t.size }) fields)
  noting-goes seen n i from fields t before listing r e =
      let (q, f, listed) = listing r e in
      let (w, g, h) = before q f in
      (w, g, h ∙ ap (lasts ids fields) listed ∙ sym (lasts-next ids fields _ _))

  pub noting-ends : (seen : List ℕ) (n i : ℕ) (fields : List (Option Span)) → Noting at s ids seen n i fields → length s ≤ i → length fields ≡ length ids
      → Finds ids at s fields
  unfolding listed_from
  noting-ends seen n i fields before h l r e =
      let (w, g, k) = before _ (list-none seen n (at + i) (drop i s) (omega (arith, length-drop i s))) in
      let same : w ≡ r = got_same (sym g ∙ e) in
      sym (rw same at k ∙ lasts-end ids fields l)

-- ---- four of them
abbrev four_of : {A : Type 0} → A → List A → List A
four_of d xs = get_or xs 0 d ∷ (get_or xs 1 d ∷ (get_or xs 2 d ∷ (get_or xs 3 d ∷ [])))

four-of : {A : Type 0} (d : A) (xs : List A) → length xs ≡ 4 → xs ≡ four_of d xs
four-of d [] h = absurd (omega arith)
four-of d (x ∷ []) h = absurd (omega arith)
four-of d (x ∷ (y ∷ [])) h = absurd (omega arith)
four-of d (x ∷ (y ∷ (z ∷ []))) h = absurd (omega arith)
four-of d (x ∷ (y ∷ (z ∷ (w ∷ [])))) h = refl
four-of d (x ∷ (y ∷ (z ∷ (w ∷ (v ∷ xs))))) h = absurd (omega arith)

pub noted-four : (ids : List ℕ) (l : Listed) (d : Option Span) (xs : List (Option Span)) → length ids ≡ 4 → length xs ≡ 4
    → noted (get_or ids 0 0) l (get_or xs 0 d)
    ∷ (noted (get_or ids 1 0) l (get_or xs 1 d) ∷ (noted (get_or ids 2 0) l (get_or xs 2 d) ∷ (noted (get_or ids 3 0) l (get_or xs 3 d) ∷ [])))
    ≡ noted_all ids l xs
unfolding noted_all
noted-four ids l d xs h k = sym (ap (λ is. noted_all is l xs) (four-of 0 ids h) ∙ ap (noted_all (four_of 0 ids) l) (four-of d xs k))

-- ---- the ids of a list, written one after the other
pub ids_more : {at e : ℕ} {s : List ℕ} {l : Listed} → FieldHere at e s l
    → length (ids_listed (listed_in at e s)) ≡ suc (length (ids_listed (listed_in l.to e s)))
unfolding ids_listed
ids_more h = ap (λ ls. length (ids_listed ls)) h.all

pub ids_next : (l : Listed) (ls : List Listed) (n : ℕ) (out : List ℕ) → n < length out
    → add_all (ids_listed ls) (text (n + 1) (set out n l.id)) ≡ add_all (ids_listed (l ∷ ls)) (text n out)
unfolding ids_listed add_all add_one
ids_next l ls n out h = sym (ap (add_all (ids_listed ls)) (pick_true _ _ (lt-ltb n (length out) h)))

pub ids-end : (ls : List Listed) (n : ℕ) (out entry : List ℕ) → length (ids_listed ls) ≤ length entry
    → add_all (ids_listed []) (text n out) ≡ add_all (ids_listed ls) (text 0 entry) → Whole (ids_listed ls) n entry out
unfolding ids_listed add_all
ids-end ls n out entry h e =
    let w = ids_listed ls in
    let same : text n out ≡ text (length w) (front w entry) = e ∙ put_whole w entry h in
    (ap (λ (t : Text). t.at) same, ap (λ (t : Text). t.bytes) same)
