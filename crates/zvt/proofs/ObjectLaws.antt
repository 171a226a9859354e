-- What the readers of tags, lengths and heads answer, case by case. Assumes nothing.
use mathlib.Core.Path.{◌≡◌, refl, ap, ◌∙◌}
use mathlib.Core.Bool.{Bool, true, false}
use mathlib.Core.List.{List, [], ◌∷◌}
use Prim.Native.Nat.{ℕ, ◌+◌, ◌-◌, ◌*◌, ◌<◌, ◌≤◌}
use native.Mathlib.Omega.{arith}
use lib.ListN.{length, get_or, drop, length-drop}
use borrow.Author.Tests.{lt-ltb, le-ltb, ne_eqb}
use Rattle.std.proofs.Common.{Err, Ok, Result}
use Rattle.basics.proofs.Tests.{never}
use Rattle.zvt_rules.specs.declared.Refusal.{Refusal}
use Rattle.zvt_rules.specs.Reading.{Reading, got, refused, fault_at, unless, and_then}
use Rattle.zvt_rules.specs.Objects.{long_tag, top_bit, nested, form_size, second_tag, tag_size, Len, one_byte_len, two_byte_len, len_of, Head, head_with, head_of}
use Rattle.zvt_rules.specs.Shortest.{form_for}
use Rattle.zvt_rules.proofs.Readings.{then-on, then-stop, unless-then}
use Rattle.zvt_rules.proofs.ObjectReading.{tag_in, len-in}
use Rattle.zvt.specs.declared.objects.Bounds.{Bounds}
use Rattle.zvt.specs.ObjectSteps.{as_tag, as_len, as_bounds, tag_answer, len_answer, bounds_in, within, bounds_of, head_answer, tally_of}

-- ---- the tag
pub tag-none : (at : ℕ) (s : List ℕ) → length s ≡ 0 → tag_answer at s ≡ Err (fault_at 1 at)
unfolding tag_answer as_tag tag_size
tag-none at [] h = refl
tag-none at (b ∷ s) h = absurd (omega arith)

pub tag_one : (at : ℕ) (s : List ℕ) → 0 < length s → long_tag (get_or s 0 0) ≡ false → tag_answer at s ≡ Ok 1
unfolding tag_answer as_tag tag_size
tag_one at [] h e = absurd (omega arith)
tag_one at (b ∷ s) h e = rw e

pub tag-cut : (at : ℕ) (s : List ℕ) → length s ≡ 1 → long_tag (get_or s 0 0) ≡ true → tag_answer at s ≡ Err (fault_at 1 (at + 1))
unfolding tag_answer as_tag tag_size second_tag
tag-cut at [] h e = absurd (omega arith)
tag-cut at (b ∷ []) h e = rw e
tag-cut at (b ∷ (c ∷ s)) h e = absurd (omega arith)

pub tag-high : (at : ℕ) (s : List ℕ) → 1 < length s → long_tag (get_or s 0 0) ≡ true → top_bit (get_or s 1 0) ≡ true
    → tag_answer at s ≡ Err (fault_at 8 (at + 1))
unfolding tag_answer as_tag tag_size second_tag unless
tag-high at [] h e f = absurd (omega arith)
tag-high at (b ∷ []) h e f = absurd (omega arith)
tag-high at (b ∷ (c ∷ s)) h e f = rw (e, f)

pub tag-two : (at : ℕ) (s : List ℕ) → 1 < length s → long_tag (get_or s 0 0) ≡ true → top_bit (get_or s 1 0) ≡ false
    → tag_answer at s ≡ Ok 2
unfolding tag_answer as_tag tag_size second_tag unless
tag-two at [] h e f = absurd (omega arith)
tag-two at (b ∷ []) h e f = absurd (omega arith)
tag-two at (b ∷ (c ∷ s)) h e f = rw (e, f)

-- ---- the length
cut_at : (i j : ℕ) → i ≡ j → ◌≡◌ {A = Result (ℕ × ℕ) Refusal} (Err (fault_at 1 i)) (Err (fault_at 1 j))
cut_at i j e = rw e

pub len-none : (at : ℕ) (s : List ℕ) → length s ≡ 0 → len_answer at s ≡ Err (fault_at 1 (at + length s))
unfolding len_answer as_len len_of
len-none at [] h = cut_at at (at + 0) (omega arith)
len-none at (b ∷ s) h = absurd (omega arith)

pub len-bare : (at : ℕ) (s : List ℕ) → 0 < length s → get_or s 0 0 < 0x80 → len_answer at s ≡ Ok (1, get_or s 0 0)
unfolding len_answer as_len len_of form_size
len-bare at [] h l = absurd (omega arith)
len-bare at (b ∷ s) h l = rw (lt-ltb b 0x80 l)

pub len-cut-one : (at : ℕ) (s : List ℕ) → 0 < length s → length s < 2 → get_or s 0 0 ≡ 0x81
    → len_answer at s ≡ Err (fault_at 1 (at + length s))
unfolding len_answer as_len len_of one_byte_len
len-cut-one at [] h l e = absurd (omega arith)
len-cut-one at (b ∷ []) h l e = rw e
len-cut-one at (b ∷ (v ∷ s)) h l e = absurd (omega arith)

pub len-one : (at : ℕ) (s : List ℕ) → 1 < length s → get_or s 0 0 ≡ 0x81 → len_answer at s ≡ Ok (2, (get_or s 1 0))
unfolding len_answer as_len len_of one_byte_len form_size
len-one at [] h e = absurd (omega arith)
len-one at (b ∷ []) h e = absurd (omega arith)
len-one at (b ∷ (v ∷ s)) h e = rw e

pub len-cut-two : (at : ℕ) (s : List ℕ) → 0 < length s → length s < 3 → get_or s 0 0 ≡ 0x82
    → len_answer at s ≡ Err (fault_at 1 (at + length s))
unfolding len_answer as_len len_of two_byte_len
len-cut-two at [] h l e = absurd (omega arith)
len-cut-two at (b ∷ []) h l e = rw e
len-cut-two at (b ∷ (v ∷ [])) h l e = rw e (cut_at (at + 1 + 1) (at + 2) (omega arith))
len-cut-two at (b ∷ (v ∷ (w ∷ s))) h l e = absurd (omega arith)

pub len-two : (at : ℕ) (s : List ℕ) → 2 < length s → get_or s 0 0 ≡ 0x82 → len_answer at s ≡ Ok (3, (get_or s 1 0 * 256 + get_or s 2 0))
unfolding len_answer as_len len_of two_byte_len form_size
len-two at [] h e = absurd (omega arith)
len-two at (b ∷ []) h e = absurd (omega arith)
len-two at (b ∷ (v ∷ [])) h e = absurd (omega arith)
len-two at (b ∷ (v ∷ (w ∷ s))) h e = rw e

pub len-bad : (at : ℕ) (s : List ℕ) → 0 < length s → 0x80 ≤ get_or s 0 0 → (get_or s 0 0 ≡ 0x81 → ⊥) → (get_or s 0 0 ≡ 0x82 → ⊥)
    → len_answer at s ≡ Err (fault_at 22 at)
unfolding len_answer as_len len_of
len-bad at [] h l e f = absurd (omega arith)
len-bad at (b ∷ s) h l e f = rw (le-ltb b 0x80 l, ne_eqb b 0x81 e, ne_eqb b 0x82 f)

-- ---- where a value ends
pub value-cut : (at tag a v : ℕ) (run : Bool) (s : List ℕ) → a ≤ length s → length s - a < v
    → within at tag a v run s ≡ Err (fault_at 1 (at + length s))
unfolding within as_bounds bounds_in unless
value-cut at tag a v run s h l = rw (lt-ltb (length s) (a + v) (omega arith))

pub value-fits : (at tag a v : ℕ) (run : Bool) (s : List ℕ) → a ≤ length s → v ≤ length s - a
    → within at tag a v run s ≡ Ok (record { tag = tag; from = a; to = a + v; nested = run })
unfolding within as_bounds bounds_in unless
value-fits at tag a v run s h l = rw (le-ltb (length s) (a + v) (omega arith))

-- ---- the head
pub tag-got : (x : Reading ℕ) (k : ℕ) → as_tag x ≡ Ok k → x ≡ got k
unfolding as_tag
tag-got (got j) k e = cc
tag-got (refused r) k e = never cc

pub tag-stopped : (x : Reading ℕ) (r : Refusal) → as_tag x ≡ Err r → x ≡ refused r
unfolding as_tag
tag-stopped (got j) r e = never cc
tag-stopped (refused q) r e = cc

pub len-got : (x : Reading Len) (size v : ℕ) → as_len x ≡ Ok (size, v) → (l : Len) × (x ≡ got l) × (form_size l.form ≡ size) × (l.value ≡ v)
unfolding as_len
len-got (got l) size v e =
    let both : (form_size l.form, l.value) ≡ (size, v) = cc in (l, refl, ap (λ (x : ℕ × ℕ). x.0) both, ap (λ (x : ℕ × ℕ). x.1) both)
len-got (refused r) size v e = never cc

pub len-stopped : (x : Reading Len) (r : Refusal) → as_len x ≡ Err r → x ≡ refused r
unfolding as_len
len-stopped (got l) r e = never cc
len-stopped (refused q) r e = cc

pub tag-within : (at k : ℕ) (s : List ℕ) → tag_answer at s ≡ Ok k → (1 ≤ k) × (k ≤ length s)
unfolding tag_answer
tag-within at k s e = tag_in at s k (tag-got _ k e)

pub head-no-tag : (at : ℕ) (s : List ℕ) (r : Refusal) → tag_answer at s ≡ Err r → head_answer at s ≡ Err r
unfolding head_answer as_bounds head_of tag_answer
head-no-tag at s r e = ap as_bounds (then-stop _ r (then-stop _ r (tag-stopped _ r e)))

with-bounds : (at k : ℕ) (s : List ℕ) (l : Len)
    → as_bounds (and_then (head_with at s k l) λ h. got (bounds_of s h))
    ≡ within at k (k + form_size l.form) l.value (nested (get_or s 0 0)) s
unfolding head_with within bounds_in bounds_of and_then
with-bounds at k s l = ap as_bounds (unless-then _ _ _ _)

-- tag and length are there: where the value starts, and that it is all a matter of where it ends
pub record Started (at k size v : ℕ) (s : List ℕ) : Type 0 where
  pub first : 1 ≤ k
  pub start : k + size ≤ length s
  pub answer : {run : Bool} {x : Result Bounds Refusal} → nested (get_or s 0 0) ≡ run → x ≡ within at k (k + size) v run s → x ≡ head_answer at s

module _ (at k : ℕ) (s : List ℕ) (tag : tag_answer at s ≡ Ok k) where
  past-tag : head_of at s ≡ and_then (len_of (at + k) (drop k s)) (λ l. head_with at s k l)
  unfolding head_of tag_answer
  past-tag = then-on _ k (tag-got _ k tag)

  pub head-no-length : (r : Refusal) → len_answer (at + k) (drop k s) ≡ Err r → head_answer at s ≡ Err r
  unfolding head_answer as_bounds len_answer
  head-no-length r e = ap as_bounds (then-stop _ r (past-tag ∙ then-stop _ r (len-stopped _ r e)))

  pub head-starts : (size v : ℕ) → len_answer (at + k) (drop k s) ≡ Ok (size, v) → Started at k size v s
  unfolding head_answer len_answer
  head-starts size v len =
      let l = len-got _ size v len in
      let i = tag-within at k s tag in
      record {
        first = i.0;
        start = omega (arith, len-in (at + k) (drop k s) l.0 l.1, l.2, length-drop k s);
        answer =
            λ e f.
            let g = with-bounds at k s l.0 in
            let j = ap (λ (x : Reading Head). as_bounds (and_then x λ h. got (bounds_of s h))) (past-tag ∙ then-on _ l.0 l.1) in
            cc;
      }

-- ---- the shortest length
pub form-bare : (v : ℕ) → v < 128 → form_size (form_for v) ≡ 1
unfolding form_for form_size
form-bare v h = rw (lt-ltb v 128 h)

pub form-one : (v : ℕ) → 128 ≤ v → v < 256 → form_size (form_for v) ≡ 2
unfolding form_for form_size
form-one v h l = rw (le-ltb v 128 h, lt-ltb v 256 l)

pub form-two : (v : ℕ) → 256 ≤ v → form_size (form_for v) ≡ 3
unfolding form_for form_size
form-two v h = rw (le-ltb v 128 (omega arith), le-ltb v 256 h)

pub tally-short : (b : Bounds) (objects saved f : ℕ) → f ≡ form_size (form_for (b.to - b.from - saved))
    → record { size = b.to; objects = objects; spare = b.to - (b.tag + f + (b.to - b.from - saved)) } ≡ tally_of b objects saved
unfolding tally_of
tally-short b objects saved f e = rw e
