-- What the readers of a header answer, case by case. Assumes nothing.
use mathlib.Core.Path.{◌≡◌, refl, ap, ◌∙◌}
use mathlib.Core.Bool.{true, false}
use mathlib.Core.List.{List, [], ◌∷◌}
use Prim.Native.Nat.{ℕ, ◌+◌, ◌-◌, ◌*◌, ◌<◌, ◌≤◌}
use native.Mathlib.Omega.{arith}
use lib.ListN.{length, get_or}
use lib.Dec.{ltb}
use borrow.Author.Tests.{lt-ltb, le-ltb, ne_eqb}
use Rattle.std.proofs.Common.{Err, Ok}
use Rattle.basics.proofs.Tests.{never}
use Rattle.zvt_rules.specs.declared.Refusal.{Refusal}
use Rattle.zvt_rules.specs.Reading.{Reading, got, refused, unplaced, unless, and_then}
use Rattle.zvt_rules.specs.Limits.{most_body}
use Rattle.zvt_rules.specs.Message.{BodyLength, long_length, length_of, Heading, end, header_with, header_of, whole_header}
use Rattle.zvt_rules.proofs.Readings.{unless-got, then-got, then-on, then-stop, unless-then}
use Rattle.zvt_rules.proofs.FieldReading.{header-most, header-in}
use Rattle.zvt_rules.specs.declared.Header.{Header}
use Rattle.zvt.specs.HeaderSteps.{as_header, fitting, in_code, first_header, whole_answer}
use Rattle.zvt_rules.specs.Answers.{header_in, as_header_answer, header_answer}

-- ---- where the body lies
pub fit-over : (h : Header) (s : List ℕ) → most_body < h.length → fitting h s ≡ Err (unplaced 2)
unfolding fitting as_header unless
fit-over h s o = rw (lt-ltb most_body h.length o)

pub fit_cut : (h : Header) (s : List ℕ) → h.length ≤ most_body → length s < h.start + h.length → fitting h s ≡ Err (unplaced 1)
unfolding fitting as_header unless
fit_cut h s o l = rw (le-ltb most_body h.length o, lt-ltb (length s) (h.start + h.length) l)

pub fit-in : (h : Header) (s : List ℕ) → h.length ≤ most_body → h.start + h.length ≤ length s → fitting h s ≡ Ok h
unfolding fitting as_header unless
fit-in h s o l = rw (le-ltb most_body h.length o, le-ltb (length s) (h.start + h.length) l)

-- ---- the bytes of a header
with-fitting : (c i : ℕ) (s : List ℕ) (l : BodyLength)
    → in_code (header_with c i s l)
    ≡ fitting (header_in (record { class = c; instruction = i; long = l.long; size = l.value })) s
unfolding header_with fitting header_in and_then
with-fitting c i s l = ap as_header (unless-then _ _ _ _ ∙ rw unless-then)

by_length : (c i : ℕ) (s : List ℕ) (l : BodyLength) → length_of s ≡ got l
    → first_header (c ∷ (i ∷ s)) ≡ fitting (header_in (record { class = c; instruction = i; long = l.long; size = l.value })) (c ∷ (i ∷ s))
unfolding header_of
by_length c i s l e =
    ap in_code (then-on _ l e) ∙ with-fitting c i (c ∷ (i ∷ s)) l

pub header-none : (s : List ℕ) → length s < 3 → first_header s ≡ Err (unplaced 1)
unfolding as_header header_of length_of and_then
header-none [] h = refl
header-none (c ∷ []) h = refl
header-none (c ∷ (i ∷ [])) h = refl
header-none (c ∷ (i ∷ (b ∷ s))) h = absurd (omega arith)

pub header-short : (s : List ℕ) → 3 ≤ length s → (get_or s 2 0 ≡ 0xFF → ⊥)
    → first_header s ≡ fitting (record { class = get_or s 0 0; instruction = get_or s 1 0; start = 3; length = get_or s 2 0 }) s
unfolding length_of header_in
header-short [] h n = absurd (omega arith)
header-short (c ∷ []) h n = absurd (omega arith)
header-short (c ∷ (i ∷ [])) h n = absurd (omega arith)
header-short (c ∷ (i ∷ (b ∷ s))) h n = by_length c i (b ∷ s) (record { long = false; value = b }) (rw (ne_eqb b 0xFF n))

pub header-cut : (s : List ℕ) → 3 ≤ length s → get_or s 2 0 ≡ 0xFF → length s < 5 → first_header s ≡ Err (unplaced 1)
unfolding as_header header_of length_of long_length and_then
header-cut [] h e l = absurd (omega arith)
header-cut (c ∷ []) h e l = absurd (omega arith)
header-cut (c ∷ (i ∷ [])) h e l = absurd (omega arith)
header-cut (c ∷ (i ∷ (b ∷ []))) h e l = rw e
header-cut (c ∷ (i ∷ (b ∷ (x ∷ [])))) h e l = rw e
header-cut (c ∷ (i ∷ (b ∷ (x ∷ (y ∷ s))))) h e l = absurd (omega arith)

pub header-long : (s : List ℕ) → 5 ≤ length s → get_or s 2 0 ≡ 0xFF
    → first_header s ≡ fitting (record { class = get_or s 0 0; instruction = get_or s 1 0; start = 5; length = get_or s 4 0 * 256 + get_or s 3 0 }) s
unfolding length_of long_length header_in
header-long [] h e = absurd (omega arith)
header-long (c ∷ []) h e = absurd (omega arith)
header-long (c ∷ (i ∷ [])) h e = absurd (omega arith)
header-long (c ∷ (i ∷ (b ∷ []))) h e = absurd (omega arith)
header-long (c ∷ (i ∷ (b ∷ (x ∷ [])))) h e = absurd (omega arith)
header-long (c ∷ (i ∷ (b ∷ (x ∷ (y ∷ s))))) h e = by_length c i (b ∷ (x ∷ (y ∷ s))) (record { long = true; value = y * 256 + x }) (rw e)

-- ---- from the code's answer to what was read
pub as-got : (x : Reading Heading) (h : Header) → in_code x ≡ Ok h
    → (m : Heading) × (x ≡ got m) × (header_in m ≡ h)
unfolding as_header and_then
as-got (got m) h e = (m, refl, cc)
as-got (refused r) h e = never cc

pub as-stopped : (x : Reading Heading) (r : Refusal) → in_code x ≡ Err r → x ≡ refused r
unfolding as_header and_then
as-stopped (got m) r e = never cc
as-stopped (refused q) r e = cc

-- a whole header is a header
pub whole-first : (s : List ℕ) (m : Heading) → whole_header s ≡ got m → header_of s ≡ got m
unfolding whole_header
whole-first s m e =
    let k = then-got (header_of s) _ m e in
    k.1 ∙ (unless-got (ltb (end k.0) (length s)) _ _ m k.2).1

-- ---- the body lies within the bytes and the limit
abbrev pub Within : Header → List ℕ → Type 0
Within h s = (h.start ≤ 5) × (h.length ≤ most_body) × (h.start + h.length ≤ length s)

got-within : (s : List ℕ) (m : Heading) → header_of s ≡ got m → Within (header_in m) s
unfolding header_in
got-within s m e = let i = header-in s m e in (header-most m.long, i.0, i.1)

pub first-within : (s : List ℕ) (h : Header) → first_header s ≡ Ok h → Within h s
first-within s h e = let g = as-got (header_of s) h e in rw (← g.2) (got-within s g.0 g.1)

pub whole-within : (s : List ℕ) (h : Header) → whole_answer s ≡ Ok h → Within h s
whole-within s h e = let g = as-got (whole_header s) h e in rw (← g.2) (got-within s g.0 (whole-first s g.0 g.1))

-- ---- nothing behind the body
pub whole-none : (s : List ℕ) (r : Refusal) → first_header s ≡ Err r → whole_answer s ≡ Err r
unfolding as_header whole_header
whole-none s r e = ap as_header (then-stop _ r (then-stop _ r (as-stopped (header_of s) r e)))

whole-goes-on : (s : List ℕ) (h : Header) → first_header s ≡ Ok h
    → whole_answer s ≡ as_header (unless (ltb (h.start + h.length) (length s)) (unplaced 3) (got h))
unfolding whole_header header_in and_then
whole-goes-on s h e =
    let g = as-got (header_of s) h e in
    rw (← g.2) (ap in_code (then-on _ g.0 g.1) ∙ ap as_header (unless-then _ _ _ _))

pub whole-over : (s : List ℕ) (h : Header) → first_header s ≡ Ok h → h.length < length s - h.start
    → whole_answer s ≡ Err (unplaced 3)
unfolding as_header unless
whole-over s h e l = whole-goes-on s h e ∙ rw (lt-ltb (h.start + h.length) (length s) (omega arith))

pub whole_in : (s : List ℕ) (h : Header) → first_header s ≡ Ok h → length s - h.start ≤ h.length → whole_answer s ≡ Ok h
unfolding as_header unless
whole_in s h e l = whole-goes-on s h e ∙ rw (le-ltb (h.start + h.length) (length s) (omega arith))

-- ---- the public answer
pub answer-is : (s : List ℕ) → whole_answer s ≡ header_answer s
unfolding header_answer as_header_answer as_header and_then
answer-is s = go (whole_header s)
  where
    go : (x : Reading Heading) → in_code x ≡ as_header_answer x
    go (got h) = refl
    go (refused r) = refl
