-- The text of a listing: the definition and the second writing agree, and how long it is. Assumes nothing.
use mathlib.Core.Path.{◌≡◌, refl, sym, ap, ap₂, ◌∙◌}
use mathlib.Core.Bool.{Bool, true, false}
use mathlib.Core.Logic.{◌↔◌, inl, inr, ⊎_elim}
use mathlib.Core.List.{List, [], ◌∷◌, ◌++◌, append-nil, append_assoc}
use Prim.Native.Nat.{ℕ, zero, suc, ◌+◌, ◌-◌, ◌*◌, ◌/◌, ◌%◌, ◌^◌, ◌<◌, ◌≤◌}
use native.Mathlib.Omega.{arith}
use lib.ListN.{length, drop, length-append, take-append-drop}
use lib.Seq.{drop-nil, drop-append_seam}
use lib.Dec.{ltb}
use borrow.Author.Tests.{lt-ltb, le-ltb, ltb-true, ltb-false}
use Rattle.zvt_rules.specs.declared.Refusal.{Refusal}
use Rattle.zvt_rules.specs.Reading.{Reading, got, refused}
use Rattle.zvt_rules.specs.Fields.{Field, plain, container, field_id}
use Rattle.zvt_rules.specs.Message.{header_size, Body, bytes, listed, Message, first_of}
use Rattle.zvt_rules.specs.believed.Writing.{field_bytes, list_bytes, body_bytes, message_bytes}
use Rattle.zvt_rules.specs.Shortest.{is_short}
use Rattle.basics.specs.believed.Lists.{Bytes}
use Rattle.zvt_rules.specs.believed.Grammar.{MessageOk}
use Rattle.zvt_rules.specs.Values.{body_fields}
use Rattle.basics.specs.Text.{hex_text, decimal_text}
use Rattle.zvt_rules.specs.Listing.{ids_text, body_ids, ids_of, short_or_long, start_text, size_text, message_text, end_text, ok_text, refused_text, line_and, lines_from, listing}
use Rattle.basics.specs.believed.Text.{ascii}
use Rattle.zvt_rules.specs.believed.Listing.{words, Ids, ShortOrLong, MessageLine, Last, Lists, Listing}
use Rattle.basics.proofs.Tests.{by-test, true-false, pick-test}
use Rattle.zvt_rules.proofs.ObjectBytes.{bytes_drop, bytes_take}
use Rattle.zvt_rules.proofs.MessageBytes.{first-sound, first-complete, message-size}
use Rattle.zvt_rules.proofs.MessageShort.{short-exactly}
use Rattle.zvt_rules.proofs.Numbers.{first-numbers}
use Rattle.zvt_rules.proofs.Found.{list-ends}
use Rattle.basics.proofs.Text.{hex-only, hex-is, decimal-exactly, decimal-one, decimal-more, decimal-long}

-- ---- the lines from a place on
passed : (count left : ℕ) (s : List ℕ) → lines_from count left s ≡ lines_from count 0 (drop left s)
unfolding lines_from
passed count left [] = rw (drop-nil left)
passed count zero (b ∷ s) = refl
passed count (suc left) (b ∷ s) = passed count left s

pub lines_none : (count : ℕ) (s : List ℕ) → length s ≡ 0 → lines_from count 0 s ≡ ok_text count ++ (10 ∷ [])
unfolding lines_from
lines_none count [] h = refl
lines_none count (b ∷ s) h = absurd (omega arith)

pub lines-refused : (count : ℕ) (s : List ℕ) (f : Refusal) → 0 < length s → first_of s ≡ refused f
    → lines_from count 0 s ≡ refused_text count f.number ++ (10 ∷ [])
unfolding lines_from line_and
lines-refused count [] f h e = absurd (omega arith)
lines-refused count (b ∷ s) f h e = rw e

some_bytes : (m : Message) → 1 ≤ length (message_bytes m)
unfolding message_bytes
some_bytes m = omega arith

pub lines-message : (count : ℕ) (s : List ℕ) (m : Message) → 0 < length s → first_of s ≡ got m
    → lines_from count 0 s ≡ message_text (count + 1) m ++ (10 ∷ lines_from (count + 1) 0 (drop (length (message_bytes m)) s))
unfolding lines_from line_and
lines-message count [] m h e = absurd (omega arith)
lines-message count (b ∷ s) m h e =
    let k : length (message_bytes m) ≡ suc (length (message_bytes m) - 1) = omega (arith, some_bytes m) in
    rw (e, passed (count + 1) (length (message_bytes m) - 1) s) (sym (ap (λ j. message_text (count + 1) m ++ (10 ∷ lines_from (count + 1) 0 (drop j (b ∷ s)))) k))

-- ---- words, a blank before each
unfoldable spaced : List (List ℕ) → List ℕ
spaced [] = []
spaced (w ∷ ws) = 32 ∷ (w ++ spaced ws)

words-spaced : (w : List ℕ) (ws : List (List ℕ)) → words (w ∷ ws) ≡ w ++ spaced ws
unfolding words spaced
words-spaced w [] = sym (append-nil w)
words-spaced w (v ∷ ws) = ap (λ (u : List ℕ). w ++ (32 ∷ u)) (words-spaced v ws)

unfoldable id_words : List Field → List (List ℕ)
id_words [] = []
id_words (f ∷ fs) = hex_text (field_id f) ∷ id_words fs

ids-spaced : (b : Body) → spaced (id_words (body_fields b)) ≡ body_ids b
unfolding spaced id_words body_fields body_ids ids_text
ids-spaced (bytes s) = refl
ids-spaced (listed password fs) = go fs
  where
    go : (fs : List Field) → spaced (id_words fs) ≡ ids_text fs
    go [] = refl
    go (f ∷ fs) = ap (λ (u : List ℕ). 32 ∷ (hex_text (field_id f) ++ u)) (go fs)

ids-only : (fs : List Field) (ws : List (List ℕ)) → Ids fs ws → ws ≡ id_words fs
unfolding Ids id_words
ids-only [] ws e = e
ids-only (f ∷ fs) ws (w, vs, e, h, k) = e ∙ ap₂ (λ (x : List ℕ) (xs : List (List ℕ)). x ∷ xs) (hex-only (field_id f) w h) (ids-only fs vs k)

-- an id is a byte of the message
id-byte : (f : Field) (w : List ℕ) → Bytes (field_bytes f ++ w) → field_id f < 256
unfolding field_bytes field_id Bytes
id-byte (plain id value) w h = h 0
id-byte (container form os) w h = h 0

ids-are : (fs : List Field) → Bytes (list_bytes fs) → Ids fs (id_words fs)
unfolding Ids id_words list_bytes
ids-are [] h = refl
ids-are (f ∷ fs) h =
    let rest : Bytes (list_bytes fs) = rw (drop-append_seam (field_bytes f) (list_bytes fs)) at (bytes_drop (length (field_bytes f)) _ h) in
    (hex_text (field_id f), id_words fs, refl, hex-is (field_id f) (id-byte f (list_bytes fs) h), ids-are fs rest)

-- ---- a line
unfoldable form_word : Bool → List ℕ
form_word true = ascii "short"
form_word false = ascii "long"

form-text : (t : Bool) → short_or_long t ≡ 32 ∷ form_word t
unfolding short_or_long form_word
form-text true = refl
form-text false = refl

form-only : (m : Message) (w : List ℕ) → MessageOk m → ShortOrLong m w → w ≡ form_word (is_short m)
unfolding ShortOrLong form_word
form-only m w ok =
    ⊎_elim (λ (e, k). rw ((short-exactly m ok).0 e) k)
    (λ (n, k). by-test (is_short m) (λ t. absurd (n ((short-exactly m ok).1 t))) (λ t. rw t k))

form-is : (m : Message) → MessageOk m → ShortOrLong m (form_word (is_short m))
unfolding ShortOrLong form_word
form-is m ok =
    by-test (is_short m) (λ t. inl ((short-exactly m ok).1 t, rw t)) (λ t. inr (λ e. true-false ((short-exactly m ok).0 e) t, rw t))

line-words : (n : ℕ) (m : Message)
    → words (decimal_text n ∷ (hex_text m.class ++ hex_text m.instruction) ∷ decimal_text (length (body_bytes m.body)) ∷ form_word (is_short m) ∷ id_words (body_fields m.body))
    ≡ message_text n m
unfolding message_text start_text size_text spaced
line-words n m =
    let number = decimal_text n in
    let pair = hex_text m.class ++ hex_text m.instruction in
    let size = decimal_text (length (body_bytes m.body)) in
    let ids = body_ids m.body in
    let form = short_or_long (is_short m) in
    let behind : (size ++ form) ++ ids ≡ size ++ (32 ∷ (form_word (is_short m) ++ ids)) =
    append_assoc size form ids ∙ ap (λ (w : List ℕ). size ++ (w ++ ids)) (form-text (is_short m)) in
    words-spaced _ _
    ∙ rw (ids-spaced m.body)
    (sym (append_assoc number (32 ∷ pair) (32 ∷ ((size ++ form) ++ ids)) ∙ ap (λ (w : List ℕ). number ++ (32 ∷ (pair ++ (32 ∷ w)))) behind))

line-only : (n : ℕ) (m : Message) (t : List ℕ) → MessageOk m → MessageLine n m t → t ≡ message_text n m ++ (10 ∷ [])
unfolding MessageLine
line-only n m t ok (number, class, instruction, size, form, ids, a, b, c, d, e, f, g) =
    let same : words (number ∷ (class ++ instruction) ∷ size ∷ form ∷ ids) ≡ message_text n m =
    rw ((decimal-exactly n number).0 a, hex-only _ class b, hex-only _ instruction c, (decimal-exactly _ size).0 d, form-only m form ok e, ids-only _ ids f)
    (line-words n m) in
    g ∙ ap (λ (w : List ℕ). w ++ (10 ∷ [])) same

-- the bytes of a message are bytes
module _ (m : Message) (h : Bytes (message_bytes m)) where
  list-bytes : (b : Body) → m.body ≡ b → Bytes (list_bytes (body_fields b))
  unfolding list_bytes body_fields Bytes
  list-bytes (bytes s) e = λ i. omega arith
  list-bytes (listed password fs) e =
      let (front, whole, size) = list-ends m password fs e in
      rw (whole, drop-append_seam front (list_bytes fs)) at (bytes_drop (length front) (message_bytes m) h)

  line-is : (n : ℕ) → MessageOk m → MessageLine n m (message_text n m ++ (10 ∷ []))
  unfolding MessageLine message_bytes Bytes
  line-is n ok = (
    decimal_text n,
    hex_text m.class,
    hex_text m.instruction,
    decimal_text (length (body_bytes m.body)),
    form_word (is_short m),
    id_words (body_fields m.body),
    (decimal-exactly _ _).1 refl,
    hex-is m.class (h 0),
    hex-is m.instruction (h 1),
    (decimal-exactly _ _).1 refl,
    form-is m ok,
    ids-are (body_fields m.body) (list-bytes m.body refl),
    ap (λ (w : List ℕ). w ++ (10 ∷ [])) (sym (line-words n m)),
  )

-- ---- the last line
last-only : (count : ℕ) (s t : List ℕ) → Last count s t → t ≡ lines_from count 0 s
unfolding Last words ok_text refused_text end_text
last-only count s t (n, d, k) =
    ⊎_elim (λ (none, e). e ∙ rw ((decimal-exactly count n).0 d) (sym (lines_none count s (ap length none))))
    (λ (f, w, some, r, x, e). e ∙ rw ((decimal-exactly count n).0 d, (decimal-exactly f.number w).0 x) (sym (lines-refused count s f some r))) k

last_none : (count : ℕ) → Last count [] (lines_from count 0 [])
unfolding Last words ok_text end_text
last_none count = (decimal_text count, (decimal-exactly _ _).1 refl, inl (refl, lines_none count [] refl))

last-refused : (count : ℕ) (s : List ℕ) (f : Refusal) → 0 < length s → first_of s ≡ refused f → Last count s (lines_from count 0 s)
unfolding Last words refused_text end_text
last-refused count s f some r = (
  decimal_text count,
  (decimal-exactly _ _).1 refl,
  inr (f, decimal_text f.number, some, r, (decimal-exactly _ _).1 refl, lines-refused count s f some r),
)

-- ---- all lines
lists-only : (ms : List Message) (count : ℕ) (s t : List ℕ) → Lists count ms s t → t ≡ lines_from count 0 s
unfolding Lists
lists-only [] count s t k = last-only count s t k
lists-only (m ∷ ms) count s t (rest, line, lines, ok, w, l, more, e) =
    let read : first_of s ≡ got m = rw w (first-complete m rest ok) in
    let some : 0 < length s = omega (arith, ap length w, length-append (message_bytes m) rest, some_bytes m) in
    let behind : drop (length (message_bytes m)) s ≡ rest = rw w (drop-append_seam (message_bytes m) rest) in
    let parts : line ++ lines ≡ message_text (count + 1) m ++ (10 ∷ lines_from (count + 1) 0 rest) =
    rw (line-only (count + 1) m line ok l, lists-only ms (count + 1) rest lines more) (append_assoc (message_text (count + 1) m) (10 ∷ []) _) in
    e ∙ parts ∙ rw (← behind) (sym (lines-message count s m some read))

-- what is left of bytes behind their first message, and that message's own
module _ (s : List ℕ) (b : Bytes s) (m : Message) (e : first_of s ≡ got m) where
  first-is : s ≡ message_bytes m ++ drop (length (message_bytes m)) s
  first-is =
      let k = length (message_bytes m) in
      sym (ap (λ (w : List ℕ). w ++ drop k s) (first-sound s m b e).0 ∙ take-append-drop k s)

  first-bytes : Bytes (message_bytes m)
  first-bytes = rw (first-sound s m b e).0 (bytes_take (length (message_bytes m)) s b)

  first-within : length (message_bytes m) + length (drop (length (message_bytes m)) s) ≡ length s
  first-within = sym (ap length first-is ∙ length-append (message_bytes m) _)

abbrev Listed : ℕ → List ℕ → Type 0
Listed count s = (ms : List Message) × Lists count ms s (lines_from count 0 s)

lists-step : (count : ℕ) (s : List ℕ) → Bytes s
    → ((m : Message) → first_of s ≡ got m → 0 < length s → Listed (count + 1) (drop (length (message_bytes m)) s)) → Listed count s
unfolding Lists
lists-step count [] b more = ([], last_none count)
lists-step count (x ∷ s) b more = go (first_of (x ∷ s)) refl
  where
    go : (y : Reading Message) → first_of (x ∷ s) ≡ y → Listed count (x ∷ s)
    go (refused f) e = ([], last-refused count (x ∷ s) f (omega arith) e)
    go (got m) e =
        let (ms, l) = more m e (omega arith) in
        let ok = (first-sound (x ∷ s) m b e).1 in
        let line = line-is m (first-bytes (x ∷ s) b m e) (count + 1) ok in (
          m ∷ ms,
          (
            drop (length (message_bytes m)) (x ∷ s),
            message_text (count + 1) m ++ (10 ∷ []),
            _,
            ok,
            first-is (x ∷ s) b m e,
            line,
            l,
            lines-message count (x ∷ s) m (omega arith) e ∙ sym (append_assoc (message_text (count + 1) m) (10 ∷ []) _),
          ),
        )

lists-by : (k count : ℕ) (s : List ℕ) → length s ≤ k → Bytes s → Listed count s
lists-by zero count s h b = lists-step count s b (λ m e some. absurd (omega arith))
lists-by (suc k) count s h b =
    lists-step count s b
    (λ m e some. lists-by k (count + 1) (drop (length (message_bytes m)) s) (omega (arith, first-within s b m e, some_bytes m))
    (bytes_drop (length (message_bytes m)) s b))

-- The text that the definition gives is the listing, and nothing else is.
pub listing-exactly : (s t : List ℕ) → Bytes s → Listing s t ↔ (t ≡ listing s)
unfolding Listing listing refused_text end_text
listing-exactly s t b = (
  ⊎_elim (λ (h, e). rw (lt-ltb 65536 (length s) h, decimal-one 0 (omega arith), decimal-one 2 (omega arith)) e)
      (λ (h, ms, k). rw (le-ltb 65536 (length s) h) (lists-only ms 0 s t k)),
  λ e.
      by-test (ltb 65536 (length s))
      (λ x. inl (ltb-true 65536 (length s) x, e ∙ rw (x, decimal-one 0 (omega arith), decimal-one 2 (omega arith))))
      (λ x. let (ms, k) = lists-by (length s) 0 s (omega arith) b in let same : lines_from 0 0 s ≡ t = sym (e ∙ rw x) in inr (ltb-false 65536 (length s) x, ms, rw same at k)),
)

-- ---- how long it is
-- no number has more digits than its value and one
decimal-few : (f n : ℕ) → n < f → length (decimal_text n) ≤ n + 1
decimal-few zero n h = absurd (omega arith)
decimal-few (suc f) n h =
    by-test (ltb n 10) (λ t. omega (arith, ap length (decimal-one n (ltb-true n 10 t))))
    (λ t.
    let l = ltb-false n 10 t in
    let less : n / 10 < f = omega arith in
    omega (arith, ap length (decimal-more n l), length-append (decimal_text (n / 10)) ((48 + n % 10) ∷ []), decimal-few f (n / 10) less))

ids-few : (b : Body) → length (body_ids b) ≤ 3 * length (body_bytes b)
unfolding body_ids body_bytes ids_text list_bytes field_bytes hex_text
ids-few (bytes s) = omega arith
ids-few (listed password fs) = omega (arith, length-append password (list_bytes fs), go fs)
  where
    some : (f : Field) → 1 ≤ length (field_bytes f)
    some (plain id value) = omega arith
    some (container form os) = omega arith

    go : (fs : List Field) → length (ids_text fs) ≤ 3 * length (list_bytes fs)
    go [] = omega arith
    go (f ∷ fs) = omega (arith, some f, length-append (field_bytes f) (list_bytes fs), go fs)

-- the ids of the message that bytes begin with
pub ids-long : (s : List ℕ) → Bytes s → length (ids_of (first_of s)) ≤ 3 * length s
unfolding ids_of
ids-long s b = go (first_of s) refl
  where
    go : (x : Reading Message) → first_of s ≡ x → length (ids_of x) ≤ 3 * length s
    go (got m) e = omega (arith, ids-few m.body, message-size m, first-within s b m e)
    go (refused f) e = omega arith

pub form-long : (t : Bool) → length (short_or_long t) ≤ 6
unfolding short_or_long
form-long true = omega arith
form-long false = omega arith

header-least : (long : Bool) → 3 ≤ header_size long
header-least long = pick-test (λ n. 3 ≤ n) long (λ _. omega arith) (λ _. omega arith)

-- M17: a line has at most 19 bytes for every three of its message
line-long : (n : ℕ) (m : Message) → n < 10 ^ 5 → 3 * (length (message_text n m) + 1) ≤ 19 * length (message_bytes m)
unfolding message_text start_text size_text hex_text
line-long n m h =
    let size = length (body_bytes m.body) in
    let start = start_text n m.class m.instruction in
    let behind = size_text size (is_short m) in
    let ids = body_ids m.body in
    omega (
      arith,
      length-append start (behind ++ ids),
      length-append (decimal_text n) (32 ∷ (hex_text m.class ++ hex_text m.instruction)),
      length-append behind ids,
      length-append (decimal_text size) (short_or_long (is_short m)),
      decimal-long 4 n h,
      decimal-few (suc size) size (omega arith),
      form-long (is_short m),
      ids-few m.body,
      message-size m,
      header-least m.long,
    )

ok-long : (count : ℕ) → count < 10 ^ 5 → length (ok_text count ++ (10 ∷ [])) ≤ 21
unfolding ok_text end_text
ok-long count h = omega (arith, length-append (ok_text count) (10 ∷ []), length-append (decimal_text count) (32 ∷ 111 ∷ 107 ∷ []), decimal-long 4 count h)

refused-long : (count n : ℕ) → count < 10 ^ 5 → n < 10 ^ 2 → length (refused_text count n ++ (10 ∷ [])) ≤ 21
unfolding refused_text end_text
refused-long count n h l =
    omega (
      arith,
      length-append (refused_text count n) (10 ∷ []),
      length-append (decimal_text count) (32 ∷ 114 ∷ 101 ∷ 102 ∷ 117 ∷ 115 ∷ 101 ∷ 100 ∷ 32 ∷ decimal_text n),
      decimal-long 4 count h,
      decimal-long 1 n l,
    )

abbrev Fits : ℕ → List ℕ → Type 0
Fits count s = 3 * length (lines_from count 0 s) ≤ 19 * length s + 63

lines-long-step : (count : ℕ) (s : List ℕ) → Bytes s → count + length s ≤ 65536
    → ((m : Message) → first_of s ≡ got m → 0 < length s → Fits (count + 1) (drop (length (message_bytes m)) s)) → Fits count s
lines-long-step count [] b l more = omega (arith, ap length (lines_none count [] refl), ok-long count (omega arith))
lines-long-step count (x ∷ s) b l more = go (first_of (x ∷ s)) refl
  where
    go : (y : Reading Message) → first_of (x ∷ s) ≡ y → Fits count (x ∷ s)
    go (refused f) e =
        let number : f.number < 10 ^ 2 = ⊎_elim (λ k. omega (arith, k.1)) (λ k. omega (arith, k)) (first-numbers (x ∷ s) f e) in
        omega (arith, ap length (lines-refused count (x ∷ s) f (omega arith) e), refused-long count f.number (omega arith) number)
    go (got m) e =
        let rest = lines_from (count + 1) 0 (drop (length (message_bytes m)) (x ∷ s)) in
        omega (
          arith,
          ap length (lines-message count (x ∷ s) m (omega arith) e),
          length-append (message_text (count + 1) m) (10 ∷ rest),
          line-long (count + 1) m (omega arith),
          more m e (omega arith),
          first-within (x ∷ s) b m e,
        )

lines_long : (k count : ℕ) (s : List ℕ) → length s ≤ k → Bytes s → count + length s ≤ 65536 → Fits count s
lines_long zero count s h b l = lines-long-step count s b l (λ m e some. absurd (omega arith))
lines_long (suc k) count s h b l =
    lines-long-step count s b l
    (λ m e some.
    let within = first-within s b m e in
    let bytes = some_bytes m in
    lines_long k (count + 1) (drop (length (message_bytes m)) s) (omega arith) (bytes_drop (length (message_bytes m)) s b) (omega arith))

-- The text of a listing fits into seven bytes for each byte of the longest input.
pub listing-long : (s : List ℕ) → Bytes s → length (listing s) ≤ 65536 * 7
unfolding listing
listing-long s b =
    pick-test (λ (w : List ℕ). length w ≤ 65536 * 7) (ltb 65536 (length s)) (λ t. omega (arith, refused-long 0 2 (omega arith) (omega arith)))
    (λ t. omega (arith, lines_long (length s) 0 s (omega arith) b (omega (arith, ltb-false 65536 (length s) t)), ltb-false 65536 (length s) t))
