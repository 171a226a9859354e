-- The shortest form of a message: well formed, the same values, never longer, and the same bytes exactly where every length was
-- shortest. Assumes nothing.
use mathlib.Core.Path.{◌≡◌, refl, sym, ap, ◌∙◌}
use mathlib.Core.Bool.{Bool, true, false, not, ◌||◌, and-eq-true_iff, not-or_self}
use mathlib.Core.Logic.{◌↔◌}
use mathlib.Core.List.{List, []}
use Prim.Native.Nat.{ℕ, ◌≤◌}
use native.Mathlib.Omega.{arith}
use lib.ListN.{length, length-append}
use lib.Dec.{leb}
use borrow.Author.Tests.{leb-false, lt-leb}
use Rattle.zvt_rules.specs.declared.Layout.{Layout}
use Rattle.zvt_rules.specs.declared.Layout.TheVariants.{Plain, List as FieldList, Secured}
use Rattle.zvt_rules.specs.Reading.{got}
use Rattle.zvt_rules.specs.Limits.{most_body}
use Rattle.zvt_rules.specs.Fields.{Field}
use Rattle.zvt_rules.specs.Message.{header_size, layout_of, Body, bytes, listed, Message, read_of, count_body, count_of}
use Rattle.zvt_rules.specs.believed.Writing.{list_bytes, body_bytes, message_bytes}
use Rattle.zvt_rules.specs.Shortest.{short_list, short_body, short_message, is_short_body, is_short, write, shorten}
use Rattle.zvt_rules.specs.believed.Shortest.{formless_body, SameValues}
use Rattle.basics.specs.believed.Lists.{Bytes}
use Rattle.zvt_rules.specs.believed.Grammar.{ListOk, FieldsOk, LayoutOk, LengthOk, MessageOk}
use Rattle.zvt_rules.proofs.Readings.{got_same, then-got, then-on}
use Rattle.basics.proofs.Tests.{by-test}
use Rattle.zvt_rules.proofs.FieldReading.{header-most}
use Rattle.zvt_rules.proofs.FieldShort.{list-shorter, list-short-ok, list_count, list_same, list-short, list-kept, list-strict}
use Rattle.zvt_rules.proofs.MessageBytes.{message-size, length_most, read-sound, read-complete}

-- ---- a body
fields-short-ok : (fs : List Field) → FieldsOk fs → FieldsOk (short_list fs)
unfolding FieldsOk
fields-short-ok fs ok = (list-short-ok fs [] ok.0, omega (arith, ok.1, list_count fs))

pub body-short-ok : (l : Layout) (b : Body) → LayoutOk l b → LayoutOk l (short_body b)
unfolding LayoutOk short_body
body-short-ok l (bytes s) ok = ok
body-short-ok Plain (listed password fs) ok = absurd ok
body-short-ok FieldList (listed password fs) ok = (ok.0, fields-short-ok fs ok.1)
body-short-ok Secured (listed password fs) ok = (ok.0, ok.1, fields-short-ok fs ok.2)

-- the fields of a body are a list
pub fields-ok : (l : Layout) (password : List ℕ) (fs : List Field) → LayoutOk l (listed password fs) → FieldsOk fs
unfolding LayoutOk
fields-ok Plain password fs ok = absurd ok
fields-ok FieldList password fs ok = ok.1
fields-ok Secured password fs ok = ok.2

fields : (l : Layout) (password : List ℕ) (fs : List Field) → LayoutOk l (listed password fs) → ListOk [] fs
unfolding FieldsOk
fields l password fs ok = (fields-ok l password fs ok).0

pub body-shorter : (l : Layout) (b : Body) → LayoutOk l b → length (body_bytes (short_body b)) ≤ length (body_bytes b)
unfolding body_bytes short_body
body-shorter l (bytes s) ok = omega arith
body-shorter l (listed password fs) ok =
    omega (arith, list-shorter fs [] (fields l password fs ok), length-append password (list_bytes fs), length-append password (list_bytes (short_list fs)))

body-count : (b : Body) → count_body (short_body b) ≡ count_body b
unfolding count_body short_body
body-count (bytes s) = refl
body-count (listed password fs) = list_count fs

body_same : (b : Body) → formless_body b ≡ formless_body (short_body b)
unfolding formless_body short_body
body_same (bytes s) = refl
body_same (listed password fs) = ap (listed password) (list_same fs)

body-short : (b : Body) → is_short_body (short_body b) ≡ true
unfolding is_short_body short_body
body-short (bytes s) = refl
body-short (listed password fs) = list-short fs

body_kept : (l : Layout) (b : Body) → LayoutOk l b → is_short_body b ≡ true → short_body b ≡ b
unfolding is_short_body short_body
body_kept l (bytes s) ok e = refl
body_kept l (listed password fs) ok e = ap (listed password) (list-kept fs [] (fields l password fs ok) e)

-- where no byte of a body is saved, every length in it was shortest, and only there
body-strict : (l : Layout) (b : Body) → LayoutOk l b → length (body_bytes (short_body b)) ≡ length (body_bytes b) → is_short_body b ≡ true
unfolding body_bytes short_body is_short_body
body-strict l (bytes s) ok e = refl
body-strict l (listed password fs) ok e =
    let a = length-append password (list_bytes fs) in
    let b = length-append password (list_bytes (short_list fs)) in
    list-strict fs [] (fields l password fs ok) (omega arith)

pub body-exactly : (l : Layout) (b : Body) → LayoutOk l b
    → (length (body_bytes (short_body b)) ≡ length (body_bytes b)) ↔ (is_short_body b ≡ true)
body-exactly l b ok = (body-strict l b ok, λ e. ap (λ (x : Body). length (body_bytes x)) (body_kept l b ok e))

-- ---- the shortest form of a body's length
shortest-ok : (v : ℕ) → v ≤ most_body → LengthOk (leb 255 v) v
unfolding LengthOk
shortest-ok v h = by-test (leb 255 v) (λ e. rw e h) (λ e. rw e (leb-false 255 v e))

pub header-shorter : (long : Bool) (v w : ℕ) → LengthOk long v → w ≤ v → header_size (leb 255 w) ≤ header_size long
unfolding LengthOk
header-shorter false v w ok h = rw (lt-leb 255 w (omega arith)) (omega arith)
header-shorter true v w ok h = header-most (leb 255 w)

long_kept : (long : Bool) (v : ℕ) → LengthOk long v → (not long || leb 255 v) ≡ true → leb 255 v ≡ long
unfolding LengthOk
long_kept false v ok e = lt-leb 255 v ok
long_kept true v ok e = e

-- ---- a message
pub short_ok : (m : Message) → MessageOk m → MessageOk (short_message m)
unfolding MessageOk short_message
short_ok m ok =
    let l = layout_of m.class m.instruction in
    let w = length (body_bytes (short_body m.body)) in
    let v = length_most m.long (length (body_bytes m.body)) ok.1 in
    (body-short-ok l m.body ok.0, shortest-ok w (omega (arith, body-shorter l m.body ok.0)))

pub same-values : (m : Message) → SameValues m (short_message m)
unfolding SameValues short_message
same-values m = (refl, refl, body_same m.body)

pub same_count : (m : Message) → count_of (short_message m) ≡ count_of m
unfolding count_of short_message
same_count m = body-count m.body

pub write-reads : (m : Message) → MessageOk m → read_of (write m) ≡ got (short_message m)
unfolding write
write-reads m ok = read-complete (short_message m) (short_ok m ok)

pub never-longer : (m : Message) → MessageOk m → length (write m) ≤ length (message_bytes m)
unfolding write MessageOk short_message
never-longer m ok =
    let v = length (body_bytes m.body) in
    let w = length (body_bytes (short_body m.body)) in
    let b = body-shorter (layout_of m.class m.instruction) m.body ok.0 in
    let h = header-shorter m.long v w ok.1 b in
    omega (arith, message-size m, message-size (short_message m))

-- what is shortest is so, and stays
pub short-short : (m : Message) → is_short (short_message m) ≡ true
unfolding is_short short_message
short-short m = (and-eq-true_iff _ _).1 (not-or_self (leb 255 (length (body_bytes (short_body m.body)))), body-short m.body)

pub short-kept : (m : Message) → MessageOk m → is_short m ≡ true → short_message m ≡ m
unfolding MessageOk is_short short_message
short-kept m ok e =
    let v = length (body_bytes m.body) in
    let k = (and-eq-true_iff (not m.long || leb 255 v) (is_short_body m.body)).0 e in
    rw (body_kept (layout_of m.class m.instruction) m.body ok.0 k.1, long_kept m.long v ok.1 k.0)

pub short-twice : (m : Message) → MessageOk m → write (short_message m) ≡ write m
unfolding write
short-twice m ok = ap message_bytes (short-kept (short_message m) (short_ok m ok) (short-short m))

-- the bytes stay exactly where every length was shortest
pub short-exactly : (m : Message) → MessageOk m → (write m ≡ message_bytes m) ↔ (is_short m ≡ true)
unfolding write
short-exactly m ok = (
  λ e. rw (← (got_same (sym (write-reads m ok) ∙ ap read_of e ∙ read-complete m ok))) (short-short m),
  λ e. ap message_bytes (short-kept m ok e),
)

-- ---- the same of bytes
pub shorten-read : (s : List ℕ) (m : Message) → read_of s ≡ got m → shorten s ≡ got (write m)
unfolding shorten
shorten-read s m e = then-on _ m e

pub shorten-twice : (s w : List ℕ) → Bytes s → shorten s ≡ got w → shorten w ≡ got w
unfolding shorten
shorten-twice s w b e =
    let k = then-got (read_of s) _ w e in
    let ok = (read-sound s k.0 b k.1).1 in
    rw (← (got_same k.2)) (shorten-read (write k.0) (short_message k.0) (write-reads k.0 ok) ∙ ap got (short-twice k.0 ok))

pub shorten-exactly : (s : List ℕ) (m : Message) → Bytes s → read_of s ≡ got m → (shorten s ≡ got s) ↔ (is_short m ≡ true)
shorten-exactly s m b e =
    let k = read-sound s m b e in
    let x = short-exactly m k.1 in (
      λ f. x.0 (got_same (sym (shorten-read s m e) ∙ f) ∙ sym k.0),
      λ f. shorten-read s m e ∙ ap got (x.1 f ∙ k.0),
    )
