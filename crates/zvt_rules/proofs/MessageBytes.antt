-- What a message is read from: the bytes that are read are those that are written, and no others. Assumes nothing.
use mathlib.Core.Path.{◌≡◌, refl, sym, ap, ◌∙◌, subst}
use mathlib.Core.Bool.{Bool, true, false}
use mathlib.Core.Logic.{◌↔◌}
use mathlib.Core.List.{List, [], ◌∷◌, ◌++◌, append-nil}
use Prim.Native.Nat.{ℕ, suc, ◌+◌, ◌-◌, ◌*◌, ◌/◌, ◌%◌, ◌<◌, ◌≤◌}
use native.Mathlib.Omega.{arith}
use lib.ListN.{length, take, drop, replicate, length-append, take-append-drop}
use lib.Seq.{length-take-le, take_all, take-add, take-append_seam, take_at, drop_at}
use lib.Dec.{ltb, eqb}
use borrow.Author.Tests.{eqb-true, eqb-false, ltb-false, le-ltb, ne_eqb}
use Rattle.zvt_rules.specs.declared.Layout.{Layout}
use Rattle.zvt_rules.specs.declared.Layout.TheVariants.{Plain, List as FieldList, Secured}
use Rattle.basics.specs.Lists.{part}
use Rattle.zvt_rules.specs.Reading.{Reading, got}
use Rattle.zvt_rules.specs.Limits.{most_body, most_message, most_objects}
use Rattle.zvt_rules.specs.Fields.{Field, count_fields, ListRead, list_of}
use Rattle.zvt_rules.specs.Message.{BodyLength, long_length, length_of, Heading, header_size, start, end, header_with, header_of, layout_of, Body, bytes, listed, secured_of, body_of, Message, message_of, first_of, whole_header, read_of, count_body, count_of}
use Rattle.zvt_rules.specs.believed.Writing.{list_bytes, body_bytes, length_bytes, message_bytes}
use Rattle.basics.specs.believed.Lists.{Bytes}
use Rattle.zvt_rules.specs.believed.Grammar.{FieldsOk, LayoutOk, LengthOk, MessageOk}
use Rattle.basics.proofs.Tests.{pick-test, never}
use Rattle.zvt_rules.proofs.Readings.{got_same, got-not-refused, unless-got, unless-on, then-got, then-on}
use Rattle.zvt_rules.proofs.ObjectReading.{part_length}
use Rattle.zvt_rules.proofs.ObjectBytes.{bytes_drop, bytes-part}
use Rattle.zvt_rules.proofs.FieldReading.{undecimal-got, header-most, with_in, header-in}
use Rattle.zvt_rules.proofs.FieldBytes.{decimals-read, list-sound, list-complete}

-- ---- the length of a body
abbrev pub Written : List ℕ → BodyLength → Type 0
Written s l = (length_bytes l.long l.value ≡ take (header_size l.long - 2) s) × (l.long ≡ false → l.value < 255)

long-sound : (s : List ℕ) (l : BodyLength) → Bytes s → long_length s ≡ got l → Written (0xFF ∷ s) l
unfolding long_length length_bytes Bytes
long-sound [] l b e = absurd (got-not-refused (sym e))
long-sound (x ∷ []) l b e = absurd (got-not-refused (sym e))
long-sound (x ∷ (y ∷ s)) l b e =
    let i : x < 256 = b 0 in
    let low : (y * 256 + x) % 256 ≡ x = omega arith in
    let high : (y * 256 + x) / 256 ≡ y = omega arith in
    subst (Written (0xFF ∷ (x ∷ (y ∷ s)))) (got_same e) (cc, λ f. never cc)

pub length-sound : (s : List ℕ) (l : BodyLength) → Bytes s → length_of s ≡ got l → Written s l
unfolding length_of length_bytes Bytes
length-sound [] l b e = absurd (got-not-refused (sym e))
length-sound (x ∷ s) l b e =
    let P : Reading BodyLength → Type 0 = λ y. y ≡ got l → Written (x ∷ s) l in
    pick-test P (eqb x 0xFF) (λ t f. rw (eqb-true x 0xFF t) (long-sound s l (λ i. b (suc i)) f))
    (λ t f. subst (Written (x ∷ s)) (got_same f) (refl, λ g. omega (arith, b 0, eqb-false x 0xFF t))) e

-- ---- a header
-- the bytes of a message with that header, whose body is there
header-parts : (long : Bool) (c i : ℕ) (t : List ℕ) (v : ℕ)
    → take (header_size long + v) (c ∷ (i ∷ t))
    ≡ c ∷ (i ∷ (take (header_size long - 2) t ++ part (header_size long) (header_size long + v) (c ∷ (i ∷ t))))
header-parts false c i t v =
    let e : 3 + v ≡ suc (suc (1 + v)) = omega arith in
    let k : suc (suc (1 + v)) - 3 ≡ v = omega arith in
    rw (e, k) (ap (λ (x : List ℕ). c ∷ (i ∷ x)) (take-add 1 v t))
header-parts true c i t v =
    let e : 5 + v ≡ suc (suc (3 + v)) = omega arith in
    let k : suc (suc (3 + v)) - 5 ≡ v = omega arith in
    rw (e, k) (ap (λ (x : List ℕ). c ∷ (i ∷ x)) (take-add 3 v t))

pub length-ok : (long : Bool) (v : ℕ) → (long ≡ false → v < 255) → v ≤ most_body → LengthOk long v
unfolding LengthOk
length-ok false v h l = h refl
length-ok true v h l = l

pub header-sound : (s : List ℕ) (h : Heading) → Bytes s → header_of s ≡ got h
    → (h.class ∷ (h.instruction ∷ (length_bytes h.long h.size ++ part (start h) (end h) s)) ≡ take (end h) s) × LengthOk h.long h.size
unfolding header_of
header-sound [] h b e = absurd (got-not-refused (sym e))
header-sound (c ∷ []) h b e = absurd (got-not-refused (sym e))
header-sound (c ∷ (i ∷ t)) h b e =
    let k = then-got (length_of t) _ h e in
    let w = with_in c i (c ∷ (i ∷ t)) k.0 h k.2 in
    let l = length-sound t k.0 (bytes_drop 2 (c ∷ (i ∷ t)) b) k.1 in
    rw w.2 (rw l.0 (sym (header-parts k.0.long c i t k.0.value)), length-ok k.0.long k.0.value l.1 w.0)

abbrev pub header_for : Message → Heading
header_for m = record { class = m.class; instruction = m.instruction; long = m.long; size = length (body_bytes m.body) }

with-on : (c i : ℕ) (s : List ℕ) (l : BodyLength) → l.value ≤ most_body → header_size l.long + l.value ≤ length s
    → header_with c i s l ≡ got (record { class = c; instruction = i; long = l.long; size = l.value })
unfolding header_with
with-on c i s l h w = unless-on _ _ (le-ltb most_body l.value h) ∙ unless-on _ _ (le-ltb (length s) (header_size l.long + l.value) w)

pub header-complete : (c i : ℕ) (long : Bool) (w rest : List ℕ) → LengthOk long (length w)
    → header_of (c ∷ (i ∷ ((length_bytes long (length w) ++ w) ++ rest)))
    ≡ got (record { class = c; instruction = i; long = long; size = length w })
unfolding header_of length_of long_length length_bytes LengthOk
header-complete c i false w rest ok =
    let l : BodyLength = record { long = false; value = length w } in
    let read : length_of (length w ∷ (w ++ rest)) ≡ got l = rw (ne_eqb (length w) 0xFF (λ e. omega arith)) in
    then-on _ l read ∙ with-on c i (c ∷ (i ∷ (length w ∷ (w ++ rest)))) l (omega arith) (omega (arith, length-append w rest))
header-complete c i true w rest ok =
    let whole : length w / 256 * 256 + length w % 256 ≡ length w = omega arith in
    let l : BodyLength = record { long = true; value = length w } in
    let read : length_of (0xFF ∷ (length w % 256 ∷ (length w / 256 ∷ (w ++ rest)))) ≡ got l = rw whole in
    then-on _ l read ∙ with-on c i _ l ok (omega (arith, length-append w rest))

-- the body stands behind the header
pub behind : (long : Bool) (c i : ℕ) (v : ℕ) (w rest : List ℕ)
    → part (header_size long) (header_size long + length w) (c ∷ (i ∷ ((length_bytes long v ++ w) ++ rest))) ≡ w
unfolding length_bytes
behind false c i v w rest = let k : 3 + length w - 3 ≡ length w = omega arith in rw k (take-append_seam w rest)
behind true c i v w rest = let k : 5 + length w - 5 ≡ length w = omega arith in rw k (take-append_seam w rest)

-- ---- a body
fields-sound : (at : ℕ) (s : List ℕ) (r : ListRead) → Bytes s → list_of [] 0 at s ≡ got r
    → (list_bytes r.fields ≡ s) × FieldsOk r.fields
unfolding FieldsOk
fields-sound at s r b e =
    let g = list-sound [] 0 at s r b e in
    (g.0, (g.1, omega (arith, g.2, g.3 (omega arith))))

pub body-sound : (at : ℕ) (s : List ℕ) (l : Layout) (b : Body) → Bytes s → body_of at s l ≡ got b → (body_bytes b ≡ s) × LayoutOk l b
unfolding body_of secured_of body_bytes LayoutOk
body-sound at s Plain b h e = rw (← (got_same e)) (refl, tt)
body-sound at s FieldList b h e =
    let k = then-got (list_of [] 0 at s) _ b e in
    let g = fields-sound at s k.0 h k.1 in
    rw (← (got_same k.2)) (g.0, (refl, g.1))
body-sound at s Secured b h e =
    let k = unless-got (ltb (length s) 3) _ _ b e in
    let d = undecimal-got at (take 3 s) _ b k.1 in
    let r = then-got (list_of [] 0 (at + 3) (drop 3 s)) _ b d.1 in
    let g = fields-sound (at + 3) (drop 3 s) r.0 (bytes_drop 3 s h) r.1 in
    rw (← (got_same r.2)) (rw g.0 (take-append-drop 3 s), (length-take-le 3 s (ltb-false (length s) 3 k.0), d.0, g.1))

fields-complete : (at : ℕ) (fs : List Field) → FieldsOk fs
    → list_of [] 0 at (list_bytes fs) ≡ got (record { fields = fs; count = 0 + count_fields fs })
unfolding FieldsOk
fields-complete at fs ok = list-complete fs [] 0 at ok.0 (omega (arith, ok.1))

pub body-complete : (at : ℕ) (l : Layout) (b : Body) → LayoutOk l b → body_of at (body_bytes b) l ≡ got b
unfolding body_of secured_of body_bytes LayoutOk
body-complete at Plain (bytes s) ok = refl
body-complete at Plain (listed password fs) ok = absurd ok
body-complete at FieldList (bytes s) ok = absurd ok
body-complete at FieldList (listed password fs) ok = rw ok.0 (then-on _ _ (fields-complete at fs ok.1))
body-complete at Secured (bytes s) ok = absurd ok
body-complete at Secured (listed password fs) ok =
    let w = list_bytes fs in
    let s = password ++ w in
    unless-on _ _ (le-ltb (length s) 3 (omega (arith, ok.0, length-append password w)))
    ∙ rw (take_at password w 3 ok.0, drop_at password w 3 ok.0)
    (decimals-read at password _ ok.1 ∙ then-on _ _ (fields-complete (at + 3) fs ok.2))

-- ---- a message
message-sound : (s : List ℕ) (h : Heading) (m : Message) → Bytes s → header_of s ≡ got h → message_of s h ≡ got m
    → (message_bytes m ≡ take (end h) s) × MessageOk m
unfolding message_of message_bytes MessageOk
message-sound s h m b e g =
    let w = part (start h) (end h) s in
    let k = then-got (body_of (start h) w (layout_of h.class h.instruction)) _ m g in
    let p = body-sound (start h) w (layout_of h.class h.instruction) k.0 (bytes-part (start h) (end h) s b) k.1 in
    let q = header-sound s h b e in
    let size : length w ≡ h.size = omega (arith, part_length s (start h) (end h) (omega arith) (header-in s h e).1) in
    rw (← (got_same k.2)) (rw (p.0, size) q.0, (p.1, rw (p.0, size) q.1))

module _ (m : Message) (rest : List ℕ) (ok : MessageOk m) where
  header-back : header_of (message_bytes m ++ rest) ≡ got (header_for m)
  unfolding message_bytes MessageOk
  header-back = header-complete m.class m.instruction m.long (body_bytes m.body) rest ok.1

  message-back : message_of (message_bytes m ++ rest) (header_for m) ≡ got m
  unfolding message_of message_bytes MessageOk
  message-back =
      let w = body_bytes m.body in
      let body = body-complete (start (header_for m)) (layout_of m.class m.instruction) m.body ok.0 in
      rw (behind m.long m.class m.instruction (length w) w rest) (then-on _ m.body body)

-- the message that s begins with
pub first-sound : (s : List ℕ) (m : Message) → Bytes s → first_of s ≡ got m
    → (message_bytes m ≡ take (length (message_bytes m)) s) × MessageOk m
unfolding first_of
first-sound s m b e =
    let k = then-got (header_of s) _ m e in
    let g = message-sound s k.0 m b k.1 k.2 in
    let size : length (message_bytes m) ≡ end k.0 = ap length g.0 ∙ length-take-le (end k.0) s (header-in s k.0 k.1).1 in
    (rw size g.0, g.1)

pub first-complete : (m : Message) (rest : List ℕ) → MessageOk m → first_of (message_bytes m ++ rest) ≡ got m
unfolding first_of
first-complete m rest ok = then-on _ (header_for m) (header-back m rest ok) ∙ message-back m rest ok

-- a message is read from bytes that begin with its own, and from no others
pub first-exactly : (s : List ℕ) (m : Message) → Bytes s
    → (first_of s ≡ got m) ↔ ((rest : List ℕ) × ((message_bytes m ++ rest ≡ s) × MessageOk m))
first-exactly s m b = (
  λ e.
      let k = first-sound s m b e in
      let n = length (message_bytes m) in
      (drop n s, (ap (λ (x : List ℕ). x ++ drop n s) k.0 ∙ take-append-drop n s, k.1)),
  λ k. rw (← k.1.0) (first-complete m k.0 k.1.1),
)

-- the message that s is
pub read-sound : (s : List ℕ) (m : Message) → Bytes s → read_of s ≡ got m → (message_bytes m ≡ s) × MessageOk m
unfolding read_of whole_header
read-sound s m b e =
    let k = then-got (whole_header s) _ m e in
    let h = then-got (header_of s) _ k.0 k.1 in
    let w = unless-got (ltb (end h.0) (length s)) _ _ k.0 h.2 in
    let g = message-sound s k.0 m b (h.1 ∙ w.1) k.2 in
    (g.0 ∙ rw (← (got_same w.1)) (take_all (end h.0) s (ltb-false (end h.0) (length s) w.0)), g.1)

pub length_bytes-size : (long : Bool) (v : ℕ) → 2 + length (length_bytes long v) ≡ header_size long
unfolding length_bytes
length_bytes-size false v = refl
length_bytes-size true v = refl

pub message-size : (m : Message) → length (message_bytes m) ≡ header_size m.long + length (body_bytes m.body)
unfolding message_bytes
message-size m =
    let w = body_bytes m.body in
    omega (arith, length-append (length_bytes m.long (length w)) w, length_bytes-size m.long (length w))

pub length_most : (long : Bool) (v : ℕ) → LengthOk long v → v ≤ most_body
unfolding LengthOk
length_most false v ok = omega arith
length_most true v ok = ok

-- no message has more bytes than the longest header and the longest body (M3), and one has as many
pub message-limit : (m : Message) → MessageOk m → length (message_bytes m) ≤ most_message
unfolding MessageOk
message-limit m ok = omega (arith, message-size m, header-most m.long, length_most m.long (length (body_bytes m.body)) ok.1)

pub longest : length (message_bytes (record { class = 0x06; instruction = 0xD1; long = true; body = bytes (replicate 4_096 0x41) })) ≡ most_message
unfolding message_bytes body_bytes length_bytes
longest = refl

pub read-complete : (m : Message) → MessageOk m → read_of (message_bytes m) ≡ got m
unfolding read_of whole_header
read-complete m ok =
    let s = message_bytes m in
    let h = header_for m in
    let back : header_of s ≡ got h = rw append-nil at (header-back m [] ok) in
    let whole : whole_header s ≡ got h = then-on _ h back ∙ unless-on _ _ (le-ltb (end h) (length s) (omega (arith, message-size m))) in
    then-on _ h whole ∙ (rw append-nil at (message-back m [] ok))

-- a message is read from its own bytes and from no others
pub read-exactly : (s : List ℕ) (m : Message) → Bytes s → (read_of s ≡ got m) ↔ ((message_bytes m ≡ s) × MessageOk m)
read-exactly s m b = (read-sound s m b, λ k. rw (← k.0) (read-complete m k.1))

-- O10: "A message has at most 64 objects, inner ones counted"
few : (l : Layout) (b : Body) → LayoutOk l b → count_body b ≤ most_objects
unfolding LayoutOk FieldsOk count_body
few l (bytes s) ok = omega arith
few Plain (listed password fs) ok = absurd ok
few FieldList (listed password fs) ok = omega (arith, ok.1.1)
few Secured (listed password fs) ok = omega (arith, ok.2.1)

pub count-limit : (m : Message) → MessageOk m → count_of m ≤ most_objects
unfolding count_of MessageOk
count-limit m ok = few (layout_of m.class m.instruction) m.body ok.0
