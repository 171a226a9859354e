-- A message: its header, its body, and what is read of both. Definitions only.
use Rattle.std.specs.Prelude.{ℕ, ◌+◌, ◌*◌, Bool, true, false, List, [], ◌∷◌, length, take, drop, ltb, eqb}
use Rattle.zvt_rules.specs.declared.Layout.{Layout}
use Rattle.zvt_rules.specs.declared.Layout.TheVariants.{Plain, List as FieldList, Secured}
use Rattle.basics.specs.Choice.{pick}
use Rattle.basics.specs.Lists.{part, among}
use Rattle.zvt_rules.specs.Reading.{Reading, got, refused, fault_at, unplaced, unless, and_then}
use Rattle.zvt_rules.specs.Refusals.{ends_too_soon, too_long, left_over}
use Rattle.zvt_rules.specs.Limits.{most_body}
use Rattle.zvt_rules.specs.Fields.{Field, count_fields, unless_undecimal, list_of}

-- a message's length, and whether it was written as FF and two bytes
pub record BodyLength : Type 0 where
  pub long : Bool
  pub value : ℕ

-- M2: "After FF the next two bytes are the length, low byte first."
unfoldable pub long_length : List ℕ → Reading BodyLength
long_length [] = refused (unplaced ends_too_soon)
long_length (l ∷ []) = refused (unplaced ends_too_soon)
long_length (l ∷ (h ∷ s)) = got (record { long = true; value = h * 256 + l })

-- M2: "A length byte 00 to FE is itself the length."
unfoldable pub length_of : List ℕ → Reading BodyLength
length_of [] = refused (unplaced ends_too_soon)
length_of (b ∷ s) = pick (eqb b 0xFF) (long_length s) (got (record { long = false; value = b }))

-- a header as it was sent: its pair, how its length was written, and the length of its body
pub record Heading : Type 0 where
  pub class : ℕ
  pub instruction : ℕ
  pub long : Bool
  pub size : ℕ

-- where the body starts and ends
abbrev pub header_size : Bool → ℕ
header_size long = pick long 5 3

abbrev pub start : Heading → ℕ
start h = header_size h.long

abbrev pub end : Heading → ℕ
end h = start h + h.size

-- R39: "2, 1 for a body cut short"
unfoldable pub header_with : ℕ → ℕ → List ℕ → BodyLength → Reading Heading
header_with class instruction s l =
    unless (ltb most_body l.value) (unplaced too_long)
    (unless (ltb (length s) (header_size l.long + l.value)) (unplaced ends_too_soon)
    (got (record { class = class; instruction = instruction; long = l.long; size = l.value })))

-- R39: "A header: 1 for a missing byte of pair or length, 2, 1 for a body cut short"
unfoldable pub header_of : List ℕ → Reading Heading
header_of [] = refused (unplaced ends_too_soon)
header_of (c ∷ []) = refused (unplaced ends_too_soon)
header_of (c ∷ (i ∷ s)) = and_then (length_of s) λ l. header_with c i (c ∷ (i ∷ s)) l

-- M5: "The body of 06 01, 04 0F, 06 0F and 06 D3 is a field list." M6: "The body of 06 21, 06 30, 06 31 and 06 50 is a password of
-- three bytes, then a field list." M7: "The body of every other pair is plain"
unfoldable pub layout_of : ℕ → ℕ → Layout
layout_of class instruction =
    let pair = class * 256 + instruction in
    pick (among (0x0601 ∷ 0x040F ∷ 0x060F ∷ 0x06D3 ∷ []) pair) FieldList
    (pick (among (0x0621 ∷ 0x0630 ∷ 0x0631 ∷ 0x0650 ∷ []) pair) Secured Plain)

-- plain bytes; or the password, empty where the layout has none, and the fields
pub data Body : Type 0 where
  bytes : List ℕ → Body
  listed : List ℕ → List Field → Body

-- R41: "A password: 1 where three bytes are not there, then 6."
unfoldable pub secured_of : ℕ → List ℕ → Reading Body
secured_of at s =
    unless (ltb (length s) 3) (fault_at ends_too_soon (at + length s))
    (unless_undecimal at (take 3 s) (and_then (list_of [] 0 (at + 3) (drop 3 s)) λ l. got (listed (take 3 s) l.fields)))

unfoldable pub body_of : ℕ → List ℕ → Layout → Reading Body
body_of at s Plain = got (bytes s)
body_of at s FieldList = and_then (list_of [] 0 at s) λ l. got (listed [] l.fields)
body_of at s Secured = secured_of at s

pub record Message : Type 0 where
  pub class : ℕ
  pub instruction : ℕ
  pub long : Bool
  pub body : Body

unfoldable pub message_of : List ℕ → Heading → Reading Message
message_of s h =
    and_then (body_of (start h) (part (start h) (end h) s) (layout_of h.class h.instruction)) λ b.
    got (record { class = h.class; instruction = h.instruction; long = h.long; body = b })

-- the message that s begins with. R37: "header, body"
unfoldable pub first_of : List ℕ → Reading Message
first_of s = and_then (header_of s) λ h. message_of s h

-- R3: "bytes are left over behind the one message": a header behind whose body there are none
unfoldable pub whole_header : List ℕ → Reading Heading
whole_header s = and_then (header_of s) λ h. unless (ltb (end h) (length s)) (unplaced left_over) (got h)

-- M8: "Reading takes all the bytes as one message."
unfoldable pub read_of : List ℕ → Reading Message
read_of s = and_then (whole_header s) λ h. message_of s h

-- O10: "inner ones counted"
unfoldable pub count_body : Body → ℕ
count_body (bytes s) = 0
count_body (listed password fs) = count_fields fs

unfoldable pub count_of : Message → ℕ
count_of m = count_body m.body
