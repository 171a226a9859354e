-- Fields: the format of each id, a field, a list of fields. Definitions only. In every reading, at is the place in the message of
-- the first byte of s.
use Rattle.std.specs.Prelude.{ℕ, zero, suc, ◌+◌, ◌-◌, ◌*◌, ◌/◌, ◌%◌, Bool, true, false, not, ◌&&◌, ◌||◌, List, [], ◌∷◌, length, get_or, drop, ltb, leb}
use Rattle.zvt_rules.specs.declared.Format.{Format}
use Rattle.zvt_rules.specs.declared.Format.TheVariants.{Unknown, Fixed, Digits, Container}
use Rattle.basics.specs.Choice.{pick}
use Rattle.basics.specs.Lists.{part, among}
use Rattle.zvt_rules.specs.Reading.{Reading, got, refused, fault_at, unless, and_then}
use Rattle.zvt_rules.specs.Refusals.{ends_too_soon, no_length_digit, not_decimal, unknown_field, field_twice, never_given}
use Rattle.zvt_rules.specs.Limits.{deepest}
use Rattle.zvt_rules.specs.Objects.{Form, form_size, len_of, Objs, count_objs, run_of}

abbrev from_to : ℕ → ℕ → ℕ → Bool
from_to a e id = leb a id && leb id e

-- F2: "The id alone decides the format. 76 ids are known, every other is unknown". Where PA00P015 13.11 lays a field out (chapters
-- 13 and 3.1.1), this is its format.
unfoldable pub format_of : ℕ → Format
format_of id =
    pick (among (0x01 ∷ 0x02 ∷ 0x03 ∷ 0x05 ∷ 0x19 ∷ 0x27 ∷ 0x8A ∷ 0x8C ∷ 0xA0 ∷ 0xD0 ∷ 0xD2 ∷ 0xD3 ∷ 0xE0 ∷ 0xE9 ∷ 0xEA ∷ 0xF0 ∷ 0xF9 ∷ 0xFB ∷ 0xFC ∷ []) id) (Fixed 1)
    (pick (among (0x72 ∷ 0x73 ∷ 0x74 ∷ 0x75 ∷ 0xFA ∷ 0xFD ∷ []) id) (Fixed 1)
    (pick (among (0x0D ∷ 0x0E ∷ 0x17 ∷ 0x3A ∷ 0x49 ∷ 0x87 ∷ []) id) (Fixed 2)
    (pick (among (0x0B ∷ 0x0C ∷ 0x37 ∷ 0x3D ∷ 0x88 ∷ 0xAA ∷ []) id) (Fixed 3)
    (pick (among (0x29 ∷ 0x70 ∷ 0x71 ∷ []) id) (Fixed 4)
    (pick (among (0xBA ∷ []) id) (Fixed 5)
    (pick (among (0x04 ∷ []) id) (Fixed 6)
    (pick (among (0x3B ∷ 0xEB ∷ []) id) (Fixed 8)
    (pick (among (0x2A ∷ []) id) (Fixed 15)
    (pick (among (0x22 ∷ 0x23 ∷ 0x2D ∷ 0x4C ∷ 0x8B ∷ 0xA7 ∷ 0xD1 ∷ []) id || from_to 0xE1 0xE8 id || from_to 0xF1 0xF8 id) (Digits 2)
    (pick (among (0x24 ∷ 0x2E ∷ 0x3C ∷ 0x60 ∷ 0x92 ∷ 0x9A ∷ 0xAF ∷ []) id) (Digits 3)
    (pick (among (0x06 ∷ []) id) Container
    Unknown)))))))))))

unfoldable pub unknown : Format → Bool
unknown Unknown = true
unknown (Fixed k) = false
unknown (Digits d) = false
unknown Container = false

-- F3: "A length digit is one of the bytes F0 to F9; F1 F6 says 16, and the length may be 0."
abbrev pub length_digit : ℕ → Bool
length_digit b = leb 0xF0 b && leb b 0xF9

-- R42: "length 1 or 4". R47: "the wrong byte itself for 4": d digits more behind those that gave v
unfoldable pub digits_of : ℕ → ℕ → ℕ → List ℕ → Reading ℕ
digits_of zero v at s = got v
digits_of (suc d) v at [] = refused (fault_at ends_too_soon at)
digits_of (suc d) v at (b ∷ s) = unless (not (length_digit b)) (fault_at no_length_digit at) (digits_of d (v * 10 + (b - 0xF0)) (at + 1) s)

-- F5: "a decimal digit in each half of each byte"
abbrev pub decimal : ℕ → Bool
decimal b = leb (b / 16) 9 && leb (b % 16) 9

-- R6 at the first byte that is not, else as what follows says
unfoldable pub unless_undecimal : {A : Type 0} → ℕ → List ℕ → Reading A → Reading A
unless_undecimal at [] x = x
unless_undecimal at (b ∷ s) x = unless (not (decimal b)) (fault_at not_decimal at) (unless_undecimal (at + 1) s x)

-- F5: "Fields 04, 0B, 37, 49, 87 and 88 .. The values of all other fields but 06 are just bytes."
abbrev pub holds_digits : ℕ → Bool
holds_digits id = among (0x04 ∷ 0x0B ∷ 0x37 ∷ 0x49 ∷ 0x87 ∷ 0x88 ∷ []) id

unfoldable pub digits_in : {A : Type 0} → ℕ → ℕ → List ℕ → Reading A → Reading A
digits_in id at value x = pick (holds_digits id) (unless_undecimal at value x) x

-- F1: "A field is an id byte and a value." Of field 06, the container, these are the form of its length and its run.
pub data Field : Type 0 where
  plain : ℕ → List ℕ → Field
  container : Form → Objs → Field

unfoldable pub field_id : Field → ℕ
field_id (plain id value) = id
field_id (container form os) = 0x06

unfoldable pub count_field : Field → ℕ
count_field (plain id value) = 0
count_field (container form os) = count_objs os

unfoldable pub count_fields : List Field → ℕ
count_fields [] = 0
count_fields (f ∷ fs) = count_field f + count_fields fs

-- a field with the bytes that it takes and how many objects have begun by its end; a list with the latter
pub record FieldRead : Type 0 where
  pub field : Field
  pub size : ℕ
  pub count : ℕ

pub record ListRead : Type 0 where
  pub fields : List Field
  pub count : ℕ

-- R42: "value 1": v bytes, which begin at element a of s and end within s
unfoldable pub value_of : ℕ → ℕ → ℕ → List ℕ → Reading (List ℕ)
value_of at a v s = unless (ltb (length s) (a + v)) (fault_at ends_too_soon (at + length s)) (got (part a (a + v) s))

-- R42: "value 1, digits 6"
unfoldable pub plain_of : ℕ → ℕ → ℕ → ℕ → ℕ → List ℕ → Reading FieldRead
plain_of id n at a v s =
    and_then (value_of at a v s) λ value.
    digits_in id (at + a) value (got (record { field = plain id value; size = a + v; count = n }))

-- O1: "A container is a length and a run of objects, none or more, that fills that many bytes." O9: "Objects of the container
-- itself are at depth 1 .. down to depth 4."
unfoldable pub container_of : ℕ → ℕ → List ℕ → Reading FieldRead
container_of n at s =
    and_then (len_of (at + 1) (drop 1 s)) λ l.
    and_then (value_of at (1 + form_size l.form) l.value s) λ value.
    and_then (run_of deepest n (at + (1 + form_size l.form)) value) λ r.
    got (record { field = container l.form r.objs; size = 1 + form_size l.form + l.value; count = r.count })

-- R42: "length 1 or 4 (of a container 1 or 22), value 1, digits 6, then the inside of a container"
unfoldable pub field_by : ℕ → ℕ → ℕ → List ℕ → Format → Reading FieldRead
field_by id n at s Unknown = refused (fault_at unknown_field at)
field_by id n at s (Fixed k) = plain_of id n at 1 k s
field_by id n at s (Digits d) = and_then (digits_of d 0 (at + 1) (drop 1 s)) λ v. plain_of id n at (1 + d) v s
field_by id n at s Container = container_of n at s

-- R42: "A field: 5, 7". R47: "the id of the field for 5 and 7". F4: "No id stands twice in a list."; seen are the ids of the fields before it
unfoldable pub field_of : List ℕ → ℕ → ℕ → List ℕ → Reading FieldRead
field_of seen n at s =
    let id = get_or s 0 0 in
    unless (unknown (format_of id)) (fault_at unknown_field at) (unless (among seen id) (fault_at field_twice at) (field_by id n at s (format_of id)))

-- F1: "A list is any number of fields, also none." R40: "from left to right". f is fuel, as in the reading of objects: it is never
-- spent, since a field takes a byte or more (proofs/Numbers.antt, never-spent)
unfoldable pub list_by : ℕ → List ℕ → ℕ → ℕ → List ℕ → Reading ListRead
list_by zero seen n at s = refused (fault_at never_given at)
list_by (suc f) seen n at [] = got (record { fields = []; count = n })
list_by (suc f) seen n at (id ∷ s) =
    and_then (field_of seen n at (id ∷ s)) λ o.
    and_then (list_by f (id ∷ seen) o.count (at + o.size) (drop o.size (id ∷ s))) λ r.
    got (record { fields = o.field ∷ r.fields; count = r.count })

-- the fields of a list that is s
unfoldable pub list_of : List ℕ → ℕ → ℕ → List ℕ → Reading ListRead
list_of seen n at s = list_by (suc (length s)) seen n at s
