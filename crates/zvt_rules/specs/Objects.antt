-- Data objects: tag, length, value, and the runs of objects in a container and in an object. Definitions only. In every reading, at
-- is the place in the message of the first byte of s.
use Rattle.std.specs.Prelude.{ℕ, zero, suc, ◌+◌, ◌-◌, ◌*◌, ◌/◌, ◌%◌, Bool, List, [], ◌∷◌, length, get_or, take, drop, ltb, leb, eqb}
use Rattle.basics.specs.Choice.{pick}
use Rattle.basics.specs.Lists.{part}
use Rattle.zvt_rules.specs.Reading.{Reading, got, refused, fault_at, unless, and_then}
use Rattle.zvt_rules.specs.Refusals.{ends_too_soon, tag_too_long, no_length, never_given, too_many_objects, too_deep}
use Rattle.zvt_rules.specs.Limits.{most_objects}

-- O3: "A tag has two bytes where the low five bits of its first byte are ones, else one."
abbrev pub long_tag : ℕ → Bool
long_tag b = eqb (b % 32) 31

-- O4: "A second tag byte with its top bit set is refused (8)."
abbrev pub top_bit : ℕ → Bool
top_bit b = leb 128 b

-- O5: "Bit 20 (hex) of the first tag byte, and nothing else, makes the value a run of objects again"
abbrev pub nested : ℕ → Bool
nested b = eqb (b / 32 % 2) 1

-- R43: "tag 1, 8": how many bytes the tag takes
unfoldable pub second_tag : ℕ → List ℕ → Reading ℕ
second_tag at [] = refused (fault_at ends_too_soon at)
second_tag at (b ∷ s) = unless (top_bit b) (fault_at tag_too_long at) (got 2)

unfoldable pub tag_size : ℕ → List ℕ → Reading ℕ
tag_size at [] = refused (fault_at ends_too_soon at)
tag_size at (b ∷ s) = pick (long_tag b) (second_tag (at + 1) s) (got 1)

-- O6: "A length is one byte 00 to 7F; or 81 and one byte; or 82 and two bytes, high byte first."
pub data Form : Type 0 where
  bare one two : Form

unfoldable pub form_size : Form → ℕ
form_size bare = 1
form_size one = 2
form_size two = 3

-- how a length is written, and the length
pub record Len : Type 0 where
  pub form : Form
  pub value : ℕ

unfoldable pub one_byte_len : ℕ → List ℕ → Reading Len
one_byte_len at [] = refused (fault_at ends_too_soon at)
one_byte_len at (v ∷ s) = got (record { form = one; value = v })

unfoldable pub two_byte_len : ℕ → List ℕ → Reading Len
two_byte_len at [] = refused (fault_at ends_too_soon at)
two_byte_len at (h ∷ []) = refused (fault_at ends_too_soon (at + 1))
two_byte_len at (h ∷ (l ∷ s)) = got (record { form = two; value = h * 256 + l })

-- R43: "length 1 or 22". R40: "a length byte by byte". O8: "A first length byte 80 or 83 to FF is refused (22)." R47: "the wrong byte
-- itself"
unfoldable pub len_of : ℕ → List ℕ → Reading Len
len_of at [] = refused (fault_at ends_too_soon at)
len_of at (b ∷ s) =
    pick (ltb b 0x80) (got (record { form = bare; value = b }))
    (pick (eqb b 0x81) (one_byte_len (at + 1) s) (pick (eqb b 0x82) (two_byte_len (at + 1) s) (refused (fault_at no_length at))))

-- how many bytes the tag takes, how the length is written, and how many bytes the value takes
pub record Head : Type 0 where
  pub tag : ℕ
  pub form : Form
  pub value : ℕ

abbrev pub from : Head → ℕ
from h = h.tag + form_size h.form

abbrev pub to : Head → ℕ
to h = from h + h.value

-- R43: "value 1". O13: "Tag, length and value end within the nearest run or container around them." R44: "What runs past the nearest
-- run or container (O13) is 1, also where more bytes follow that.": s ends where that does. R48: "the first byte behind the nearest body,
-- container or run that ended too soon"
unfoldable pub head_with : ℕ → List ℕ → ℕ → Len → Reading Head
head_with at s tag l =
    unless (ltb (length s) (tag + form_size l.form + l.value)) (fault_at ends_too_soon (at + length s))
    (got (record { tag = tag; form = l.form; value = l.value }))

-- O2: "An object is a tag, a length and a value of that many bytes." R43: "tag 1, 8, length 1 or 22, value 1"
unfoldable pub head_of : ℕ → List ℕ → Reading Head
head_of at s = and_then (tag_size at s) λ tag. and_then (len_of (at + tag) (drop tag s)) λ l. head_with at s tag l

-- An object is the bytes of its tag, the form of its length, and plain bytes or a run of objects, "none or more" (O1).
mutual
  pub data Obj : Type 0 where
    leaf : List ℕ → Form → List ℕ → Obj
    branch : List ℕ → Form → Objs → Obj

  pub data Objs : Type 0 where
    none : Objs
    more : Obj → Objs → Objs

-- an object with the bytes that it takes and how many objects have begun by its end; a run with the latter
pub record OneRead : Type 0 where
  pub obj : Obj
  pub size : ℕ
  pub count : ℕ

pub record RunRead : Type 0 where
  pub objs : Objs
  pub count : ℕ

-- the object that s begins with, by its head: with plain bytes as its value, and with the run that was read inside it
abbrev pub leaf_of : ℕ → List ℕ → Head → OneRead
leaf_of n s h = record { obj = leaf (take h.tag s) h.form (part (from h) (to h) s); size = to h; count = n + 1 }

abbrev pub branch_of : List ℕ → Head → RunRead → OneRead
branch_of s h r = record { obj = branch (take h.tag s) h.form r.objs; size = to h; count = r.count }

-- A run and an object are read by two functions that call each other; left is how many levels there are yet, n how many objects have
-- begun. f is fuel, of which each call takes one. Where it is spent the answer is a refusal with 0, which no rule gives. It never is:
-- an object takes two bytes or more, so that one more than the bytes is enough (proofs/Numbers.antt, never-spent).
unfoldable mutual
  -- one object after the other, left to right (R40), whatever their tags (O12)
  pub run_by : ℕ → ℕ → ℕ → ℕ → List ℕ → Reading RunRead
  run_by zero left n at s = refused (fault_at never_given at)
  run_by (suc f) left n at [] = got (record { objs = none; count = n })
  run_by (suc f) left n at (b ∷ s) =
      and_then (one_by f left n at (b ∷ s)) λ o.
      and_then (run_by f left o.count (at + o.size) (drop o.size (b ∷ s))) λ r.
      got (record { objs = more o.obj r.objs; count = r.count })

  -- R43: "An object: 10, 9, tag 1, 8, length 1 or 22, value 1, then its inside." R47: "the first byte of the tag for 9 and 10". O5: "read
  -- as a part of the same bytes .. A value without that bit is never looked into."
  pub one_by : ℕ → ℕ → ℕ → ℕ → List ℕ → Reading OneRead
  one_by zero left n at s = refused (fault_at never_given at)
  one_by (suc f) left n at s =
      unless (leb most_objects n) (fault_at too_many_objects at)
      (unless (eqb left 0) (fault_at too_deep at)
      (and_then (head_of at s) λ h.
      pick (nested (get_or s 0 0))
      (and_then (run_by f (left - 1) (n + 1) (at + from h) (part (from h) (to h) s)) λ r. got (branch_of s h r))
      (got (leaf_of n s h))))

-- the objects of a run that is s
unfoldable pub run_of : ℕ → ℕ → ℕ → List ℕ → Reading RunRead
run_of left n at s = run_by (suc (length s)) left n at s

-- the object that s begins with
unfoldable pub one_of : ℕ → ℕ → ℕ → List ℕ → Reading OneRead
one_of left n at s = one_by (suc (length s)) left n at s

-- O10: "inner ones counted"
unfoldable mutual
  pub count_obj : Obj → ℕ
  count_obj (leaf tag form value) = 1
  count_obj (branch tag form os) = suc (count_objs os)

  pub count_objs : Objs → ℕ
  count_objs none = 0
  count_objs (more o os) = count_obj o + count_objs os
