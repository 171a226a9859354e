-- Which messages there are: the limits of the rules, with nothing of the order in which bytes are read. The laws say that the bytes
-- s are accepted as m exactly when they are the bytes of m and m is one of these. Definitions only.
use Rattle.std.specs.Prelude.{◌≡◌, ℕ, ◌-◌, ◌^◌, ◌<◌, ◌≤◌, Bool, true, false, List, [], ◌∷◌, length}
use Rattle.zvt_rules.specs.declared.Format.{Format}
use Rattle.zvt_rules.specs.declared.Format.TheVariants.{Unknown, Fixed, Digits, Container}
use Rattle.zvt_rules.specs.declared.Layout.{Layout}
use Rattle.zvt_rules.specs.declared.Layout.TheVariants.{Plain, List as FieldList, Secured}
use Rattle.basics.specs.Lists.{among}
use Rattle.zvt_rules.specs.Objects.{long_tag, top_bit, nested, Form, bare, one, two, Obj, leaf, branch, Objs, none, more}
use Rattle.zvt_rules.specs.Fields.{format_of, decimal, holds_digits, Field, plain, container, field_id, count_fields}
use Rattle.zvt_rules.specs.Message.{layout_of, Body, bytes, listed, Message}
use Rattle.zvt_rules.specs.believed.Writing.{run_bytes, body_bytes}

-- O3: "A tag has two bytes where the low five bits of its first byte are ones, else one." O4: "A second tag byte with its top bit
-- set is refused". O5: "Bit 20 (hex) of the first tag byte, and nothing else, makes the value a run of objects again"
unfoldable pub TagOk : List ℕ → Bool → Type 0
TagOk [] run = ⊥
TagOk (b ∷ []) run = (long_tag b ≡ false) × (nested b ≡ run)
TagOk (b ∷ (c ∷ [])) run = (long_tag b ≡ true) × (top_bit c ≡ false) × (nested b ≡ run)
TagOk (b ∷ (c ∷ (d ∷ s))) run = ⊥

-- O6: "A length is one byte 00 to 7F; or 81 and one byte; or 82 and two bytes"
unfoldable pub FormOk : Form → ℕ → Type 0
FormOk bare v = v < 128
FormOk one v = v < 256
FormOk two v = v < 65536

-- O9: an object where there are so many levels left
unfoldable mutual
  pub ObjOk : Obj → ℕ → Type 0
  ObjOk (leaf tag form value) left = TagOk tag false × FormOk form (length value) × (0 < left)
  ObjOk (branch tag form os) left = TagOk tag true × FormOk form (length (run_bytes os)) × (0 < left) × RunOk os (left - 1)

  pub RunOk : Objs → ℕ → Type 0
  RunOk none left = Unit {0}
  RunOk (more o os) left = ObjOk o left × RunOk os left

-- F5: "a decimal digit in each half of each byte"
unfoldable pub Decimals : List ℕ → Type 0
Decimals [] = Unit {0}
Decimals (b ∷ s) = (decimal b ≡ true) × Decimals s

-- F2: a value of v bytes in a field of that format; field 06 has no plain value
unfoldable pub SizeOk : Format → ℕ → Type 0
SizeOk Unknown v = ⊥
SizeOk (Fixed k) v = v ≡ k
SizeOk (Digits d) v = v < 10 ^ d
SizeOk Container v = ⊥

-- a value of the right size, digits where digits must be (F5). O9: "down to depth 4"
unfoldable pub FieldOk : Field → Type 0
FieldOk (plain id value) = SizeOk (format_of id) (length value) × (holds_digits id ≡ true → Decimals value)
FieldOk (container form os) = FormOk form (length (run_bytes os)) × RunOk os 4

-- F4: "No id stands twice in a list."; seen are the ids of the fields before
unfoldable pub ListOk : List ℕ → List Field → Type 0
ListOk seen [] = Unit {0}
ListOk seen (f ∷ fs) = FieldOk f × (among seen (field_id f) ≡ false) × ListOk (field_id f ∷ seen) fs

-- O10: "A message has at most 64 objects, inner ones counted"
unfoldable pub FieldsOk : List Field → Type 0
FieldsOk fs = ListOk [] fs × (count_fields fs ≤ 64)

-- M5: "a field list". M6: "a password of three bytes, then a field list", the password of decimal digits (F5). M7: "plain"
unfoldable pub LayoutOk : Layout → Body → Type 0
LayoutOk Plain (bytes s) = Unit {0}
LayoutOk Plain (listed password fs) = ⊥
LayoutOk FieldList (bytes s) = ⊥
LayoutOk FieldList (listed password fs) = (password ≡ []) × FieldsOk fs
LayoutOk Secured (bytes s) = ⊥
LayoutOk Secured (listed password fs) = (length password ≡ 3) × Decimals password × FieldsOk fs

-- M2: "A length byte 00 to FE is itself the length." M3: "A body has at most 4,096 bytes."
unfoldable pub LengthOk : Bool → ℕ → Type 0
LengthOk false v = v < 255
LengthOk true v = v ≤ 4_096

unfoldable pub MessageOk : Message → Type 0
MessageOk m = LayoutOk (layout_of m.class m.instruction) m.body × LengthOk m.long (length (body_bytes m.body))
