-- The bytes of a message, each length in the form that the message says. Definitions only.
use Rattle.std.specs.Prelude.{ℕ, zero, suc, ◌+◌, ◌/◌, ◌%◌, Bool, true, false, List, [], ◌∷◌, ◌++◌, length}
use Rattle.zvt_rules.specs.declared.Format.{Format}
use Rattle.zvt_rules.specs.declared.Format.TheVariants.{Unknown, Fixed, Digits, Container}
use Rattle.zvt_rules.specs.Objects.{Form, bare, one, two, Obj, leaf, branch, Objs, none, more}
use Rattle.zvt_rules.specs.Fields.{format_of, Field, plain, container}
use Rattle.zvt_rules.specs.Message.{Body, bytes, listed, Message}

-- O6: "A length is one byte 00 to 7F; or 81 and one byte; or 82 and two bytes, high byte first."
unfoldable pub len_bytes : Form → ℕ → List ℕ
len_bytes bare v = v ∷ []
len_bytes one v = 0x81 ∷ (v ∷ [])
len_bytes two v = 0x82 ∷ ((v / 256) ∷ ((v % 256) ∷ []))

-- a length and that many bytes
unfoldable pub sized : Form → List ℕ → List ℕ
sized form value = len_bytes form (length value) ++ value

unfoldable mutual
  pub obj_bytes : Obj → List ℕ
  obj_bytes (leaf tag form value) = tag ++ sized form value
  obj_bytes (branch tag form os) = tag ++ sized form (run_bytes os)

  pub run_bytes : Objs → List ℕ
  run_bytes none = []
  run_bytes (more o os) = obj_bytes o ++ run_bytes os

-- F3: "A length digit is one of the bytes F0 to F9; F1 F6 says 16": the last d digits of v
unfoldable pub digit_bytes : ℕ → ℕ → List ℕ
digit_bytes zero v = []
digit_bytes (suc d) v = digit_bytes d (v / 10) ++ ((0xF0 + v % 10) ∷ [])

-- what stands between the id and a value of v bytes
unfoldable pub length_in : Format → ℕ → List ℕ
length_in Unknown v = []
length_in (Fixed k) v = []
length_in (Digits d) v = digit_bytes d v
length_in Container v = []

unfoldable pub field_bytes : Field → List ℕ
field_bytes (plain id value) = id ∷ (length_in (format_of id) (length value) ++ value)
field_bytes (container form os) = 0x06 ∷ sized form (run_bytes os)

-- F2: a field's value, without id and length; O1: that of field 06 is its run of objects
unfoldable pub field_value : Field → List ℕ
field_value (plain id value) = value
field_value (container form os) = run_bytes os

unfoldable pub list_bytes : List Field → List ℕ
list_bytes [] = []
list_bytes (f ∷ fs) = field_bytes f ++ list_bytes fs

unfoldable pub body_bytes : Body → List ℕ
body_bytes (bytes s) = s
body_bytes (listed password fs) = password ++ list_bytes fs

-- M2: "After FF the next two bytes are the length, low byte first."
unfoldable pub length_bytes : Bool → ℕ → List ℕ
length_bytes false v = v ∷ []
length_bytes true v = 0xFF ∷ ((v % 256) ∷ ((v / 256) ∷ []))

-- M1: "A message is a class byte, an instruction byte, a length and a body of that many bytes."
unfoldable pub message_bytes : Message → List ℕ
message_bytes m = m.class ∷ (m.instruction ∷ (length_bytes m.long (length (body_bytes m.body)) ++ body_bytes m.body))
