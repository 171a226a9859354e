-- What the desk needs of a status information. Definitions only.
use Rattle.std.specs.Prelude.{ℕ, Bool, ◌&&◌, List, [], ◌∷◌, get_or, eqb, None, Option, Some}
use Rattle.basics.specs.Choice.{pick}
use Rattle.zvt_rules.specs.Reading.{Reading, got, refused}
use Rattle.zvt_rules.specs.Fields.{Field, field_id}
use Rattle.zvt_rules.specs.Message.{Body, bytes, listed, Message, read_of}
use Rattle.zvt_rules.specs.declared.Status.{Status}
use Rattle.zvt_rules.specs.Digits.{number_of}
use Rattle.zvt_rules.specs.believed.Writing.{field_value}

-- M13: "a status information (04 0F)"
abbrev pub is_status : Message → Bool
is_status m = eqb m.class 0x04 && eqb m.instruction 0x0F

-- the value of the field with that id, if the list has one
pub data Found : Type 0 where
  missing : Found
  found : List ℕ → Found

unfoldable pub value_in : ℕ → List Field → Found
value_in id [] = missing
value_in id (f ∷ fs) = pick (eqb (field_id f) id) (found (field_value f)) (value_in id fs)

unfoldable pub code_of : Found → Option ℕ
code_of missing = None
code_of (found value) = Some (get_or value 0 0)

unfoldable pub amount_of : Found → Option ℕ
amount_of missing = None
amount_of (found value) = Some (number_of value)

unfoldable pub receipt_of : Found → Option ℕ
receipt_of missing = None
receipt_of (found value) = Some (number_of value)

-- P20: "code (27), amount (04) and receipt (87)"
unfoldable pub code_in : List Field → Option ℕ
code_in fs = code_of (value_in 0x27 fs)

unfoldable pub amount_in : List Field → Option ℕ
amount_in fs = amount_of (value_in 0x04 fs)

unfoldable pub receipt_in : List Field → Option ℕ
receipt_in fs = receipt_of (value_in 0x87 fs)

unfoldable pub status_in : List Field → Status
status_in fs = record { code = code_in fs; amount = amount_in fs; receipt = receipt_in fs }

unfoldable pub body_fields : Body → List Field
body_fields (bytes s) = []
body_fields (listed password fs) = fs

-- the fields of a status information; none of anything else
unfoldable pub status_fields : Reading Message → List Field
status_fields (got m) = pick (is_status m) (body_fields m.body) []
status_fields (refused f) = []

unfoldable pub status_of : List ℕ → Status
status_of s = status_in (status_fields (read_of s))
