-- Shortest: no message of the same values has fewer bytes. Definitions only.
use Rattle.std.specs.Prelude.{◌≡◌, List, map, ℕ, ◌≤◌, length}
use Rattle.zvt_rules.specs.Objects.{bare, Obj, leaf, branch, Objs, none, more}
use Rattle.zvt_rules.specs.Fields.{Field, plain, container}
use Rattle.zvt_rules.specs.Message.{Body, bytes, listed, Message}
use Rattle.zvt_rules.specs.believed.Writing.{message_bytes}
use Rattle.zvt_rules.specs.believed.Grammar.{MessageOk}
use Rattle.zvt_rules.specs.believed.Values.{Is}

-- M10: "the same message": the values are the same, whatever the forms of lengths; here with each length in one form
unfoldable mutual
  pub formless_obj : Obj → Obj
  formless_obj (leaf tag form value) = leaf tag bare value
  formless_obj (branch tag form os) = branch tag bare (formless_run os)

  pub formless_run : Objs → Objs
  formless_run none = none
  formless_run (more o os) = more (formless_obj o) (formless_run os)

unfoldable pub formless_field : Field → Field
formless_field (plain id value) = plain id value
formless_field (container form os) = container bare (formless_run os)

unfoldable pub formless_body : Body → Body
formless_body (bytes s) = bytes s
formless_body (listed password fs) = listed password (map formless_field fs)

unfoldable pub SameValues : Message → Message → Type 0
SameValues m n = (m.class ≡ n.class) × (m.instruction ≡ n.instruction) × (formless_body m.body ≡ formless_body n.body)

-- M10: "the same message with each length, of header, containers and objects, in its shortest form"
unfoldable pub Fewest : Message → Type 0
Fewest m = (other : Message) → SameValues m other → MessageOk other → length (message_bytes m) ≤ length (message_bytes other)

-- the bytes w are those that shortening makes of the bytes s
unfoldable pub Shortens : List ℕ → List ℕ → Type 0
Shortens s w = (m : Message) × (short : Message) × Is s m × SameValues m short × Is w short × Fewest short
