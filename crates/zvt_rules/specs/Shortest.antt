-- The same message with every length in its shortest form, and whether it is so already. Definitions only.
use Rattle.std.specs.Prelude.{ℕ, Bool, true, not, ◌&&◌, ◌||◌, List, [], ◌∷◌, length, ltb, leb}
use Rattle.basics.specs.Choice.{pick}
use Rattle.zvt_rules.specs.Reading.{Reading, got, and_then}
use Rattle.zvt_rules.specs.Objects.{Form, bare, one, two, Obj, leaf, branch, Objs, none, more}
use Rattle.zvt_rules.specs.Fields.{Field, plain, container}
use Rattle.zvt_rules.specs.Message.{Body, bytes, listed, Message, read_of}
use Rattle.zvt_rules.specs.believed.Writing.{run_bytes, body_bytes, message_bytes}

-- O7: "Shortest is one byte under 128, 81 from there to 255, 82 from 256."
unfoldable pub form_for : ℕ → Form
form_for v = pick (ltb v 128) bare (pick (ltb v 256) one two)

unfoldable pub is_shortest : Form → ℕ → Bool
is_shortest bare v = true
is_shortest one v = leb 128 v
is_shortest two v = leb 256 v

-- M10: "the same message with each length, of header, containers and objects, in its shortest form, inner lengths first"
unfoldable mutual
  pub short_obj : Obj → Obj
  short_obj (leaf tag form value) = leaf tag (form_for (length value)) value
  short_obj (branch tag form os) = branch tag (form_for (length (run_bytes (short_run os)))) (short_run os)

  pub short_run : Objs → Objs
  short_run none = none
  short_run (more o os) = more (short_obj o) (short_run os)

-- F3: a length in digits "has one form only, which shortening keeps"
unfoldable pub short_field : Field → Field
short_field (plain id value) = plain id value
short_field (container form os) = container (form_for (length (run_bytes (short_run os)))) (short_run os)

unfoldable pub short_list : List Field → List Field
short_list [] = []
short_list (f ∷ fs) = short_field f ∷ short_list fs

unfoldable pub short_body : Body → Body
short_body (bytes s) = bytes s
short_body (listed password fs) = listed password (short_list fs)

-- M4: "A length under 255 behind FF can be read, but is not shortest."
unfoldable pub short_message : Message → Message
short_message m =
    record {
      class = m.class;
      instruction = m.instruction;
      long = leb 255 (length (body_bytes (short_body m.body)));
      body = short_body m.body;
    }

-- every length shortest, as the message was sent: by the laws just where "shortening would change nothing" (M11)
unfoldable mutual
  pub is_short_obj : Obj → Bool
  is_short_obj (leaf tag form value) = is_shortest form (length value)
  is_short_obj (branch tag form os) = is_shortest form (length (run_bytes os)) && is_short_run os

  pub is_short_run : Objs → Bool
  is_short_run none = true
  is_short_run (more o os) = is_short_obj o && is_short_run os

unfoldable pub is_short_field : Field → Bool
is_short_field (plain id value) = true
is_short_field (container form os) = is_shortest form (length (run_bytes os)) && is_short_run os

unfoldable pub is_short_list : List Field → Bool
is_short_list [] = true
is_short_list (f ∷ fs) = is_short_field f && is_short_list fs

unfoldable pub is_short_body : Body → Bool
is_short_body (bytes s) = true
is_short_body (listed password fs) = is_short_list fs

unfoldable pub is_short : Message → Bool
is_short m = (not m.long || leb 255 (length (body_bytes m.body))) && is_short_body m.body

-- the shortest writing of a message, and of the message that s is
unfoldable pub write : Message → List ℕ
write m = message_bytes (short_message m)

unfoldable pub shorten : List ℕ → Reading (List ℕ)
shorten s = and_then (read_of s) λ m. got (write m)
