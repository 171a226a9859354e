-- The limits of a message, tried: what stands at a limit is read, what goes one beyond is refused. By computing. Assumes nothing.
use mathlib.Core.Path.{◌≡◌, refl}
use mathlib.Core.List.{List, [], ◌∷◌}
use Prim.Native.Nat.{ℕ, zero, suc}
use lib.ListN.{replicate}
use Rattle.basics.specs.Lists.{among}
use Rattle.zvt_rules.specs.Reading.{got, refused, fault_at, unplaced, unless, and_then}
use Rattle.zvt_rules.specs.Objects.{second_tag, tag_size, form_size, one_byte_len, two_byte_len, len_of, head_with, head_of, run_by, one_by, run_of, count_obj, count_objs}
use Rattle.zvt_rules.specs.Fields.{format_of, unknown, field_id, count_field, count_fields, value_of, container_of, field_by, field_of, list_by, list_of}
use Rattle.zvt_rules.specs.Message.{long_length, length_of, header_with, header_of, layout_of, body_of, Message, message_of, whole_header, read_of}

abbrev Reads : List ℕ → Type 0
Reads s = (m : Message) × (read_of s ≡ got m)

-- M3: "A body has at most 4,096 bytes."
pub body-limit :
    Reads (0x06 ∷ 0xD1 ∷ 0xFF ∷ 0x00 ∷ 0x10 ∷ replicate 4_096 0x41)
    × (read_of (0x06 ∷ 0xD1 ∷ 0xFF ∷ 0x01 ∷ 0x10 ∷ replicate 4_097 0x41) ≡ refused (unplaced 2))
unfolding unless and_then among long_length length_of header_with header_of layout_of body_of message_of whole_header read_of
body-limit = ((_, refl), refl)

-- so many objects 07 without a value
unfoldable pub objects : ℕ → List ℕ
objects zero = []
objects (suc n) = 0x07 ∷ 0x00 ∷ objects n

-- O10: "A message has at most 64 objects"; the 65th begins at byte 134. O9: "Objects of the container itself are at depth 1 .. down to
-- depth 4."; the one at depth 5 begins at byte 13
pub object-limits :
    Reads (0x04 ∷ 0x0F ∷ 0x83 ∷ 0x06 ∷ 0x81 ∷ 0x80 ∷ objects 64)
    × (read_of (0x04 ∷ 0x0F ∷ 0x85 ∷ 0x06 ∷ 0x81 ∷ 0x82 ∷ objects 65) ≡ refused (fault_at 10 134))
    × Reads (0x04 ∷ 0x0F ∷ 0x0A ∷ 0x06 ∷ 0x08 ∷ 0x20 ∷ 0x06 ∷ 0x20 ∷ 0x04 ∷ 0x20 ∷ 0x02 ∷ 0x07 ∷ 0x00 ∷ [])
    × (read_of (0x04 ∷ 0x0F ∷ 0x0C ∷ 0x06 ∷ 0x0A ∷ 0x20 ∷ 0x08 ∷ 0x20 ∷ 0x06 ∷ 0x20 ∷ 0x04 ∷ 0x20 ∷ 0x02 ∷ 0x07 ∷ 0x00 ∷ []) ≡ refused (fault_at 9 13))
unfolding unless and_then among second_tag tag_size form_size one_byte_len two_byte_len len_of head_with head_of run_by one_by run_of count_obj count_objs
    format_of unknown field_id count_field count_fields value_of container_of field_by field_of list_by list_of
    long_length length_of header_with header_of layout_of body_of message_of whole_header read_of objects
object-limits = ((_, refl), refl, (_, refl), refl)
