-- Steps of the code, private: what the writers of the shortest message put down. Definitions only.
use Rattle.std.specs.Prelude.{◌≡◌, ℕ, ◌+◌, ◌-◌, List, [], ◌∷◌, ◌++◌, length, take, leb}
use Rattle.zvt_rules.specs.declared.Layout.{Layout}
use Rattle.basics.specs.Choice.{pick}
use Rattle.basics.specs.Lists.{part}
use Rattle.zvt_rules.specs.Reading.{Reading, got, refused}
use Rattle.zvt_rules.specs.Limits.{deepest}
use Rattle.zvt_rules.specs.Objects.{RunRead, run_of}
use Rattle.zvt_rules.specs.Fields.{ListRead, list_of}
use Rattle.zvt_rules.specs.Message.{Body, body_of, layout_of}
use Rattle.zvt_rules.specs.believed.Writing.{len_bytes, run_bytes, list_bytes, body_bytes, length_bytes}
use Rattle.zvt_rules.specs.Shortest.{form_for, short_run, short_list, short_body}
use Rattle.zvt_rules.specs.declared.Header.{Header}
use Rattle.zvt.specs.declared.objects.Bounds.{Bounds}

-- w over the end of a buffer
unfoldable pub back : List ℕ → List ℕ → List ℕ
back w d = take (length d - length w) d ++ w

-- w was put at the end of a buffer, and so much of it is left before w
pub record Put (w entry : List ℕ) (left : ℕ) (exit : List ℕ) : Type 0 where
  pub rest : left ≡ length entry - length w
  pub done : exit ≡ back w entry

unfoldable pub head_bytes : List ℕ → ℕ → List ℕ
head_bytes tag v = tag ++ len_bytes (form_for v) v

unfoldable pub value_bytes : List ℕ → List ℕ → List ℕ
value_bytes tag value = head_bytes tag (length value) ++ value

-- bytes that are a run, and that run written shortest
unfoldable pub RunReads : List ℕ → Type 0
RunReads s = (r : RunRead) × (run_of deepest 0 0 s ≡ got r)

unfoldable pub run_written : Reading RunRead → List ℕ
run_written (got r) = run_bytes (short_run r.objs)
run_written (refused f) = []

unfoldable pub short_run_of : List ℕ → List ℕ
short_run_of s = run_written (run_of deepest 0 0 s)

-- the field that s begins with, whose parts lie there
unfoldable pub short_field_of : Bounds → List ℕ → List ℕ
short_field_of b s = pick b.nested (value_bytes (take 1 s) (short_run_of (part b.from b.to s))) (take b.to s)

-- bytes that are a list, and that list written shortest
unfoldable pub ListReads : List ℕ → Type 0
ListReads s = (r : ListRead) × (list_of [] 0 0 s ≡ got r)

unfoldable pub list_written : Reading ListRead → List ℕ
list_written (got r) = list_bytes (short_list r.fields)
list_written (refused f) = []

unfoldable pub short_list_of : List ℕ → List ℕ
short_list_of s = list_written (list_of [] 0 0 s)

-- bytes that are a body of that layout, and that body written shortest
unfoldable pub BodyReads : Layout → List ℕ → Type 0
BodyReads layout s = (b : Body) × (body_of 0 s layout ≡ got b)

unfoldable pub body_written : Reading Body → List ℕ
body_written (got b) = body_bytes (short_body b)
body_written (refused f) = []

unfoldable pub short_body_of : Layout → List ℕ → List ℕ
short_body_of layout s = body_written (body_of 0 s layout)

-- class, instruction and the shortest length of a body of v bytes
unfoldable pub header_bytes : ℕ → ℕ → ℕ → List ℕ
header_bytes class instruction v = class ∷ (instruction ∷ length_bytes (leb 255 v) v)

unfoldable pub header_layout : Header → Layout
header_layout h = layout_of h.class h.instruction

unfoldable pub body_part : Header → List ℕ → List ℕ
body_part h s = part h.start (h.start + h.length) s

unfoldable pub short_message_of : Header → List ℕ → List ℕ
short_message_of h s =
    let body = short_body_of (header_layout h) (body_part h s) in
    header_bytes h.class h.instruction (length body) ++ body
