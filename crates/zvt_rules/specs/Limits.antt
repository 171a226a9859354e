-- The limits of a message: how many bytes and objects it has at most, and how deep objects stand in it. Definitions only.
use Rattle.std.specs.Prelude.{ℕ, ◌+◌}

-- M3: "A body has at most 4,096 bytes."
abbrev pub most_body : ℕ
most_body = 4_096

-- M1: "A message is a class byte, an instruction byte, a length and a body". M2: "After FF the next two bytes are the length": at most
-- five bytes before the body
abbrev pub most_message : ℕ
most_message = 5 + most_body

-- O10: "A message has at most 64 objects, inner ones counted"
abbrev pub most_objects : ℕ
most_objects = 64

-- O9: "Objects of the container itself are at depth 1 .. down to depth 4."
abbrev pub deepest : ℕ
deepest = 4
