-- What a line asks for: its order, and its bytes. Definitions only.
use Rattle.std.specs.Prelude.{ℕ, ◌+◌, ◌≡◌, Bool, true, not, ◌||◌, List, [], ◌∷◌, ◌++◌, length, leb, ltb, eqb, Option, Some, None}
use Rattle.basics.specs.Choice.{pick}
use Rattle.basics.specs.Buffers.{front}
use Rattle.words.specs.Split.{following, word_of}
use Rattle.words.specs.Notation.{word_number, bytes_of, id_of}
use Rattle.words.specs.Shapes.{shape_of}
use Rattle.words.specs.declared.Script.{Script}
use Rattle.words.specs.declared.Values.{Values}
use Rattle.words.specs.declared.shapes.Shape.{Shape}
use Rattle.words.specs.declared.What.{What}
use Rattle.words.specs.declared.What.TheVariants as what
use Rattle.words.specs.declared.Order.{Order}

-- "A script begins with .. a room of 4,101 bytes."
abbrev pub begun : Bool → Script
begun further = record { further = further; more = true; room = 4101; number = 0; added = 0 }

-- what is out of form in a part is out of form as a whole
unfoldable pub if_some : {A B : Type 0} → Option A → (A → Option B) → Option B
if_some None f = None
if_some (Some a) f = f a

-- ---- numbers

-- number k of a line that has so many; 0 where there is none
unfoldable pub number_at : ℕ → ℕ → List ℕ → Option ℕ
number_at numbers k s = pick (ltb numbers k) (Some 0) (word_number (word_of k s))

-- the first number, or the id, the last word of its line
unfoldable pub first_number : Shape → List ℕ → Option ℕ
first_number f s = pick (eqb f.ids 0) (number_at f.numbers 1 s) (id_of (word_of (following s) s))

unfoldable pub values_of : Shape → List ℕ → Option Values
values_of f s =
    if_some (first_number f s) λ first. if_some (number_at f.numbers 2 s) λ second. if_some (number_at f.numbers 3 s) λ third.
    Some (record { first = first; second = second; third = third })

-- ---- bytes

-- run k of the bytes, which stand behind the numbers; no bytes where there is none
unfoldable pub bytes_at : Shape → ℕ → List ℕ → Option (List ℕ)
bytes_at f k s = pick (ltb f.runs k) (Some []) (bytes_of (word_of (f.numbers + k) s))

-- a message, and the till's own name
pub record Runs : Type 0 where
  pub message : List ℕ
  pub name : List ℕ

-- both have to find room
unfoldable pub runs_of : Shape → ℕ → List ℕ → Option Runs
runs_of f room s =
    if_some (bytes_at f 1 s) λ message. if_some (bytes_at f 2 s) λ name.
    pick (leb (length message + length name) room) (Some (record { message = message; name = name })) None

-- ---- lines

-- what a line asks for, and its bytes
pub record OrderLine : Type 0 where
  pub order : Order
  pub bytes : List ℕ

abbrev pub line_with : What → Values → Runs → OrderLine
line_with w n r = record {
  order = record {
    what = w;
    first = n.first;
    second = n.second;
    third = n.third;
    size = length r.message;
    end = length r.message + length r.name;
  };
  bytes = r.message ++ r.name;
}

-- a line of that shape
unfoldable pub read_as : Shape → ℕ → List ℕ → Option OrderLine
read_as f room s =
    pick (eqb (following s) (f.numbers + f.runs + f.ids))
    (if_some (values_of f s) λ n. if_some (runs_of f room s) λ r. Some (line_with f.what n r)) None

-- a line with neither numbers nor bytes
abbrev pub bare : What → OrderLine
bare w = line_with w (record { first = 0; second = 0; third = 0 }) (record { message = []; name = [] })

-- "A line that .. has .. a number, hex or an id out of form .. is answered with `line N not understood`"
abbrev pub or_bad : Option OrderLine → OrderLine
or_bad None = bare what.Bad
or_bad (Some l) = l

-- "A line with no bytes, and one that begins with `#`, is passed over without an answer"
unfoldable pub passed_over : List ℕ → Bool
passed_over [] = true
passed_over (b ∷ s) = eqb b 35

-- a line where a script stands: one that has ended passes over what follows
unfoldable pub line_of : Script → ℕ → List ℕ → OrderLine
line_of at room s = pick (not at.more || passed_over s) (bare what.Pass) (or_bad (read_as (shape_of at.further (word_of 0 s)) room s))

-- the order is told, and the line's bytes stand at the start of the buffer
abbrev pub Ordered : OrderLine → Order → List ℕ → List ℕ → Type 0
Ordered l order entry exit = (order ≡ l.order) × (exit ≡ front l.bytes entry)
