-- Steps of the code, which nobody has to believe: what its own functions are asked and answer. Definitions only.
use Rattle.std.specs.Prelude.{ℕ, ◌+◌, ◌≤◌, ◌≡◌, List, [], ◌∷◌, ◌++◌, length, Option, Some, None}
use Rattle.std.specs.Borrow.{Bor}
use Rattle.std.specs.Str.{bytes_eq}
use Rattle.basics.specs.Choice.{pick}
use Rattle.basics.specs.Buffers.{front}
use Rattle.words.specs.Shapes.{Row}
use Rattle.words.specs.declared.What.{What}
use Rattle.words.specs.declared.shapes.Shape.{Shape}
use Rattle.words.specs.Lines.{Runs, OrderLine}
use Rattle.words.specs.declared.Ends.{Ends}
use Rattle.words.specs.declared.Order.{Order}

-- ---- shapes: the rows of a table of the code, and the shape of a word of it
abbrev pub rows : List (Bor (List ℕ) × What × ℕ × ℕ × ℕ) → List Row
rows [] = []
rows ((word, w, numbers, runs, ids) ∷ rs) = record { word = word.now; shape = record { what = w; numbers = numbers; runs = runs; ids = ids } } ∷ rows rs

unfoldable pub shape_in : List Row → List ℕ → Option Shape
shape_in [] name = None
shape_in (r ∷ rs) name = pick (bytes_eq r.word name) (Some r.shape) (shape_in rs name)

-- ---- a run of bytes: that there is room for it; a buffer with it at its start
abbrev pub Fits : Option (List ℕ) → List ℕ → Type 0
Fits None out = ⊥
Fits (Some v) out = length v ≤ length out

abbrev pub put : Option (List ℕ) → List ℕ → List ℕ
put None out = out
put (Some v) out = front v out

-- ---- both runs: where they end; that the first has that size; a buffer with both at its start
abbrev pub ends : Runs → Ends
ends r = record { size = length r.message; end = length r.message + length r.name }

abbrev pub Sized : Option Runs → ℕ → Type 0
Sized None size = ⊥
Sized (Some r) size = length r.message ≡ size

abbrev pub put_both : Option Runs → List ℕ → List ℕ
put_both None out = out
put_both (Some r) out = front (r.message ++ r.name) out

-- ---- a line that is understood: its order is told, and its bytes stand at the start of the buffer
abbrev pub Told : Option OrderLine → Option Order → List ℕ → List ℕ → Type 0
Told None order entry exit = (order ≡ None) × (exit ≡ entry)
Told (Some l) order entry exit = (order ≡ Some l.order) × (exit ≡ front l.bytes entry)
