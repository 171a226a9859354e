-- How lines are written: which words there are, and what follows each. Definitions only.
use Rattle.std.specs.Prelude.{ℕ, Bool, List, [], ◌∷◌, ◌++◌}
use Prim.Native.String.{String}
use Rattle.std.specs.Str.{bytes_eq}
use Rattle.basics.specs.Choice.{pick}
use Rattle.basics.specs.believed.Text.{ascii}
use Rattle.words.specs.declared.shapes.Shape.{Shape}
use Rattle.words.specs.declared.What.{What}
use Rattle.words.specs.declared.What.TheVariants as what

pub record Row : Type 0 where
  pub word : List ℕ
  pub shape : Shape

abbrev pub row : String → What → ℕ → ℕ → ℕ → Row
row word what numbers runs ids = record { word = ascii word; shape = record { what = what; numbers = numbers; runs = runs; ids = ids } }

-- the words of a script
abbrev pub script_rows : List Row
script_rows =
    row "close" what.Close 0 0 0
    ∷ row "sale" what.Sale 2 0 0
    ∷ row "refund" what.Refund 3 0 0
    ∷ row "reversal" what.Reversal 3 0 0
    ∷ row "terminal" what.Terminal 1 1 0
    ∷ row "lost" what.Lost 1 0 0
    ∷ row "book" what.Book 0 0 0
    ∷ row "lanes" what.Lanes 0 0 0
    ∷ row "net" what.Net 0 0 0
    ∷ row "tape" what.Tape 0 0 0
    ∷ row "replay" what.Replay 0 0 0
    ∷ row "room" what.Room 1 0 0
    ∷ row "read" what.Read 0 1 0
    ∷ row "name" what.Name 0 2 0
    ∷ row "shorten" what.Shorten 0 1 0
    ∷ row "field" what.Field 0 1 1
    ∷ []

-- the further words of a file of cases
abbrev pub case_rows : List Row
case_rows =
    row "header" what.Header 0 1 0
    ∷ row "first" what.First 0 1 0
    ∷ row "status" what.Status 0 1 0
    ∷ row "list" what.List 0 1 0
    ∷ row "each" what.Each 1 1 0
    ∷ row "amount" what.Amount 1 0 0
    ∷ row "password" what.Password 1 0 0
    ∷ row "receipt" what.Receipt 1 0 0
    ∷ row "add" what.Add 1 1 0
    ∷ row "block" what.Block 1 1 0
    ∷ row "last-block" what.LastBlock 1 1 0
    ∷ row "damage" what.Damage 1 1 0
    ∷ row "damage-last" what.DamageLast 1 1 0
    ∷ row "write" what.Write 1 1 0
    ∷ row "records" what.Records 0 1 0
    ∷ row "blocks" what.Blocks 0 1 0
    ∷ row "replay-tape" what.ReplayTape 0 1 0
    ∷ row "replay-records" what.ReplayRecords 0 1 0
    ∷ []

-- the shape of a line with that first word; where the word is none of these, it is bad
unfoldable pub shape_in : List Row → List ℕ → Shape
shape_in [] name = record { what = what.Bad; numbers = 0; runs = 0; ids = 0 }
shape_in (r ∷ rs) name = pick (bytes_eq r.word name) r.shape (shape_in rs name)

-- "In a script, as `trial` plays it, none of these words is understood."
unfoldable pub shape_of : Bool → List ℕ → Shape
shape_of further name = shape_in (script_rows ++ pick further case_rows []) name
