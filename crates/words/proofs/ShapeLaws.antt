-- Laws of the shapes of lines: a word of a table of the code. Assumes nothing.
use Rattle.std.proofs.Common.{◌≡◌, ◌∙◌, ℕ, Bool, List, [], ◌∷◌, ◌++◌, refl, ap}
use Rattle.std.specs.Prelude.{Option, Some, None}
use Rattle.std.specs.Option.{option_map, unwrap_or}
use Rattle.std.specs.List.{find}
use Rattle.std.specs.Borrow.{Bor}
use Rattle.std.specs.Str.{bytes_eq}
use Rattle.basics.specs.Choice.{pick}
use Rattle.basics.proofs.Tests.{by-test}
use Rattle.words.specs.Shapes.{Row, script_rows, case_rows, shape_of}
use Rattle.words.specs.Shapes.{shape_in as shape_among}
use Rattle.words.specs.Steps.{shape_in, rows}
use Rattle.words.specs.declared.What.{What}
use Rattle.words.specs.declared.What.TheVariants as what
use Rattle.words.specs.declared.shapes.Shape.{Shape}

abbrev CodeRow : Type 0
CodeRow = Bor (List ℕ) × What × ℕ × ℕ × ℕ

abbrev pub shaped : CodeRow → Shape
shaped (word, w, numbers, runs, ids) = record { what = w; numbers = numbers; runs = runs; ids = ids }

first_row : (table : List CodeRow) (name : List ℕ) → option_map shaped (find (λ r. bytes_eq r.0.now name) table) ≡ shape_in (rows table) name
unfolding shape_in
first_row [] name = refl
first_row ((word, w, numbers, runs, ids) ∷ rs) name =
    by-test (bytes_eq word.now name) (λ t. rw t) (λ t. rw t (first_row rs name))

-- what the code's search found
pub found : (table : List CodeRow) (name : List ℕ) (r : Option (Bor CodeRow))
    → option_map (λ x. x.now) r ≡ find (λ r. bytes_eq r.0.now name) table → option_map (λ x. shaped x.now) r ≡ shape_in (rows table) name
found table name None e = ap (option_map shaped) e ∙ first_row table name
found table name (Some x) e = ap (option_map shaped) e ∙ first_row table name

abbrev bad : Shape
bad = record { what = what.Bad; numbers = 0; runs = 0; ids = 0 }

-- a table, and others behind it
or_else : (rs more : List Row) (name : List ℕ) → shape_among (rs ++ more) name ≡ unwrap_or (shape_in rs name) (shape_among more name)
unfolding shape_in shape_among
or_else [] more name = refl
or_else (r ∷ rs) more name = by-test (bytes_eq r.word name) (λ t. rw t) (λ t. rw t (or_else rs more name))

-- the words of a script come before the further words
pub script_first : (further : Bool) (name : List ℕ) → shape_of further name ≡ unwrap_or (shape_in script_rows name) (shape_among (pick further case_rows []) name)
unfolding shape_of
script_first further name = or_else script_rows (pick further case_rows []) name

pub cases_alone : (name : List ℕ) → shape_among case_rows name ≡ unwrap_or (shape_in case_rows name) bad
unfolding shape_among
cases_alone name = or_else case_rows [] name
