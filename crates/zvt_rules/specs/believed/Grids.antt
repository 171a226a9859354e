-- The ids of fields, drawn: 16 lines of 16, the high half of the id down, the low half across; and the pairs that are not plain. The laws
-- say that this is what the first writing computes. Definitions only.
use Rattle.std.specs.Prelude.{Bool, true, false, List, [], ◌∷◌, ℕ}
use Rattle.zvt_rules.specs.declared.Format.{Format}
use Rattle.zvt_rules.specs.declared.Format.TheVariants.{Unknown, Fixed, Digits, Container}
use Rattle.zvt_rules.specs.declared.Layout.{Layout}
use Rattle.zvt_rules.specs.declared.Layout.TheVariants.{Plain, List as FieldList, Secured}
use Rattle.basics.specs.believed.Lists.{In}

-- unknown; so many bytes (f_f is 15); so many bytes of decimal digits; two or three length digits; the container
pub data Cell : Type 0 where
  ·· f1 f2 f3 f4 f5 f8 f_f n2 n3 n6 d2 d3 co : Cell

-- the format of a field, and whether its value is of decimal digits
unfoldable pub cell_says : Cell → Format × Bool
cell_says ·· = (Unknown, false)
cell_says f1 = (Fixed 1, false)
cell_says f2 = (Fixed 2, false)
cell_says f3 = (Fixed 3, false)
cell_says f4 = (Fixed 4, false)
cell_says f5 = (Fixed 5, false)
cell_says f8 = (Fixed 8, false)
cell_says f_f = (Fixed 15, false)
cell_says n2 = (Fixed 2, true)
cell_says n3 = (Fixed 3, true)
cell_says n6 = (Fixed 6, true)
cell_says d2 = (Digits 2, false)
cell_says d3 = (Digits 3, false)
cell_says co = (Container, false)

-- F2: "The id alone decides the format." F5: "Fields 04, 0B, 37, 49, 87 and 88 .. have a decimal digit in each half of each byte."
unfoldable pub ids : List Cell
ids =
    -- 0    1    2    3    4    5    6    7    8    9    A    B    C    D    E    F
    ·· ∷ f1 ∷ f1 ∷ f1 ∷ n6 ∷ f1 ∷ co ∷ ·· ∷ ·· ∷ ·· ∷ ·· ∷ n3 ∷ f3 ∷ f2 ∷ f2 ∷ ·· ∷  -- 00
    ·· ∷ ·· ∷ ·· ∷ ·· ∷ ·· ∷ ·· ∷ ·· ∷ f2 ∷ ·· ∷ f1 ∷ ·· ∷ ·· ∷ ·· ∷ ·· ∷ ·· ∷ ·· ∷  -- 10
    ·· ∷ ·· ∷ d2 ∷ d2 ∷ d3 ∷ ·· ∷ ·· ∷ f1 ∷ ·· ∷ f4 ∷ f_f ∷ ·· ∷ ·· ∷ d2 ∷ d3 ∷ ·· ∷  -- 20
    ·· ∷ ·· ∷ ·· ∷ ·· ∷ ·· ∷ ·· ∷ ·· ∷ n3 ∷ ·· ∷ ·· ∷ f2 ∷ f8 ∷ d3 ∷ f3 ∷ ·· ∷ ·· ∷  -- 30
    ·· ∷ ·· ∷ ·· ∷ ·· ∷ ·· ∷ ·· ∷ ·· ∷ ·· ∷ ·· ∷ n2 ∷ ·· ∷ ·· ∷ d2 ∷ ·· ∷ ·· ∷ ·· ∷  -- 40
    ·· ∷ ·· ∷ ·· ∷ ·· ∷ ·· ∷ ·· ∷ ·· ∷ ·· ∷ ·· ∷ ·· ∷ ·· ∷ ·· ∷ ·· ∷ ·· ∷ ·· ∷ ·· ∷  -- 50
    d3 ∷ ·· ∷ ·· ∷ ·· ∷ ·· ∷ ·· ∷ ·· ∷ ·· ∷ ·· ∷ ·· ∷ ·· ∷ ·· ∷ ·· ∷ ·· ∷ ·· ∷ ·· ∷  -- 60
    f4 ∷ f4 ∷ f1 ∷ f1 ∷ f1 ∷ f1 ∷ ·· ∷ ·· ∷ ·· ∷ ·· ∷ ·· ∷ ·· ∷ ·· ∷ ·· ∷ ·· ∷ ·· ∷  -- 70
    ·· ∷ ·· ∷ ·· ∷ ·· ∷ ·· ∷ ·· ∷ ·· ∷ n2 ∷ n3 ∷ ·· ∷ f1 ∷ d2 ∷ f1 ∷ ·· ∷ ·· ∷ ·· ∷  -- 80
    ·· ∷ ·· ∷ d3 ∷ ·· ∷ ·· ∷ ·· ∷ ·· ∷ ·· ∷ ·· ∷ ·· ∷ d3 ∷ ·· ∷ ·· ∷ ·· ∷ ·· ∷ ·· ∷  -- 90
    f1 ∷ ·· ∷ ·· ∷ ·· ∷ ·· ∷ ·· ∷ ·· ∷ d2 ∷ ·· ∷ ·· ∷ f3 ∷ ·· ∷ ·· ∷ ·· ∷ ·· ∷ d3 ∷  -- A0
    ·· ∷ ·· ∷ ·· ∷ ·· ∷ ·· ∷ ·· ∷ ·· ∷ ·· ∷ ·· ∷ ·· ∷ f5 ∷ ·· ∷ ·· ∷ ·· ∷ ·· ∷ ·· ∷  -- B0
    ·· ∷ ·· ∷ ·· ∷ ·· ∷ ·· ∷ ·· ∷ ·· ∷ ·· ∷ ·· ∷ ·· ∷ ·· ∷ ·· ∷ ·· ∷ ·· ∷ ·· ∷ ·· ∷  -- C0
    f1 ∷ d2 ∷ f1 ∷ f1 ∷ ·· ∷ ·· ∷ ·· ∷ ·· ∷ ·· ∷ ·· ∷ ·· ∷ ·· ∷ ·· ∷ ·· ∷ ·· ∷ ·· ∷  -- D0
    f1 ∷ d2 ∷ d2 ∷ d2 ∷ d2 ∷ d2 ∷ d2 ∷ d2 ∷ d2 ∷ f1 ∷ f1 ∷ f8 ∷ ·· ∷ ·· ∷ ·· ∷ ·· ∷  -- E0
    f1 ∷ d2 ∷ d2 ∷ d2 ∷ d2 ∷ d2 ∷ d2 ∷ d2 ∷ d2 ∷ f1 ∷ f1 ∷ f1 ∷ f1 ∷ f1 ∷ ·· ∷ ·· ∷ []  -- F0

-- M5: "The body of 06 01, 04 0F, 06 0F and 06 D3 is a field list." M6: "The body of 06 21, 06 30, 06 31 and 06 50 is a password of three
-- bytes, then a field list." M7: "The body of every other pair is plain"
abbrev pub lists : List (ℕ × ℕ)
lists = (0x06, 0x01) ∷ (0x04, 0x0F) ∷ (0x06, 0x0F) ∷ (0x06, 0xD3) ∷ []

abbrev pub secured : List (ℕ × ℕ)
secured = (0x06, 0x21) ∷ (0x06, 0x30) ∷ (0x06, 0x31) ∷ (0x06, 0x50) ∷ []

unfoldable pub LaidOut : ℕ → ℕ → Layout → Type 0
LaidOut class instruction FieldList = In (class, instruction) lists
LaidOut class instruction Secured = In (class, instruction) secured
LaidOut class instruction Plain = (In (class, instruction) lists → ⊥) × (In (class, instruction) secured → ⊥)
