-- A choice. Definitions only.
use Rattle.std.specs.Prelude.{Bool, true, false}

-- the one or the other, by a test
abbrev pub pick : {A : Type 0} → Bool → A → A → A
pick true a b = a
pick false a b = b
