-- What is said of every public function: its calls end, and its caller has nothing to test beforehand but what is named. Definitions only.
use Rattle.std.specs.Prelude.{◌≡◌}

-- Its own theorem, in every model of memory: a call of it ends, reads and writes only what it was lent, and answers as its contract
-- states.
abbrev pub Ends : (Type 1 → Type 2) → Type 2
Ends statement = (M : Type 1) → statement M

-- What it asks of its caller, for the arguments of a call: nothing.
abbrev pub AsksNothing : {K : Type 0} {A : K → Type 0} → ((κs : K) → A κs → Type 0) → Type 1
AsksNothing Asked = (κs : _) (a : _) → Asked κs a ≡ Unit {0}

-- That the desk, its first argument, is valid, and nothing else.
abbrev pub AsksDesk : {K D : Type 0} {A : K → Type 0} → (D → Type 0) → ((κs : K) → D × A κs → Type 0) → Type 1
AsksDesk valid Asked = (κs : _) (a : _) → Asked κs a ≡ valid a.0
