-- Which message bytes are, and what a status information tells, by the bytes that say it. Definitions only.
use Rattle.std.specs.Prelude.{◌≡◌, Bool, List, [], ℕ}
use Rattle.basics.specs.believed.Lists.{In}
use Rattle.zvt_rules.specs.Fields.{Field, plain}
use Rattle.zvt_rules.specs.Message.{listed, Message}
use Rattle.zvt_rules.specs.believed.Writing.{message_bytes}
use Rattle.zvt_rules.specs.believed.Grammar.{MessageOk}
use Rattle.zvt_rules.specs.believed.Digits.{Spells}

-- the bytes s are the message m, which keeps the limits
abbrev pub Is : List ℕ → Message → Type 0
Is s m = (message_bytes m ≡ s) × MessageOk m

-- M13: "a status information (04 0F)": the bytes s are one, and that field stands in its list
unfoldable pub Tells : List ℕ → ℕ → List ℕ → Type 0
Tells s id value = (long : Bool) × (fs : List Field) × Is s (record { class = 0x04; instruction = 0x0F; long = long; body = listed [] fs })
    × In (plain id value) fs

-- P20: "amount (04) and receipt (87)": the number that such a field spells
abbrev pub TellsNumber : List ℕ → ℕ → ℕ → Type 0
TellsNumber s id n = (value : List ℕ) × Tells s id value × Spells value n
