-- What the later calls of a payment make of it, by computing. A step of proofs, which nobody has to believe: what is due stands in
-- specs/believed/Due.antt. Definitions only.
use Prim.Native.Nat.{ℕ}
use mathlib.Core.List.{List, [], ◌∷◌}
use lib.Dec.{eqb}
use Rattle.std.proofs.Common.{None, Ok, Option, Result, Some}
use Rattle.basics.specs.Choice.{pick}
use Rattle.zvt_rules.specs.Reading.{Reading, got, refused}
use Rattle.zvt_rules.specs.Message.{header_size, Message, read_of}
use Rattle.zvt_rules.specs.Values.{status_of}
use Rattle.zvt_rules.specs.Heard.{first_byte}
use Rattle.zvt_rules.specs.declared.Status.{Status}
use Rattle.desk_rules.specs.declared.Outcome.TheVariants.{Unclear, Declined}
use Rattle.desk_rules.specs.declared.Lane.{Lane}
use Rattle.desk_rules.specs.declared.Moved.{Moved}
use Rattle.desk_rules.specs.declared.Moved.TheVariants.{Stays, Ends}
use Rattle.zvt_rules.specs.declared.Refusal.{Refusal}
use Rattle.desk_rules.specs.Course.{pair_is, completed_by, aborted_by, Call, opening, message, lost}

-- what is remembered after a message, and after messages
unfoldable pub or_else : Option ℕ → Status → Status → Status
or_else None new old = old
or_else (Some c) new old = new

unfoldable pub remembered : Status → List ℕ → Status
remembered status s = or_else (status_of s).code (status_of s) status

unfoldable pub recalled : Status → List (List ℕ) → Status
recalled status [] = status
recalled status (s ∷ ss) = recalled (remembered status s) ss

-- what a call makes of an open payment: 84 xx, 06 1E, 06 0F and a lost link end it
unfoldable pub verdict_of : Lane → Reading Message → Result Moved Refusal
verdict_of l (refused f) = Ok Stays
verdict_of l (got m) =
    pick (eqb m.class 0x84) (Ok (Ends Declined 0 m.instruction))
    (pick (pair_is m.class m.instruction 0x06 0x1E) (aborted_by (header_size m.long) (first_byte m.body))
    (pick (pair_is m.class m.instruction 0x06 0x0F) (completed_by l l.status.code) (Ok Stays)))

unfoldable pub verdict : Lane → Call → Result Moved Refusal
verdict l (opening i o) = Ok Stays
verdict l (message i s) = verdict_of l (read_of s)
verdict l (lost i) = Ok (Ends Unclear 0 0)
