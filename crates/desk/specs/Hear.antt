-- Steps of the code: what the steps of hearing a message answer. Definitions only.
use Rattle.std.specs.Prelude.{ℕ, ◌+◌, ◌*◌, false, eqb, Err, None, Ok, Option, Result, Some}
use Rattle.basics.specs.Choice.{pick}
use Rattle.basics.specs.Lists.{among}
use Rattle.zvt_rules.specs.Refusals.{not_allowed}
use Rattle.zvt_rules.specs.Message.{Heading}
use Rattle.zvt_rules.specs.declared.Status.{Status}
use Rattle.zvt_rules.specs.declared.ToldBody.{ToldBody}
use Rattle.zvt_rules.specs.declared.Heard.{Heard}
use Rattle.desk_rules.specs.declared.Lane.{Lane}
use Rattle.desk_rules.specs.declared.Moved.{Moved}
use Rattle.desk_rules.specs.declared.Moved.TheVariants.{Stays}
use Rattle.desk.specs.declared.hear.Said.{Said}
use Rattle.desk.specs.declared.hear.Said.TheVariants.{Completion, Abort, Report, Passing}
use Rattle.zvt_rules.specs.declared.Refusal.{Refusal}
use Rattle.desk_rules.specs.Course.{no_move, running_pairs, heard_waiting, completed_by, aborted_by, reported_by}

-- a header by its pair and its body's length
unfoldable pub header_by : Heard → Heading
header_by h = record { class = h.class; instruction = h.instruction; long = false; size = h.length }

-- what a pair says to a running lane
unfoldable pub said_by : ℕ → Option Said
said_by pair =
    pick (among running_pairs pair)
    (Some (pick (eqb pair 0x060F) Completion (pick (eqb pair 0x061E) Abort (pick (eqb pair 0x040F) Report Passing))))
    None

unfoldable pub waiting_moved : Lane → Heard → Result Moved Refusal
waiting_moved l h = heard_waiting l (header_by h)

unfoldable pub reported_as : Lane → Status → Result Moved Refusal
reported_as l status = reported_by l status status.code

unfoldable pub moved_for : Said → Lane → ℕ → ToldBody → Result Moved Refusal
moved_for Completion l start t = completed_by l l.status.code
moved_for Abort l start t = aborted_by start t.first
moved_for Report l start t = reported_as l t.status
moved_for Passing l start t = Ok Stays

unfoldable pub after_told : Said → Lane → ℕ → Result ToldBody Refusal → Result Moved Refusal
after_told said l start (Err r) = Err r
after_told said l start (Ok t) = moved_for said l start t

-- a pair that is not allowed is refused before the body (15)
unfoldable pub running_for : Option Said → Lane → ℕ → Result ToldBody Refusal → Result Moved Refusal
running_for None l start told = no_move not_allowed
running_for (Some said) l start told = after_told said l start told

unfoldable pub running_moved : Lane → Heard → Result Moved Refusal
running_moved l h = running_for (said_by (h.class * 256 + h.instruction)) l h.start h.told
