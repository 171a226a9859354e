-- Questions to a kind, an outcome and a phase. Definitions only.
use Rattle.std.specs.Prelude.{Bool, true, false}
use Rattle.desk_rules.specs.declared.Kind.{Kind}
use Rattle.desk_rules.specs.declared.Kind.TheVariants.{Sale, Refund, Reversal}
use Rattle.desk_rules.specs.declared.Outcome.{Outcome}
use Rattle.desk_rules.specs.declared.Outcome.TheVariants.{Unclear, Declined, Approved}
use Rattle.desk_rules.specs.declared.Phase.{Phase}
use Rattle.desk_rules.specs.declared.Phase.TheVariants.{Idle, Waiting, Running}

abbrev pub is_sale : Kind → Bool
is_sale Sale = true
is_sale Refund = false
is_sale Reversal = false

abbrev pub is_reversal : Kind → Bool
is_reversal Sale = false
is_reversal Refund = false
is_reversal Reversal = true

-- P3, P29: whether an open lane of that kind takes a line of the book, and its end writes it
abbrev pub booked : Kind → Bool
booked Sale = true
booked Refund = true
booked Reversal = true

abbrev pub is_approved : Outcome → Bool
is_approved Unclear = false
is_approved Declined = false
is_approved Approved = true

abbrev pub is_idle : Phase → Bool
is_idle Idle = true
is_idle Waiting = false
is_idle Running = false
