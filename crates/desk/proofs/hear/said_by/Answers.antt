-- `desk::hear::said_by` meets its contract. Assumes nothing.
use Rattle.std.proofs.Common.{sym, rules, arith}
use Rattle.basics.specs.Lists.{among}
use Rattle.desk.specs.Hear.{said_by}
use Rattle.desk.proofs.HearLaws.{passing-said, none_said}
use Rattle.desk.proofs.hear.said_by.Goals as goal

pub returns-in-1551 : goal.returns-in-1551
unfolding said_by among
returns-in-1551 c = search rules

pub returns-in-1566 : goal.returns-in-1566
unfolding said_by among
returns-in-1566 c = search rules

pub returns-in-1039 : goal.returns-in-1039
unfolding said_by among
returns-in-1039 c = search rules

pub returns-in-1279 : goal.returns-in-1279
returns-in-1279 c = rw (← c.from_be_bytes.ensures) (sym (passing-said _ c.in-1279.is))

pub returns-in_default : goal.returns-in_default
returns-in_default c = rw (← c.from_be_bytes.ensures) (sym (none_said _ (λ h. grind arith)))
