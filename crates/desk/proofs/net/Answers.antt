-- `desk::net` meets its contract. Assumes nothing.
use Rattle.std.proofs.Common.{◌∙◌, ◌<◌, ◌^◌, arith, sum_by}
use mir.Facts.{to_z-of_z}
use Rattle.desk_rules.specs.declared.Desk.{Desk}
use Rattle.desk_rules.specs.Memory.{Valid, lines_of_desk}
use Rattle.desk_rules.specs.Turnover.{gain, loss, net_of}
use Rattle.desk_rules.proofs.Sums.{gains-most, losses-most}
use Rattle.desk.proofs.DeskLaws.{total-sum, signed, difference-fits}
use Rattle.desk.proofs.net.Goals as goal

-- both sums fit a signed number
small : (d : Desk) → Valid d → (sum_by gain (lines_of_desk d) < 2 ^ 63) × (sum_by loss (lines_of_desk d) < 2 ^ 63)
small d v =
    let k = d.book.count in (
      omega (arith, total-sum gain (lines_of_desk d), gains-most d v k, v.lines_fit),
      omega (arith, total-sum loss (lines_of_desk d), losses-most d v k, v.lines_fit),
    )

pub gains-requires : goal.gains-requires
gains-requires c = (small c.args.desk c.requires).0

pub losses-requires : goal.losses-requires
losses-requires c = (small c.args.desk c.requires).1

pub overflow_cast-result : goal.overflow_cast-result
overflow_cast-result c = record { sfits = rw c.gains.ensures (small c.args.desk c.requires).0 }

pub overflow_cast-result-2 : goal.overflow_cast-result-2
overflow_cast-result-2 c = record { sfits = rw c.losses.ensures (small c.args.desk c.requires).1 }

pub overflow_sub-result : goal.overflow_sub-result
overflow_sub-result c =
    let n = small c.args.desk c.requires in
    rw (c.gains.ensures, c.losses.ensures, signed _ n.0, signed _ n.1) (difference-fits _ _ n.0 n.1)

pub returns : goal.returns
unfolding net_of
returns c =
    let n = small c.args.desk c.requires in
    let ls = lines_of_desk c.args.desk in
    to_z-of_z (overflow_sub-result c)
    ∙ rw (c.gains.ensures, c.losses.ensures, signed _ n.0, signed _ n.1, total-sum gain ls, total-sum loss ls)
