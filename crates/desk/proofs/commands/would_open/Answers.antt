-- `desk::commands::would_open` meets its contract: the zeros behind the bytes change nothing. Assumes nothing.
use mathlib.Core.Path.{refl, ap, ◌∙◌}
use Rattle.desk_rules.specs.Openings.{most_command, supposed}
use Rattle.desk_rules.proofs.Recognised.{supposed-padded}
use Rattle.desk.proofs.CallLaws.{copied-front}
use Rattle.desk.proofs.commands.would_open.Goals as goal

pub returns : goal.returns
returns c =
    let s = c.args.s.now in
    let k = c.copy.ensures in
    c.supposed_in.ensures ∙ (ap supposed (copied-front s s _ _ _ refl c.requires k.size k.bytes) ∙ supposed-padded most_command s)
