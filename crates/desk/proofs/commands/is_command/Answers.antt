-- `desk::commands::is_command` meets its contract: what is compared is the start of the buffer, where the command stands. Assumes
-- nothing.
use mathlib.Core.Path.{◌≡◌, sym, ap, ◌∙◌}
use mathlib.Core.List.{List}
use Prim.Native.Nat.{ℕ, ◌≤◌}
use native.Mathlib.Omega.{arith}
use lib.ListN.{length, take, length-append}
use lib.Seq.{take_at}
use Rattle.basics.specs.Buffers.{front}
use Rattle.desk_rules.specs.declared.Opening.{Opening}
use Rattle.desk_rules.specs.Openings.{command_bytes, command_size, same}
use Rattle.desk_rules.proofs.Commands.{command-size, size-most}
use Rattle.desk.proofs.DeskLaws.{same-pointwise}
use Rattle.desk.proofs.commands.is_command.Goals as goal

at-start : (o : Opening) (size : ℕ) (b out : List ℕ) → size ≡ command_size o → b ≡ front (command_bytes o) out
    → (size ≤ length b) × (take size b ≡ command_bytes o)
at-start o size b out n e =
    (omega (arith, command-size o, simp length-append at (ap length e)), rw e (take_at _ _ size (command-size o ∙ sym n)))

pub put_command-requires : goal.put_command-requires
put_command-requires c = let o = c.args.opening in omega (arith, command-size o, size-most o)

pub returns : goal.returns
returns c =
    c.eq.ensures
    ∙ same-pointwise _ _
    ∙ ap (same _) (at-start _ _ _ _ c.command_size.ensures c.put_command.ensures).1
