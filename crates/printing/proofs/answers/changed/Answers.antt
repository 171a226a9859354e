-- `printing::answers::changed`: not so many bytes, or one behind them that was changed. Assumes nothing.
use mathlib.Core.Path.{◌≡◌, ◌∙◌}
use mathlib.Core.Bool.{not}
use Prim.Native.Nat.{◌-◌}
use lib.ListN.{length, take, drop}
use lib.Dec.{eqb}
use borrow.Author.Tests.{le-ltb}
use Rattle.std.proofs.Common.{rules}
use Rattle.std.specs.List.{list_any}
use Rattle.std.proofs.lemmas.Iterator.{YieldsList-from_slice}
use Rattle.std.proofs.lemmas.Iterator.Search.{any_from_yields_List}
use Rattle.zvt_rules.proofs.ObjectReading.{tail}
use Rattle.printing.proofs.answers.changed.Goals as goal

pub returns-else-lent-n : goal.returns-else-lent-n
returns-else-lent-n c =
    let n = c.args.n in
    let lent = c.args.lent.now in
    let any : c.any.result ≡ list_any (λ b. not (eqb b 0xC3)) (take (length lent - n) (drop n lent)) =
    any_from_yields_List _ _ _ _ c.any.ensures.ran (YieldsList-from_slice _ c.iter.ensures.rest) (λ x b q k. search rules) in
    any ∙ rw (le-ltb (length lent) n c.if-lent-n.false, tail n lent)
