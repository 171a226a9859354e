-- `zvt::format::holds_digits` meets its contract, by its table. Assumes nothing.
use mathlib.Core.Path.{◌≡◌, refl}
use mathlib.Core.Bool.{Bool, true, false}
use mathlib.Core.List.{List, [], ◌∷◌}
use Prim.Native.Nat.{ℕ}
use native.Mathlib.Omega.{arith}
use lib.Dec.{eqb}
use Rattle.basics.specs.Choice.{pick}
use Rattle.basics.specs.Lists.{among}
use Rattle.zvt_rules.specs.Fields.{holds_digits}
use Rattle.basics.proofs.Tests.{all_from}
use Rattle.zvt.proofs.Tables.{all_in, any_of, Table, keyed, ranged}
use Rattle.zvt.proofs.format.holds_digits.Goals as goal

back : (b : Bool) → eqb (pick b 1 0) 1 ≡ b
back true = refl
back false = refl

abbrev digits : Table Bool
digits = record { at = λ id. holds_digits id; code = λ b. pick b 1 0; back = λ n. eqb n 1; same = back }

abbrev singles : List ℕ
singles = 0x04 ∷ 0x0B ∷ 0x37 ∷ 0x49 ∷ []

pub returns-in_default : goal.returns-in_default
unfolding all_in all_from any_of among
returns-in_default c = ranged digits (singles ∷ []) false 0 135 c.args.id refl (tt, λ h. omega arith) (omega arith)

pub returns-in_default-2 : goal.returns-in_default-2
unfolding all_in all_from any_of among
returns-in_default-2 c =
    ranged digits (singles ∷ []) false 137 119 c.args.id refl (tt, λ h. omega arith) (omega arith)

pub returns-in-4 : goal.returns-in-4
unfolding all_in all_from any_of among
returns-in-4 c = keyed digits true singles _ refl c.in-4.is

pub returns-in-4-2 : goal.returns-in-4-2
unfolding all_in all_from any_of among
returns-in-4-2 c = ranged digits (singles ∷ []) true 135 2 c.args.id refl (tt, λ h. omega arith) (omega arith)
