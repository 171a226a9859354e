-- `zvt::format::format_of` meets its contract, by its table. Assumes nothing.
use mathlib.Core.Path.{◌≡◌, refl}
use mathlib.Core.Bool.{true, ◌||◌}
use mathlib.Core.List.{List, [], ◌∷◌}
use Prim.Native.Nat.{ℕ, ◌+◌, ◌*◌, ◌/◌, ◌%◌, ◌<◌, ◌≤◌}
use native.Mathlib.Omega.{arith}
use lib.Dec.{eqb}
use Rattle.zvt_rules.specs.declared.Format.{Format}
use Rattle.zvt_rules.specs.declared.Format.TheVariants.{Unknown, Fixed, Digits, Container}
use Rattle.basics.specs.Choice.{pick}
use Rattle.basics.specs.Lists.{among}
use Rattle.zvt_rules.specs.Fields.{format_of}
use Rattle.basics.proofs.Tests.{all_from}
use Rattle.zvt.proofs.Tables.{all_in, any_of, Table, keyed, ranged}
use borrow.Author.Rules.{rules}
use types.Run.{OneOf}
use Rattle.zvt.proofs.format.format_of.Goals as goal

unfoldable code : Format → ℕ
code Unknown = 0
code (Fixed k) = k * 3 + 1
code (Digits d) = d * 3 + 2
code Container = 3

unfoldable back : ℕ → Format
back n = pick (eqb (n % 3) 1) (Fixed (n / 3)) (pick (eqb (n % 3) 2) (Digits (n / 3)) (pick (eqb n 0) Unknown Container))

same : (f : Format) → back (code f) ≡ f
unfolding code back
same Unknown = refl
same (Fixed k) = let r : (k * 3 + 1) % 3 ≡ 1 = omega arith in let q : (k * 3 + 1) / 3 ≡ k = omega arith in rw (r, q)
same (Digits d) = let r : (d * 3 + 2) % 3 ≡ 2 = omega arith in let q : (d * 3 + 2) / 3 ≡ d = omega arith in rw (r, q)
same Container = refl

abbrev formats : Table Format
formats = record { at = λ id. format_of id; code = λ f. code f; back = λ n. back n; same = same }

-- at the numbers from a on that are none of ks
module _ (ks : List ℕ) (f : Format) (a n x : ℕ) where
  beside : all_from (λ k. any_of (ks ∷ []) k || eqb (code f) (code (format_of k))) a n ≡ true → (OneOf ks x → ⊥)
      → (a ≤ x) × (x < a + n) → f ≡ format_of x
  beside e none h = ranged formats (ks ∷ []) f a n x e (tt, none) h

pub returns-in-186 : goal.returns-in-186
unfolding all_in all_from any_of among format_of code
returns-in-186 c = keyed formats (Fixed 5) (0xBA ∷ []) _ refl c.in-186.is

pub returns-in-4 : goal.returns-in-4
unfolding all_in all_from any_of among format_of code
returns-in-4 c = keyed formats (Fixed 6) (0x04 ∷ []) _ refl c.in-4.is

pub returns-in-59 : goal.returns-in-59
unfolding all_in all_from any_of among format_of code
returns-in-59 c = keyed formats (Fixed 8) (0x3B ∷ 0xEB ∷ []) _ refl c.in-59.is

pub returns-in-42 : goal.returns-in-42
unfolding all_in all_from any_of among format_of code
returns-in-42 c = keyed formats (Fixed 15) (0x2A ∷ []) _ refl c.in-42.is

pub returns-in-36 : goal.returns-in-36
unfolding all_in all_from any_of among format_of code
returns-in-36 c = keyed formats (Digits 3) (0x24 ∷ 0x2E ∷ 0x3C ∷ 0x60 ∷ 0x92 ∷ 0x9A ∷ 0xAF ∷ []) _ refl c.in-36.is

pub returns-in-6 : goal.returns-in-6
unfolding all_in all_from any_of among format_of code
returns-in-6 c = keyed formats Container (0x06 ∷ []) _ refl c.in-6.is

pub returns-in-41 : goal.returns-in-41
unfolding all_in all_from any_of among format_of code
returns-in-41 c = keyed formats (Fixed 4) (0x29 ∷ []) _ refl c.in-41.is

pub returns-in-34 : goal.returns-in-34
unfolding all_in all_from any_of among format_of code
returns-in-34 c = keyed formats (Digits 2) (0x2D ∷ 0x4C ∷ 0x8B ∷ 0xA7 ∷ 0xD1 ∷ []) c.args.id refl (search rules)

pub returns-in-13 : goal.returns-in-13
unfolding all_in all_from any_of among format_of code
returns-in-13 c = keyed formats (Fixed 2) (0x17 ∷ 0x3A ∷ 0x49 ∷ 0x87 ∷ []) _ refl c.in-13.is

pub returns-in-11 : goal.returns-in-11
unfolding all_in all_from any_of among format_of code
returns-in-11 c = keyed formats (Fixed 3) (0x37 ∷ 0x3D ∷ 0x88 ∷ 0xAA ∷ []) _ refl c.in-11.is

pub returns-in-1 : goal.returns-in-1
unfolding all_in all_from any_of among format_of code
returns-in-1 c =
    keyed formats (Fixed 1) (0x05 ∷ 0x19 ∷ 0x27 ∷ 0x8A ∷ 0x8C ∷ 0xA0 ∷ 0xD0 ∷ 0xE0 ∷ 0xF0 ∷ []) c.args.id refl (search rules)

pub returns-in_default : goal.returns-in_default
unfolding all_in all_from any_of among format_of code
returns-in_default c = beside [] Unknown 0x00 1 c.args.id refl (λ h. h) (omega arith)

pub returns-in_default-2 : goal.returns-in_default-2
unfolding all_in all_from any_of among format_of code
returns-in_default-2 c = beside (0x04 ∷ 0x05 ∷ 0x06 ∷ []) Unknown 0x04 7 c.args.id refl (λ h. grind arith) (omega arith)

pub returns-in_default-3 : goal.returns-in_default-3
unfolding all_in all_from any_of among format_of code
returns-in_default-3 c = beside (0x17 ∷ 0x19 ∷ []) Unknown 0x0F 19 c.args.id refl (λ h. grind arith) (omega arith)

pub returns-in_default-4 : goal.returns-in_default-4
unfolding all_in all_from any_of among format_of code
returns-in_default-4 c =
    beside (0x24 ∷ 0x27 ∷ 0x29 ∷ 0x2A ∷ 0x2D ∷ 0x2E ∷ 0x37 ∷ 0x3A ∷ 0x3B ∷ 0x3C ∷ 0x3D ∷ 0x49 ∷ 0x4C ∷ 0x60 ∷ [])
    Unknown 0x24 76 c.args.id refl (λ h. grind arith) (omega arith)

pub returns-in_default-5 : goal.returns-in_default-5
unfolding all_in all_from any_of among format_of code
returns-in_default-5 c =
    beside (0x87 ∷ 0x88 ∷ 0x8A ∷ 0x8B ∷ 0x8C ∷ 0x92 ∷ 0x9A ∷ 0xA0 ∷ 0xA7 ∷ 0xAA ∷ 0xAF ∷ 0xBA ∷ [])
    Unknown 0x76 90 c.args.id refl (λ h. grind arith) (omega arith)

pub returns-in_default-6 : goal.returns-in_default-6
unfolding all_in all_from any_of among format_of code
returns-in_default-6 c = beside [] Unknown 0xD4 12 c.args.id refl (λ h. h) (omega arith)

pub returns-in_default-7 : goal.returns-in_default-7
unfolding all_in all_from any_of among format_of code
returns-in_default-7 c = beside (0xEB ∷ []) Unknown 0xEB 5 c.args.id refl (λ h. grind arith) (omega arith)

pub returns-in_default-8 : goal.returns-in_default-8
unfolding all_in all_from any_of among format_of code
returns-in_default-8 c = beside [] Unknown 0xFE 2 c.args.id refl (λ h. h) (omega arith)

pub returns-in-41-2 : goal.returns-in-41-2
unfolding all_in all_from any_of among format_of code
returns-in-41-2 c = beside [] (Fixed 4) 0x70 2 c.args.id refl (λ h. h) (omega arith)

pub returns-in-34-2 : goal.returns-in-34-2
unfolding all_in all_from any_of among format_of code
returns-in-34-2 c = beside [] (Digits 2) 0x22 2 c.args.id refl (λ h. h) (omega arith)

pub returns-in-34-3 : goal.returns-in-34-3
unfolding all_in all_from any_of among format_of code
returns-in-34-3 c = beside (0xE0 ∷ []) (Digits 2) 0xE0 9 c.args.id refl (λ h. grind arith) (omega arith)

pub returns-in-34-4 : goal.returns-in-34-4
unfolding all_in all_from any_of among format_of code
returns-in-34-4 c = beside (0xF0 ∷ []) (Digits 2) 0xF0 9 c.args.id refl (λ h. grind arith) (omega arith)

pub returns-in-13-2 : goal.returns-in-13-2
unfolding all_in all_from any_of among format_of code
returns-in-13-2 c = beside [] (Fixed 2) 0x0D 2 c.args.id refl (λ h. h) (omega arith)

pub returns-in-11-2 : goal.returns-in-11-2
unfolding all_in all_from any_of among format_of code
returns-in-11-2 c = beside [] (Fixed 3) 0x0B 2 c.args.id refl (λ h. h) (omega arith)

pub returns-in-1-2 : goal.returns-in-1-2
unfolding all_in all_from any_of among format_of code
returns-in-1-2 c = beside [] (Fixed 1) 0x01 3 c.args.id refl (λ h. h) (omega arith)

pub returns-in-1-3 : goal.returns-in-1-3
unfolding all_in all_from any_of among format_of code
returns-in-1-3 c = beside [] (Fixed 1) 0x72 4 c.args.id refl (λ h. h) (omega arith)

pub returns-in-1-4 : goal.returns-in-1-4
unfolding all_in all_from any_of among format_of code
returns-in-1-4 c = beside (0xD0 ∷ 0xD1 ∷ []) (Fixed 1) 0xD0 4 c.args.id refl (λ h. grind arith) (omega arith)

pub returns-in-1-5 : goal.returns-in-1-5
unfolding all_in all_from any_of among format_of code
returns-in-1-5 c = beside [] (Fixed 1) 0xE9 2 c.args.id refl (λ h. h) (omega arith)

pub returns-in-1-6 : goal.returns-in-1-6
unfolding all_in all_from any_of among format_of code
returns-in-1-6 c = beside [] (Fixed 1) 0xF9 5 c.args.id refl (λ h. h) (omega arith)
