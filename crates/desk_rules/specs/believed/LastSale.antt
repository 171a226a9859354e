-- P12: "A reversal needs a sale: of the approved sale and reversal lines of its lane with that receipt, the last must be a sale. Other
-- lines do not count." Definitions only.
use Rattle.std.specs.Prelude.{◌≡◌, ◌⊎◌, List, [], ◌∷◌, ◌++◌, ℕ}
use Rattle.desk_rules.specs.declared.Kind.TheVariants.{Sale, Reversal}
use Rattle.desk_rules.specs.declared.Outcome.TheVariants.{Approved}
use Rattle.desk_rules.specs.declared.Line.{Line}

-- of a list: none of which P holds, and the last of which P holds
unfoldable pub NoneOf : {A : Type 0} → (A → Type 0) → List A → Type 0
NoneOf P [] = Unit {0}
NoneOf P (x ∷ xs) = (P x → ⊥) × NoneOf P xs

pub record Last {A : Type 0} (P : A → Type 0) (xs : List A) (x : A) : Type 0 where
  pub before : List A
  pub after : List A
  pub all : xs ≡ before ++ (x ∷ after)
  pub holds : P x
  pub later : NoneOf P after

-- "the approved sale and reversal lines of its lane with that receipt"
abbrev pub Concerned : ℕ → ℕ → Line → Type 0
Concerned i receipt l = (l.lane ≡ i) × ((l.receipt ≡ receipt) × ((l.outcome ≡ Approved) × ((l.kind ≡ Sale) ⊎ (l.kind ≡ Reversal))))

-- "the last must be a sale": the sale that a reversal names
pub record Named (i receipt : ℕ) (lines : List Line) (sold : Line) : Type 0 where
  pub last : Last (Concerned i receipt) lines sold
  pub sale : sold.kind ≡ Sale
