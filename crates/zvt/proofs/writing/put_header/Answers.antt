-- `put_header` meets its contract, form by form. Assumes nothing.
use mathlib.Core.Path.{◌≡◌}
use mathlib.Core.List.{[], ◌∷◌}
use Prim.Native.Nat.{ℕ, ◌/◌, ◌%◌, ◌<◌, ◌≤◌}
use native.Mathlib.Nat.{mod-eq_of_lt}
use native.Mathlib.Omega.{arith}
use borrow.Author.Tests.{lt-leb, le-leb}
use Rattle.std.proofs.Common.{ap, ◌∙◌, List, get_or}
use Rattle.zvt_rules.specs.believed.Writing.{length_bytes}
use Rattle.zvt.specs.WritingSteps.{header_bytes}
use Rattle.zvt.proofs.Back.{fits-as, put_as}
use Rattle.zvt.proofs.writing.put_header.Goals as goal

short-is : (class instruction v : ℕ) → v < 255 → class ∷ (instruction ∷ ((v % 256) ∷ [])) ≡ header_bytes class instruction v
unfolding header_bytes length_bytes
short-is class instruction v h = let k : v < 256 = omega arith in rw (lt-leb 255 v h, mod-eq_of_lt k)

long-is : (class instruction v : ℕ) → 255 ≤ v → v < 65536
    → class ∷ (instruction ∷ (0xFF ∷ ((v % 256) ∷ ((v / 256 % 256) ∷ [])))) ≡ header_bytes class instruction v
unfolding header_bytes length_bytes
long-is class instruction v h l = let k : v / 256 < 256 = omega arith in rw (le-leb 255 v h, mod-eq_of_lt k)

pub put-requires : goal.put-requires
put-requires c =
    let a = c.args in
    fits-as (short-is a.class a.instruction a.v c.if-v-lt255.true) c.requires.1

pub returns-then-v-lt255 : goal.returns-then-v-lt255
returns-then-v-lt255 c =
    let a = c.args in
    put_as
    (ap (λ (b : List ℕ). a.class ∷ (a.instruction ∷ (get_or b 0 0 ∷ []))) c.to_le_bytes.ensures
    ∙ short-is a.class a.instruction a.v c.if-v-lt255.true)
    c.put.ensures

pub put-requires-2 : goal.put-requires-2
put-requires-2 c =
    let a = c.args in
    fits-as (long-is a.class a.instruction a.v c.if-v-lt255.false c.requires.0) c.requires.1

pub returns : goal.returns
returns c =
    let a = c.args in
    put_as
    (ap (λ (b : List ℕ). a.class ∷ (a.instruction ∷ (0xFF ∷ (get_or b 0 0 ∷ (get_or b 1 0 ∷ []))))) c.to_le_bytes.ensures
    ∙ long-is a.class a.instruction a.v c.if-v-lt255.false c.requires.0)
    c.put-2.ensures
