-- `put_len` meets its contract, form by form. Assumes nothing.
use mathlib.Core.Path.{◌≡◌}
use mathlib.Core.List.{[], ◌∷◌}
use Prim.Native.Nat.{ℕ, ◌/◌, ◌%◌, ◌<◌, ◌≤◌}
use native.Mathlib.Nat.{mod-eq_of_lt}
use native.Mathlib.Omega.{arith}
use borrow.Author.Tests.{lt-ltb, le-ltb}
use Rattle.std.proofs.Common.{ap, ◌∙◌, List, get_or}
use Rattle.zvt_rules.specs.believed.Writing.{len_bytes}
use Rattle.zvt_rules.specs.Shortest.{form_for}
use Rattle.zvt.proofs.Back.{fits-as, put_as}
use Rattle.zvt.proofs.writing.put_len.Goals as goal

bare-is : (v : ℕ) → v < 128 → (v % 256) ∷ [] ≡ len_bytes (form_for v) v
unfolding len_bytes form_for
bare-is v h = let k : v < 256 = omega arith in rw (lt-ltb v 128 h, mod-eq_of_lt k)

one-is : (v : ℕ) → 128 ≤ v → v < 256 → 0x81 ∷ ((v % 256) ∷ []) ≡ len_bytes (form_for v) v
unfolding len_bytes form_for
one-is v h l = rw (le-ltb v 128 h, lt-ltb v 256 l, mod-eq_of_lt l)

two_is : (v : ℕ) → 256 ≤ v → v < 65536 → 0x82 ∷ ((v / 256 % 256) ∷ ((v % 256) ∷ [])) ≡ len_bytes (form_for v) v
unfolding len_bytes form_for
two_is v h l =
    let k : v / 256 < 256 = omega arith in
    let m : 128 ≤ v = omega arith in
    rw (le-ltb v 128 m, le-ltb v 256 h, mod-eq_of_lt k)

pub put-requires : goal.put-requires
put-requires c =
    fits-as (bare-is c.args.v c.if-v-lt128.true) c.requires.1

pub returns-then-v-lt128 : goal.returns-then-v-lt128
returns-then-v-lt128 c =
    put_as (ap (λ (b : List ℕ). get_or b 1 0 ∷ []) c.to_be_bytes.ensures ∙ bare-is c.args.v c.if-v-lt128.true) c.put.ensures

pub put-requires-then-v-lt256 : goal.put-requires-then-v-lt256
put-requires-then-v-lt256 c =
    fits-as (one-is c.args.v c.if-v-lt128.false c.if-v-lt256.true) c.requires.1

pub returns-then-v-lt256 : goal.returns-then-v-lt256
returns-then-v-lt256 c =
    put_as (ap (λ (b : List ℕ). 0x81 ∷ (get_or b 1 0 ∷ [])) c.to_be_bytes.ensures ∙ one-is c.args.v c.if-v-lt128.false c.if-v-lt256.true)
    c.put-then-v-lt256.ensures

pub put-requires-2 : goal.put-requires-2
put-requires-2 c =
    fits-as (two_is c.args.v c.if-v-lt256.false c.requires.0) c.requires.1

pub returns : goal.returns
returns c =
    put_as
    (ap (λ (b : List ℕ). 0x82 ∷ (get_or b 0 0 ∷ (get_or b 1 0 ∷ []))) c.to_be_bytes.ensures
    ∙ two_is c.args.v c.if-v-lt256.false c.requires.0)
    c.put-2.ensures
