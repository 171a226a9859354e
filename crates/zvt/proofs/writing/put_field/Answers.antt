-- `put_field` meets its contract: a container is put as a branch is, any other field as it stands. Assumes nothing.
use mathlib.Core.Path.{◌≡◌}
use mathlib.Core.Bool.{true, false}
use mathlib.Core.List.{List}
use Prim.Native.Nat.{ℕ}
use native.Mathlib.Omega.{arith}
use lib.ListN.{take}
use Rattle.basics.specs.Lists.{part}
use Rattle.zvt_rules.proofs.ObjectReading.{part_length}
use Rattle.zvt.specs.declared.objects.Bounds.{Bounds}
use Rattle.zvt.specs.WritingSteps.{value_bytes, short_run_of, short_field_of}
use Rattle.zvt.proofs.Back.{fits-as, put_as}
use Rattle.zvt.proofs.writing.put_field.Goals as goal

as-branch : (s : List ℕ) (b : Bounds) → b.nested ≡ true → value_bytes (take 1 s) (short_run_of (part b.from b.to s)) ≡ short_field_of b s
unfolding short_field_of
as-branch s b e = rw e

as-it-stands : (s : List ℕ) (b : Bounds) → b.nested ≡ false → take b.to s ≡ short_field_of b s
unfolding short_field_of
as-it-stands s b e = rw e

pub put_branch-requires : goal.put_branch-requires
put_branch-requires c =
    let s = c.args.s.now in
    let b = c.args.b in
    let run = c.if-b.true in
    let l = part_length s b.from b.to c.requires.2 c.requires.3 in
    (omega (arith, c.requires.0, c.requires.3), c.requires.4 run, fits-as (as-branch s b run) c.requires.5)

pub put-requires : goal.put-requires
put-requires c =
    fits-as (as-it-stands c.args.s.now c.args.b c.if-b.false) c.requires.5

pub returns-then-b : goal.returns-then-b
returns-then-b c =
    put_as (as-branch c.args.s.now c.args.b c.if-b.true) c.put_branch.ensures

pub returns-else-b : goal.returns-else-b
returns-else-b c =
    put_as (as-it-stands c.args.s.now c.args.b c.if-b.false) c.put.ensures
