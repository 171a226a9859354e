-- `put_body` meets its contract, layout by layout. Assumes nothing.
use mathlib.Core.Path.{◌≡◌, refl, sym}
use mathlib.Core.List.{◌++◌}
use Prim.Native.Nat.{◌-◌, ◌≤◌}
use native.Mathlib.Omega.{arith}
use lib.ListN.{length, take, drop, length-take, length-drop}
use lib.Seq.{length-take-le}
use Rattle.zvt_rules.proofs.ObjectReading.{tail}
use Rattle.zvt.specs.WritingSteps.{ListReads, short_list_of, short_body_of}
use Rattle.zvt.proofs.Slices.{bytes-known}
use Rattle.zvt.proofs.Back.{fits-as, put_as, rest-fits, first-room, first-put}
use Rattle.zvt.proofs.ShortBodies.{plain-short, list-short, secured-short}
use Rattle.zvt.proofs.writing.put_body.Goals as goal
use Rattle.zvt.proofs.writing.put_body.Goals.{In-Secured}

-- ---- plain bytes
pub put-requires : goal.put-requires
put-requires c = fits-as (plain-short c.args.layout c.args.s.now c.in-Plain.is) c.requires.2

pub returns-in-Plain : goal.returns-in-Plain
returns-in-Plain c = put_as (plain-short c.args.layout c.args.s.now c.in-Plain.is) c.put.ensures

-- ---- a list
pub put_list-requires : goal.put_list-requires
put_list-requires c =
    let f = list-short c.args.layout c.args.s.now c.in-List.is c.requires.1 in
    (c.requires.0, f.0, fits-as (sym f.1) c.requires.2)

pub returns-in-List : goal.returns-in-List
returns-in-List c = put_as (sym (list-short c.args.layout c.args.s.now c.in-List.is c.requires.1).1) c.put_list.ensures

-- ---- a password, and a list behind it
secured : (c : In-Secured) → (3 ≤ length c.args.s.now) × ListReads (drop 3 c.args.s.now)
    × (short_body_of c.args.layout c.args.s.now ≡ take 3 c.args.s.now ++ short_list_of (drop 3 c.args.s.now))
secured c = secured-short _ _ (bytes-known _ c.type_inv.s) c.in-Secured.is c.requires.1

pub slice_bounds-put_list-count : goal.slice_bounds-put_list-count
slice_bounds-put_list-count c = (secured c).0

pub slice_bounds-put_list-start : goal.slice_bounds-put_list-start
slice_bounds-put_list-start c = (secured c).0

pub put_list-left-requires : goal.put_list-left-requires
put_list-left-requires c =
    let f = secured (goal.at.put_list-left-requires c).In-Secured in
    let s = c.args.s.now in
    let l = length-drop 3 s in
    let m = length-take (length s - 3) (drop 3 s) in
    (omega (arith, c.requires.0), rw (tail 3 s) f.1, rest-fits short_list_of (take 3 s) s c.args.out.now 3 f.2 c.requires.2)

pub slice_bounds-put-end : goal.slice_bounds-put-end
slice_bounds-put-end c = sym (length-take-le 3 c.args.s.now (secured (goal.at.slice_bounds-put-end c).In-Secured).0)

pub put-requires-in-Secured : goal.put-requires-in-Secured
put-requires-in-Secured c =
    let f = secured (goal.at.put-requires-in-Secured c).In-Secured in
    first-room short_list_of _ c.args.s.now _ 3 f.2 c.requires.2 c.put_list-left.ensures refl

pub returns-in-Secured : goal.returns-in-Secured
returns-in-Secured c =
    let f = secured (goal.at.returns-in-Secured c).In-Secured in
    first-put short_list_of _ c.args.s.now _ 3 f.2 c.requires.2 c.put_list-left.ensures refl c.put-in-Secured.ensures
