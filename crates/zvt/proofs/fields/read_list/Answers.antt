-- `zvt::fields::read_list` meets its contract. Assumes nothing.
use Rattle.std.proofs.Common.{◌≡◌, [], ◌∷◌, length, sym, ◌∙◌, arith, rules}
use Rattle.basics.proofs.Exits.{handed-on}
use Rattle.zvt.specs.FieldSteps.{field_located}
use Rattle.zvt.proofs.Parts.{part-bytes, of-part}
use Rattle.zvt.proofs.FieldReads.{field-read, field-refused, from-inside}
use Rattle.zvt.proofs.ListLaws.{marks-none, marks-more, GoesOn, list-begins, list-ends, list-stops, list-goes-on, Listing, list-notes}
use Rattle.zvt.proofs.WalkLaws.{list-located, list-stopped, noting-begins, noting-goes, noting-ends, noted-size}
use Rattle.zvt.proofs.fields.read_list.Goals as goal
use Rattle.zvt.proofs.fields.read_list.Goals.{In_ok-field}

-- what a field that was read says of the list
goes : (c : In_ok-field)
    → (let l = c.loop-i in GoesOn c.args.p.at c.args.p.bytes.now l.invariant.2 l.objects l.i l.spare c.in_ok-field.field.tally)
goes c =
    let l = c.loop-i in
    list-goes-on c.args.p.at c.args.p.bytes.now l.invariant.2 l.objects l.i l.spare _ (l.invariant.3.1 _ (c.args.p.are_bytes l.i))
    c.loop-i-test.true (part-bytes c.args.p) _
    (field-read _ _ _ _ _ (of-part (field_located _ _) c.behind-rest.ensures (rw c.from-mark.ensures at c.in_ok-field.ensures))).0

lists : (c : In_ok-field)
    → (let l = c.loop-i in Listing c.args.p.at c.args.p.bytes.now l.invariant.2 l.objects l.i c.in_ok-field.field.lies c.in_ok-field.field.tally)
lists c =
    let l = c.loop-i in
    let (read, begins) = field-read _ _ _ _ _ (of-part (field_located _ _) c.behind-rest.ensures (rw c.from-mark.ensures at c.in_ok-field.ensures)) in
    list-notes c.args.p.at c.args.p.bytes.now l.invariant.2 l.objects l.i _ (part-bytes c.args.p) _
    (l.invariant.3.1 _ (c.args.p.are_bytes l.i)) c.loop-i-test.true begins _ read

pub loop-i-init : goal.loop-i-init
loop-i-init c =
    let size : length c.args.ids ≡ 4 = search rules in
    (omega arith, omega arith, [], marks-none, list-begins _ _, sym size, noting-begins _ _ _ (part-bytes c.args.p) size)

pub returns-in_err-field : goal.returns-in_err-field
returns-in_err-field c =
    let l = c.loop-i in
    handed-on c.from_residual.ensures.1
    ∙ list-stopped _ _ _ _
    (l.invariant.4
    ∙ list-stops c.args.p.at c.args.p.bytes.now l.invariant.2 l.objects l.i l.spare _
    (l.invariant.3.1 _ (c.args.p.are_bytes l.i)) c.loop-i-test.true _
    (field-refused _ _ _ _ _ (of-part (field_located _ _) c.behind-rest.ensures (rw c.from-mark.ensures at c.in_err-field.ensures))))

pub overflow_add-from : goal.overflow_add-from
overflow_add-from c =
    let (read, begins) = field-read _ _ _ _ _ (of-part (field_located _ _) c.behind-rest.ensures (rw c.from-mark.ensures at c.in_ok-field.ensures)) in
    let h = from-inside _ _ _ _ _ begins _ read in
    let g = goes (goal.at.overflow_add-from c).In_ok-field in
    omega arith

pub overflow_add-to : goal.overflow_add-to
overflow_add-to c = let h = goes (goal.at.overflow_add-to c).In_ok-field in omega arith

pub overflow_add-i : goal.overflow_add-i
overflow_add-i c = let h = goes (goal.at.overflow_add-i c).In_ok-field in omega arith

pub overflow_add-spare : goal.overflow_add-spare
overflow_add-spare c = let h = goes (goal.at.overflow_add-spare c).In_ok-field in omega arith

pub loop-i-smaller : goal.loop-i-smaller
loop-i-smaller c = let h = goes (goal.at.loop-i-smaller c).In_ok-field in omega arith

pub loop-i-preserved : goal.loop-i-preserved
loop-i-preserved c =
    let d = (goal.at.loop-i-preserved c).In_ok-field in
    let h = goes d in
    let l = c.loop-i in (
      h.1,
      omega arith,
      _ ∷ l.invariant.2,
      rw c.from-mark.ensures (marks-more l.seen l.invariant.2 _ (c.args.p.are_bytes l.i) l.invariant.3),
      l.invariant.4 ∙ h.3,
      rw c.noted_all-more.ensures (noted-size _ _ _ l.invariant.5),
      rw (c.noted_all-more.ensures, c.behind-rest.ensures.at)
          (noting-goes _ _ _ _ _ _ _ _ c.in_ok-field.field.tally l.invariant.6 (lists d)),
    )

pub returns : goal.returns
returns c =
    let l = c.loop-i in
    let a = c.args in
    list-located _ _ _ _ _
    (l.invariant.4 ∙ list-ends a.p.at a.p.bytes.now l.invariant.2 l.objects l.i l.spare l.invariant.0 c.loop-i-test.false)
    (noting-ends _ _ _ _ _ _ _ l.invariant.6 c.loop-i-test.false l.invariant.5)
