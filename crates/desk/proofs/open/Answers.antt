-- `desk::open` meets its contract. Assumes nothing.
use mathlib.Core.Path.{◌≡◌, refl, sym, ap, ◌∙◌}
use mathlib.Core.Bool.{false, ◌&&◌}
use Prim.Native.Nat.{ℕ, ◌≤◌}
use lib.ListN.{length}
use lib.Dec.{leb}
use Rattle.std.proofs.Common.{Ok, Option, Result}
use Rattle.zvt_rules.specs.Reading.{unplaced}
use Rattle.desk_rules.specs.declared.Opening.{Opening}
use Rattle.desk_rules.specs.declared.Line.{Line}
use Rattle.desk_rules.specs.declared.Moved.{Moved}
use Rattle.desk_rules.specs.declared.Desk.{Desk}
use Rattle.zvt_rules.specs.declared.Refusal.{Refusal}
use Rattle.desk_rules.specs.Numbers.{book_lines}
use Rattle.desk_rules.specs.Kinds.{booked}
use Rattle.desk_rules.specs.Openings.{kind_of, refers_to, command_bytes, command_size, last_line}
use Rattle.desk_rules.specs.Course.{opened_by, opening, lane_of, needs_line, NumbersFit, moves, writes}
use Rattle.desk_rules.specs.Desk.{lane_at, load, accept, decide}
use Rattle.desk_rules.specs.Memory.{lines_of_desk, view, moved_desk, refused_answer}
use Rattle.desk_rules.proofs.Commands.{command-size}
use Rattle.desk_rules.proofs.Calls.{Passes}
use Rattle.desk_rules.proofs.Memory.{move_of, taken-line}
use Rattle.desk.proofs.CallLaws.{passes-ok, no_lane, not-moved, no_line, no_room, goes_on, refused_as, taken_as, written}
use Rattle.desk.proofs.open.Goals as goal
use Rattle.desk.proofs.open.Goals.{In-Ok}

-- the lane's own answer
moves-to : (d : Desk) (lane : ℕ) (o : Opening) (r : Option ℕ) (line : Line) (m : Result Moved Refusal) → r ≡ refers_to o → line ≡ last_line lane r (lines_of_desk d)
    → m ≡ opened_by (lane_at d.lanes lane) o line
    → move_of d (opening lane o) ≡ m
unfolding lane_of moves
moves-to d lane o r line m e f g =
    let found = f ∙ ap (λ (r : Option ℕ). last_line lane r (lines_of_desk d)) e in
    sym (g ∙ ap (opened_by (lane_at d.lanes lane) o) found)

lane-moves : (c : In-Ok) → move_of c.args.desk (opening c.args.lane c.args.opening) ≡ Ok c.in-Ok.m
lane-moves c = moves-to c.args.desk c.args.lane c.args.opening _ _ _ c.refers_to.ensures c.last_line-line.ensures (rw c.from.ensures at c.in-Ok.ensures)

passes : (c : In-Ok) → Passes (move_of c.args.desk (opening c.args.lane c.args.opening))
passes c = rw (lane-moves c) (passes-ok c.in-Ok.m)

-- with a line of the book and room for the command the opening is accepted
accepts : (c : In-Ok) → let a = c.args in booked (kind_of a.opening) && leb book_lines (load (view a.desk)) ≡ false
    → length (command_bytes a.opening) ≤ length a.out.now
    → decide (view a.desk) (opening a.lane a.opening) (length a.out.now) ≡ accept
unfolding lane_of needs_line writes
accepts c few fits = goes_on c.args.desk (opening c.args.lane c.args.opening) _ c.if-lane-ge-COUNT.false (passes c) few fits

-- a command of that size fits in that room
roomy : (o : Opening) (n room : ℕ) → n ≡ command_size o → n ≤ room → length (command_bytes o) ≤ room
roomy o n room e h = rw (command-size o ∙ sym e) h

pub returns-then-lane-ge-COUNT : goal.returns-then-lane-ge-COUNT
unfolding lane_of NumbersFit
returns-then-lane-ge-COUNT c =
    let a = c.args in
    let call = opening a.lane a.opening in
    let r = refused_as a.desk c.requires call tt a.out.now _ (unplaced 12) (no_lane a.desk call _ c.if-lane-ge-COUNT.true) c.refused.ensures in
    record { answer = r.0; lent = r.1.0; valid = r.1.1 }

pub returns-in-Err : goal.returns-in-Err
unfolding lane_of NumbersFit refused_answer
returns-in-Err c =
    let a = c.args in
    let call = opening a.lane a.opening in
    let m = moves-to a.desk a.lane a.opening _ _ _ c.refers_to.ensures c.last_line-line.ensures (rw c.from.ensures at c.in-Err.ensures) in
    let r = refused_as a.desk c.requires call tt a.out.now _ _ (not-moved a.desk call _ c.if-lane-ge-COUNT.false _ m) refl in
    record { answer = r.0; lent = r.1.0; valid = r.1.1 }

pub returns-then-no_line : goal.returns-then-no_line
unfolding lane_of needs_line NumbersFit
returns-then-no_line c =
    let a = c.args in
    let call = opening a.lane a.opening in
    let p = passes (goal.at.returns-then-no_line c).In-Ok in
    let e = no_line a.desk call _ c.if-lane-ge-COUNT.false p (sym c.no_line.ensures ∙ c.if-no_line.true) in
    let r = refused_as a.desk c.requires call tt a.out.now _ (unplaced 18) e c.refused-then-no_line.ensures in
    record { answer = r.0; lent = r.1.0; valid = r.1.1 }

pub returns-then-out-size : goal.returns-then-out-size
unfolding lane_of needs_line writes NumbersFit
returns-then-out-size c =
    let a = c.args in
    let call = opening a.lane a.opening in
    let p = passes (goal.at.returns-then-out-size c).In-Ok in
    let e = no_room a.desk call _ c.if-lane-ge-COUNT.false p (sym c.no_line.ensures ∙ c.if-no_line.false)
    (rw (command-size a.opening ∙ sym c.command_size-size.ensures) c.if-out-size.true) in
    let r = refused_as a.desk c.requires call tt a.out.now _ (unplaced 11) e c.refused-then-out-size.ensures in
    record { answer = r.0; lent = r.1.0; valid = r.1.1 }

pub put_command-requires : goal.put_command-requires
put_command-requires c = roomy c.args.opening _ _ c.command_size-size.ensures c.if-out-size.false

pub moved-requires : goal.moved-requires
unfolding lane_of
moved-requires c =
    let a = c.args in
    let asked = (goal.at.moved-requires c).In-Ok in
    let v = c.requires in
    let few = sym c.no_line.ensures ∙ c.if-no_line.false in
    let fits = roomy a.opening _ _ c.command_size-size.ensures c.if-out-size.false in
    let t = taken-line a.desk (opening a.lane a.opening) _ v (accepts asked few fits) in
    (record { lane = c.if-lane-ge-COUNT.false; lanes = v.lanes; lines = v.lines }, rw (lane-moves asked) at t)

pub returns : goal.returns
unfolding lane_of writes NumbersFit
returns c =
    let a = c.args in
    let asked = (goal.at.returns c).In-Ok in
    let few = sym c.no_line.ensures ∙ c.if-no_line.false in
    let fits = roomy a.opening _ _ c.command_size-size.ensures c.if-out-size.false in
    let r = taken_as a.desk c.requires (opening a.lane a.opening) tt a.out.now (record { reply = Ok c.command_size-size.result; desk = c.moved.result }) _
    (accepts asked few fits)
    (written (c.command_size-size.ensures ∙ sym (command-size a.opening)) (c.moved.ensures ∙ ap (moved_desk a.desk a.lane) (sym (lane-moves asked))))
    c.put_command.ensures in
    record { answer = r.0; lent = r.1.0; valid = r.1.1 }
