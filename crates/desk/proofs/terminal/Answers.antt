-- `desk::terminal` meets its contract. Assumes nothing.
use native.Mathlib.Omega.{arith}
use mathlib.Core.Path.{◌≡◌, refl, sym, ap, ◌∙◌}
use Prim.Native.Nat.{◌≤◌}
use lib.ListN.{length}
use Rattle.std.proofs.Common.{Ok}
use Rattle.zvt_rules.specs.Reading.{unplaced}
use Rattle.desk_rules.specs.Course.{answered, heard, message, lane_of, needs_line, NumbersFit, moves, writes}
use Rattle.desk_rules.specs.Desk.{lane_at, accept, decide}
use Rattle.desk_rules.specs.Memory.{view, moved_desk, refused_answer}
use Rattle.desk_rules.proofs.Calls.{Passes}
use Rattle.desk_rules.proofs.Memory.{taken-line}
use Rattle.desk.proofs.CallLaws.{passes-ok, copied-front, no_lane, not-moved, no_room, goes_on, refused_as, taken_as, written}
use Rattle.zvt.proofs.Slices.{bytes-known}
use Rattle.desk.proofs.terminal.Goals as goal
use Rattle.desk.proofs.terminal.Goals.{In-Ok}

heard-as : (c : In-Ok) → heard (lane_at c.args.desk.lanes c.args.lane) c.args.s.now ≡ Ok c.in-Ok.m
heard-as c = sym (rw c.from.ensures at c.in-Ok.ensures)

passes : (c : In-Ok) → Passes (heard (lane_at c.args.desk.lanes c.args.lane) c.args.s.now)
passes c = rw (heard-as c) (passes-ok c.in-Ok.m)

-- with room for the reply the message is accepted
accepts : (c : In-Ok) → let a = c.args in length (answered (lane_at a.desk.lanes a.lane).phase) ≤ length a.out.now
    → decide (view a.desk) (message a.lane a.s.now) (length a.out.now) ≡ accept
unfolding lane_of needs_line moves writes
accepts c fits = goes_on c.args.desk (message c.args.lane c.args.s.now) _ c.if-lane-ge-COUNT.false (passes c) refl fits

pub returns-then-lane-ge-COUNT : goal.returns-then-lane-ge-COUNT
unfolding lane_of NumbersFit
returns-then-lane-ge-COUNT c =
    let a = c.args in
    let call = message a.lane a.s.now in
    let r = refused_as a.desk c.requires call (bytes-known _ c.type_inv.s) a.out.now _ (unplaced 12) (no_lane a.desk call _ c.if-lane-ge-COUNT.true) c.refused.ensures in
    record { answer = r.0; lent = r.1.0; valid = r.1.1 }

pub returns-in-Err : goal.returns-in-Err
unfolding lane_of moves NumbersFit refused_answer
returns-in-Err c =
    let a = c.args in
    let call = message a.lane a.s.now in
    let e = not-moved a.desk call _ c.if-lane-ge-COUNT.false _ (sym (rw c.from.ensures at c.in-Err.ensures)) in
    let r = refused_as a.desk c.requires call (bytes-known _ c.type_inv.s) a.out.now _ _ e refl in
    record { answer = r.0; lent = r.1.0; valid = r.1.1 }

pub returns-then-out-reply : goal.returns-then-out-reply
unfolding lane_of needs_line moves writes NumbersFit
returns-then-out-reply c =
    let a = c.args in
    let call = message a.lane a.s.now in
    let p = passes (goal.at.returns-then-out-reply c).In-Ok in
    let e = no_room a.desk call _ c.if-lane-ge-COUNT.false p refl (rw (ap length c.reply-reply.ensures, c.from.ensures) at c.if-out-reply.true) in
    let r = refused_as a.desk c.requires call (bytes-known _ c.type_inv.s) a.out.now _ (unplaced 11) e c.refused-then-out-reply.ensures in
    record { answer = r.0; lent = r.1.0; valid = r.1.1 }

pub moved-requires : goal.moved-requires
unfolding lane_of moves
moved-requires c =
    let a = c.args in
    let v = c.requires in
    let heard-ok = (goal.at.moved-requires c).In-Ok in
    let t = taken-line a.desk (message a.lane a.s.now) _ v (accepts heard-ok (rw (ap length c.reply-reply.ensures, c.from.ensures) at c.if-out-reply.false)) in
    (record { lane = c.if-lane-ge-COUNT.false; lanes = v.lanes; lines = v.lines }, rw (heard-as heard-ok) at t)

pub returns : goal.returns
unfolding lane_of moves writes NumbersFit
returns c =
    let a = c.args in
    let k = c.copy-size.ensures in
    let heard-ok = (goal.at.returns c).In-Ok in
    let said = rw c.from.ensures at c.reply-reply.ensures in
    let fits = rw (ap length said) at c.if-out-reply.false in
    let size : c.copy-size.result ≡ length c.reply-reply.result.now = omega arith in
    let r = taken_as a.desk c.requires (message a.lane a.s.now) (bytes-known _ c.type_inv.s) a.out.now (record { reply = Ok c.copy-size.result; desk = c.moved.result }) _
    (accepts heard-ok fits)
    (written (size ∙ ap length said) (c.moved.ensures ∙ ap (moved_desk a.desk a.lane) (sym (heard-as heard-ok))))
    (copied-front _ _ _ _ _ said fits k.size k.bytes) in
    record { answer = r.0; lent = r.1.0; valid = r.1.1 }
