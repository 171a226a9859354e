-- `desk::link_lost` meets its contract. Assumes nothing.
use mathlib.Core.Path.{◌≡◌, refl, sym, ◌∙◌}
use mathlib.Core.Bool.{false}
use mathlib.Core.List.{[]}
use Prim.Native.Nat.{ℕ, ◌<◌}
use native.Mathlib.Omega.{arith}
use Rattle.std.proofs.Common.{Ok}
use Rattle.zvt_rules.specs.Reading.{unplaced}
use Rattle.desk_rules.specs.declared.Desk.{Desk}
use Rattle.desk_rules.specs.Numbers.{lane_count}
use Rattle.desk_rules.specs.Kinds.{is_idle}
use Rattle.desk_rules.specs.Course.{lost, lane_of, needs_line, NumbersFit, moves, writes}
use Rattle.desk_rules.specs.Desk.{lane_at, accept, decide}
use Rattle.desk_rules.specs.Memory.{view}
use Rattle.desk_rules.proofs.Memory.{taken-line}
use Rattle.desk.proofs.CallLaws.{lost-idle, lost-open, no_lane, not-moved, goes_on, refused_as, taken_as}
use Rattle.desk.proofs.DeskLaws.{phase-idle}
use Rattle.desk.proofs.link_lost.Goals as goal
use Rattle.desk.proofs.link_lost.Goals.{After-eq}

-- what was asked of the lane's phase
idle : (c : After-eq) → is_idle (lane_at c.args.desk.lanes c.args.lane).phase ≡ c.eq.result
idle c = rw c.from.ensures at (sym (c.eq.ensures ∙ phase-idle _))

-- a lane that is there and not idle: the call is accepted
accepts : (d : Desk) (lane : ℕ) → lane < lane_count → is_idle (lane_at d.lanes lane).phase ≡ false → decide (view d) (lost lane) 0 ≡ accept
unfolding lane_of needs_line moves writes
accepts d lane h o = goes_on d (lost lane) 0 h (rw (lost-open (lane_at d.lanes lane) o) tt) refl (omega arith)

pub returns-then-lane-ge-COUNT : goal.returns-then-lane-ge-COUNT
unfolding lane_of moves writes NumbersFit
returns-then-lane-ge-COUNT c =
    let a = c.args in
    let r = refused_as a.desk c.requires (lost a.lane) tt [] _ (unplaced 12) (no_lane a.desk (lost a.lane) 0 c.if-lane-ge-COUNT.true) c.refused.ensures in
    record { answer = r.0; valid = r.1.1 }

pub returns-then-eq : goal.returns-then-eq
unfolding lane_of moves writes NumbersFit
returns-then-eq c =
    let a = c.args in
    let e = not-moved a.desk (lost a.lane) 0 c.if-lane-ge-COUNT.false _ (lost-idle (lane_at a.desk.lanes a.lane) (idle (goal.at.returns-then-eq c).After-eq ∙ c.if-eq.true)) in
    let r = refused_as a.desk c.requires (lost a.lane) tt [] _ (unplaced 14) e c.refused-then-eq.ensures in
    record { answer = r.0; valid = r.1.1 }

pub moved-requires : goal.moved-requires
unfolding lane_of moves writes NumbersFit
moved-requires c =
    let a = c.args in
    let v = c.requires in
    let low = c.if-lane-ge-COUNT.false in
    let o = idle (goal.at.moved-requires c).After-eq ∙ c.if-eq.false in
    let t = taken-line a.desk (lost a.lane) 0 v (accepts a.desk a.lane low o) in
    (record { lane = low; lanes = v.lanes; lines = v.lines }, rw (lost-open (lane_at a.desk.lanes a.lane) o) at t)

pub returns : goal.returns
unfolding lane_of moves writes NumbersFit
returns c =
    let a = c.args in
    let o = idle (goal.at.returns c).After-eq ∙ c.if-eq.false in
    let r = taken_as a.desk c.requires (lost a.lane) tt [] (record { reply = Ok 0; desk = c.moved.result }) [] (accepts a.desk a.lane c.if-lane-ge-COUNT.false o)
    (rw (lost-open (lane_at a.desk.lanes a.lane) o, c.moved.ensures)) refl in
    record { answer = r.0; valid = r.1.1 }
