-- Lines and open payments are counted together: an opening takes a line, and an end writes it. Assumes nothing.
use mathlib.Core.Path.{◌≡◌, refl}
use mathlib.Core.Bool.{Bool, true, false}
use mathlib.Core.List.{List}
use Prim.Native.Nat.{ℕ, ◌+◌}
use native.Mathlib.Omega.{arith}
use lib.ListN.{length, length-append}
use Rattle.std.proofs.Common.{Err, Ok, Result}
use Rattle.basics.specs.Choice.{pick}
use Rattle.desk_rules.specs.declared.Lane.{Lane}
use Rattle.desk_rules.specs.declared.Line.{Line}
use Rattle.desk_rules.specs.declared.Moved.{Moved}
use Rattle.desk_rules.specs.declared.Moved.TheVariants.{Stays, Becomes, Ends}
use Rattle.zvt_rules.specs.declared.Refusal.{Refusal}
use Rattle.desk_rules.specs.Numbers.{lane_count}
use Rattle.desk_rules.specs.Kinds.{booked, is_idle}
use Rattle.desk_rules.specs.Lanes.{idle_lane, line_at, line_taken}
use Rattle.desk_rules.specs.Openings.{refers_to, last_line}
use Rattle.desk_rules.specs.Course.{heard, lost_by, Call, opening, message, lost, lane_of, opens, needs_line, moves}
use Rattle.desk_rules.specs.Desk.{State, lane_at, load, lane_after, line_if, lines_from, step, Accepts}
use Rattle.desk_rules.specs.Runs.{one_opened}
use Rattle.desk_rules.proofs.Calls.{Passes, opened, Heeds, Later, later}
use Rattle.desk_rules.proofs.Lanes.{total-set, accept-parts, lines-taken-total}

line-count : (b : Bool) (x : Line) → length (line_if b x) ≡ pick b 1 0
line-count true x = refl
line-count false x = refl

heeds-line : (l : Lane) (c : Call) (n : Lane) → is_idle l.phase ≡ false → Heeds l c n → line_taken n ≡ line_taken l
unfolding line_taken
heeds-line l (opening i o) n e f = absurd f
heeds-line l (message i s) n e f = rw (e, f)
heeds-line l (lost i) n e f = absurd f

-- lines are kept: an opening takes one, and an end writes it
then-kept : (i : ℕ) (l : Lane) (c : Call) (m : Result Moved Refusal) → is_idle l.phase ≡ false → Later l c m
    → line_taken (lane_after l m) + length (lines_from i l m) ≡ line_taken l + 0
unfolding lane_after lines_from line_taken
then-kept i l c (Err r) e f = absurd f
then-kept i l c (Ok Stays) e f = refl
then-kept i l c (Ok (Becomes n)) e f = omega (arith, heeds-line l c n e f)
then-kept i l c (Ok (Ends outcome settled code)) e f = rw e (omega (arith, line-count (booked l.kind) (line_at i l outcome settled code)))

pub kept : (i : ℕ) (l : Lane) (ls : List Line) (c : Call) → Passes (moves l ls c)
    → line_taken (lane_after l (moves l ls c)) + length (lines_from i l (moves l ls c)) ≡ line_taken l + one_opened c
unfolding lane_after lines_from line_taken moves one_opened needs_line opens
kept i l ls (opening j o) h = let t = opened l o (last_line j (refers_to o) ls) h in rw (t.2, t.0) (omega arith)
kept i l ls (message j s) h = let t = later l ls (message j s) refl h in then-kept i l (message j s) (heard l s) t.0 t.1
kept i l ls (lost j) h = let t = later l ls (lost j) refl h in then-kept i l (lost j) (lost_by l) t.0 t.1

pub load_step : (s : State) (c : Call) → length s.lanes ≡ lane_count → Accepts s c → load (step s c) ≡ load s + one_opened c
unfolding step load
load_step s c e h =
    let l = lane_at s.lanes (lane_of c) in
    let m = moves l s.lines c in
    let t = accept-parts s c h in
    simp (length-append, lines-taken-total) (omega (
      arith,
      total-set line_taken s.lanes (lane_of c) (lane_after l m) idle_lane (omega arith),
      kept (lane_of c) l s.lines c t.moved,
    ))
