-- A run does to each lane what the lane's own calls do alone; and how many payments it opens. Assumes nothing.
use mathlib.Core.Path.{◌≡◌, refl, ◌∙◌}
use mathlib.Core.Bool.{Bool, true, false}
use mathlib.Core.List.{List, [], ◌∷◌, ◌++◌}
use Prim.Native.Nat.{ℕ, ◌+◌, ◌<◌, ◌≤◌}
use native.Mathlib.Omega.{arith}
use lib.ListN.{length}
use borrow.Author.Tests.{eq-eqb}
use Rattle.basics.specs.Choice.{pick}
use Rattle.desk_rules.specs.Numbers.{lane_count, book_lines}
use Rattle.desk_rules.specs.Lanes.{line_taken}
use Rattle.desk_rules.specs.Course.{Call, lane_of, needs_line, moves, writes}
use Rattle.desk_rules.specs.Desk.{State, fresh, lane_at, lines_taken, load, step, Accepted, run, wrote}
use Rattle.desk_rules.specs.Runs.{having, calls_of, Own, own_of, total, one_opened, openings, Exchange, replies}
use Rattle.desk_rules.proofs.Calls.{Passes}
use Rattle.desk_rules.proofs.Lanes.{moves-local, after, by-lane, AcceptParts, accept-parts, parts-accept, opened_one, lanes_step}
use Rattle.desk_rules.proofs.LineCount.{load_step}

-- ---- runs

pub run-append : (s : State) (cs ds : List Call) → run s (cs ++ ds) ≡ run (run s cs) ds
unfolding run
run-append s [] ds = refl
run-append s (c ∷ cs) ds = run-append (step s c) cs ds

pub lanes-run : (s : State) (cs : List Call) → length (run s cs).lanes ≡ length s.lanes
unfolding run
lanes-run s [] = refl
lanes-run s (c ∷ cs) = lanes-run (step s c) cs ∙ lanes_step s c

-- ---- how many payments are opened

load-run : (s : State) (cs : List Call) → length s.lanes ≡ lane_count → Accepted s cs → load (run s cs) ≡ load s + openings cs
unfolding run total Accepted
load-run s [] e h = omega arith
load-run s (c ∷ cs) e h = omega (arith, load_step s c e h.0, load-run (step s c) cs (lanes_step s c ∙ e) h.1)

load_fits : (s : State) (c : Call) → load s ≤ book_lines → AcceptParts s c → load s + one_opened c ≤ book_lines
unfolding one_opened
load_fits s c r t = go (needs_line c) t.lines_fit
  where
    go : (b : Bool) → (b ≡ true → load s < book_lines) → load s + pick b 1 0 ≤ book_lines
    go true f = omega (arith, f refl)
    go false f = omega arith

loads-fit : (s : State) (cs : List Call) → length s.lanes ≡ lane_count → load s ≤ book_lines → Accepted s cs → load (run s cs) ≤ book_lines
unfolding run Accepted
loads-fit s [] e r h = r
loads-fit s (c ∷ cs) e r h =
    loads-fit (step s c) cs (lanes_step s c ∙ e) (omega (arith, load_step s c e h.0, load_fits s c r (accept-parts s c h.0))) h.1

pub count : (cs : List Call) → Accepted fresh cs → (openings cs ≡ length (run fresh cs).lines + lines_taken (run fresh cs).lanes) × (openings cs ≤ book_lines)
unfolding fresh load lines_taken line_taken
count cs h =
    let l = load-run fresh cs refl h in
    (omega arith, omega (arith, loads-fit fresh cs refl (omega arith) h))

-- ---- each lane alone

unfoldable pub alone : Own → List Call → Own
alone o [] = o
alone o (c ∷ cs) = alone (after o c) cs

unfoldable pub AcceptedAlone : Own → List Call → Type 0
AcceptedAlone o [] = Unit {0}
AcceptedAlone o (c ∷ cs) = (lane_of c < lane_count) × Passes (moves o.lane o.lines c) × AcceptedAlone (after o c) cs

-- the calls of lane k in their order, each with what it wrote
unfoldable pub replies_to : ℕ → State → List Call → List Exchange
replies_to k s cs = having (λ r. lane_of r.call) k (replies cs (wrote s cs))

unfoldable pub replies_alone : Own → List Call → List Exchange
replies_alone o [] = []
replies_alone o (c ∷ cs) = record { call = c; wrote = writes o.lane c } ∷ replies_alone (after o c) cs

pub run_alone : (s : State) (cs : List Call) (k : ℕ) → length s.lanes ≡ lane_count → Accepted s cs → own_of k (run s cs) ≡ alone (own_of k s) (calls_of k cs)
unfolding run Accepted alone having
run_alone s [] k e h = refl
run_alone s (c ∷ cs) k e h =
    run_alone (step s c) cs k (lanes_step s c ∙ e) h.1
    ∙ by-lane s c (omega (arith, (accept-parts s c h.0).lane))
    (λ j b o. alone o (calls_of j cs) ≡ alone (own_of j s) (pick b (c ∷ calls_of j cs) (calls_of j cs))) refl (λ j n. refl) k

pub replies-alone : (s : State) (cs : List Call) (k : ℕ) → length s.lanes ≡ lane_count → Accepted s cs → replies_to k s cs ≡ replies_alone (own_of k s) (calls_of k cs)
unfolding replies_to replies_alone replies wrote Accepted having
replies-alone s [] k e h = refl
replies-alone s (c ∷ cs) k e h =
    let reply : Exchange = record { call = c; wrote = writes (lane_at s.lanes (lane_of c)) c } in
    rw (replies-alone (step s c) cs k (lanes_step s c ∙ e) h.1)
    (by-lane s c (omega (arith, (accept-parts s c h.0).lane))
    (λ j b o. pick b (reply ∷ replies_alone o (calls_of j cs)) (replies_alone o (calls_of j cs))
    ≡ replies_alone (own_of j s) (pick b (c ∷ calls_of j cs) (calls_of j cs))) refl (λ j n. refl) k)

pub accepted-alone : (s : State) (cs : List Call) (k : ℕ) → length s.lanes ≡ lane_count → Accepted s cs → AcceptedAlone (own_of k s) (calls_of k cs)
unfolding Accepted AcceptedAlone having
accepted-alone s [] k e h = tt
accepted-alone s (c ∷ cs) k e h =
    let t = accept-parts s c h.0 in
    by-lane s c (omega (arith, t.lane)) (λ j b o. AcceptedAlone o (calls_of j cs) → AcceptedAlone (own_of j s) (pick b (c ∷ calls_of j cs) (calls_of j cs)))
    (λ a. (t.lane, rw moves-local at t.moved, a)) (λ j n a. a) k (accepted-alone (step s c) cs k (lanes_step s c ∙ e) h.1)

pub accepted-from : (s : State) (cs : List Call) → length s.lanes ≡ lane_count → ((k : ℕ) → AcceptedAlone (own_of k s) (calls_of k cs))
    → load s + openings cs ≤ book_lines → Accepted s cs
unfolding Accepted AcceptedAlone having total
accepted-from s [] e al r = tt
accepted-from s (c ∷ cs) e al r = (
  parts-accept s c t,
  accepted-from (step s c) cs (lanes_step s c ∙ e)
      (λ k. by-lane s c (omega (arith, t.lane))
      (λ j b o. AcceptedAlone (own_of j s) (pick b (c ∷ calls_of j cs) (calls_of j cs)) → AcceptedAlone o (calls_of j cs)) (λ a. a.2) (λ j n a. a) k (al k))
      (omega (arith, load_step s c e (parts-accept s c t))),
)
  where
    first : AcceptedAlone (own_of (lane_of c) s) (c ∷ calls_of (lane_of c) cs)
    first = rw (eq-eqb (lane_of c) (lane_of c) refl) at (al (lane_of c))

    t : AcceptParts s c
    t = record { lane = first.0; moved = rw moves-local first.1; lines_fit = λ q. omega (arith, opened_one c q) }
