-- One payment: what each of its calls makes of it, and what they do when they stand together. Assumes nothing.
use mathlib.Core.Path.{◌≡◌, refl, ap, sym, subst, ◌∙◌}
use mathlib.Core.Bool.{Bool, true, false, false≢true}
use mathlib.Core.List.{List, [], ◌∷◌, ◌++◌, map, append-nil}
use Prim.Native.Nat.{ℕ, ◌<◌}
use lib.Dec.{eqb}
use lib.ListN.{length, set}
use lib.Seq.{get_or-set_same, set-set, set-get_or}
use Rattle.std.proofs.Common.{Err, Ok, Result}
use Rattle.basics.specs.Choice.{pick}
use Rattle.zvt_rules.specs.Values.{value_in, code_of, amount_of, receipt_of, code_in, amount_in, receipt_in, status_in}
use Rattle.basics.proofs.Tests.{pick_same, true-false}
use Rattle.zvt_rules.specs.declared.Status.{Status}
use Rattle.desk_rules.specs.declared.Outcome.{Outcome}
use Rattle.desk_rules.specs.declared.Phase.{Phase}
use Rattle.desk_rules.specs.declared.Lane.{Lane}
use Rattle.desk_rules.specs.declared.Line.{Line}
use Rattle.desk_rules.specs.declared.Moved.{Moved}
use Rattle.desk_rules.specs.declared.Moved.TheVariants.{Stays, Becomes, Ends}
use Rattle.desk_rules.specs.declared.Opening.{Opening}
use Rattle.zvt_rules.specs.declared.Refusal.{Refusal}
use Rattle.desk_rules.specs.Kinds.{is_idle}
use Rattle.desk_rules.specs.Lanes.{idle_lane, running_lane, line_at}
use Rattle.desk_rules.specs.Openings.{refers_to, last_line, stands, opened_lane}
use Rattle.desk_rules.specs.Course.{Call, opening, message, lost, lane_of, opens, moves}
use Rattle.desk_rules.specs.Desk.{State, lane_at, lane_after, lines_from, step, run}
use Rattle.desk_rules.specs.Runs.{having, of_lane, calls_of, Own}
use Rattle.desk_rules.specs.Payments.{ends}
use Rattle.desk_rules.specs.believed.LastSale.{NoneOf}
use Rattle.desk_rules.specs.believed.Due.{nothing, Ending, Open, LineDue, PhaseIs, waiting, running, StatusIs, LaneIs, idle, busy}
use Rattle.desk_rules.proofs.Judge.{remembered, verdict}
use Rattle.desk_rules.proofs.Calls.{Passes, opened, retold, Heeds, Later, later, ends_in, ends_same}
use Rattle.desk_rules.proofs.Lanes.{having-append, moves-local}
use Rattle.desk_rules.proofs.Runs.{run-append}
use Rattle.desk_rules.proofs.Due.{ending-exactly, status-there, status-is, receipt-there, none_more, remember, ask, open-local, ended-there}

-- ---- a call goes on with its lane's payment, or ends it

pub phase-busy : {ss : List (List ℕ)} {p : Phase} → PhaseIs ss p → is_idle p ≡ false
phase-busy waiting = refl
phase-busy running = refl

module _ (k : ℕ) (ls : List Line) where
  opens-lane : {q : List Call} {l : Lane} (o : Opening) → LaneIs k ls q l → is_idle l.phase ≡ true → stands (refers_to o) (last_line k (refers_to o) ls) ≡ true
      → LaneIs k ls (q ++ (opening k o ∷ [])) (opened_lane o (last_line k (refers_to o) ls))
  unfolding NoneOf status_in code_in code_of amount_in amount_of receipt_in receipt_of value_in
  opens-lane o idle e f =
      busy (record { first = o; in_order = refl; still_open = tt; asks = ask k ls o f; remembered = nothing tt }) waiting (status-there [])
  opens-lane o (busy x p s) e f = absurd (true-false e (phase-busy p))

  module _ (s : List ℕ) where
    on : {q : List Call} {l : Lane} → is_idle l.phase ≡ false → ends (message k s) ≡ false → LaneIs k ls q l → LaneIs k ls (q ++ (message k s ∷ [])) (retold l s)
    on b e idle = absurd (false≢true (sym b))
    on {l = l} b e (busy {told = t} {status = fs} x p st) =
        let m = remember t fs s x.remembered in
        busy
        (record {
          first = x.first;
          in_order = ap (λ (y : List Call). y ++ (message k s ∷ [])) x.in_order ∙ ap (λ (y : List Call). opening k x.first ∷ y) (told_more t);
          still_open = none_more (λ s. Ending (message k s)) t s x.still_open (λ z. true-false ((ending-exactly (message k s)).1 z) e);
          asks = x.asks;
          remembered = m.1;
        })
        (phase t) (subst (StatusIs m.0) (sym m.2 ∙ ap (λ (x : Status). remembered x s) (status-is st)) (status-there m.0))
      where
        told_more : (ss : List (List ℕ)) → map (message k) ss ++ (message k s ∷ []) ≡ map (message k) (ss ++ (s ∷ []))
        told_more [] = refl
        told_more (x ∷ ss) = ap (λ (y : List Call). message k x ∷ y) (told_more ss)

        phase : (ss : List (List ℕ)) → PhaseIs (ss ++ (s ∷ [])) (retold l s).phase
        phase [] = running
        phase (x ∷ ss) = running

  closes : {q : List Call} {l : Lane} (c : Call) (outcome : Outcome) (settled code : ℕ) → LaneIs k ls q l → is_idle l.phase ≡ false → lane_of c ≡ k
      → verdict (running_lane l) c ≡ Ok (Ends outcome settled code)
      → (xs : List Line) → of_lane k xs ≡ ls → LineDue xs (q ++ (c ∷ [])) (line_at k l outcome settled code)
  unfolding line_at
  closes c outcome settled code idle b at v xs e = absurd (false≢true (sym b))
  closes {q} {l} c outcome settled code (busy {told = t} {status = fs} x p st) b at v xs e =
      record {
        sofar = q;
        last = c;
        in_order = refl;
        named = l.named;
        told = t;
        status = fs;
        its = open-local xs (subst (λ (y : List Line). Open k y q l.kind l.asked l.named t fs) (sym e) x);
        receipt = rw (← status-is st) (receipt-there fs l.named l.kind);
        ended = ended-there k (running_lane l) fs (sym (status-is st)) outcome settled code c at v;
      }

-- what a call makes of a payment
unfoldable pub Goes : ℕ → List Line → Lane → List Call → Result Moved Refusal → Type 0
Goes k ls l q (Err r) = ⊥
Goes k ls l q (Ok Stays) = LaneIs k ls q l
Goes k ls l q (Ok (Becomes n)) = LaneIs k ls q n
Goes k ls l q (Ok (Ends outcome settled code)) = (xs : List Line) → of_lane k xs ≡ ls → LineDue xs q (line_at k l outcome settled code)

heeds : (l : Lane) (ls : List Line) (q : List Call) (c : Call) (n : Lane) → LaneIs (lane_of c) ls q l → is_idle l.phase ≡ false → ends c ≡ false
    → Heeds l c n → LaneIs (lane_of c) ls (q ++ (c ∷ [])) n
unfolding lane_of
heeds l ls q (opening i o) n says b e f = absurd f
heeds l ls q (message i s) n says b e f = rw f (on i ls s b e says)
heeds l ls q (lost i) n says b e f = absurd f

then : (l : Lane) (ls : List Line) (q : List Call) (c : Call) (m : Result Moved Refusal) → LaneIs (lane_of c) ls q l → is_idle l.phase ≡ false → ends_in m ≡ ends c
    → Later l c m → Goes (lane_of c) ls l (q ++ (c ∷ [])) m
unfolding Goes ends_in
then l ls q c (Err r) says b e f = absurd f
then l ls q c (Ok Stays) says b e f = heeds l ls q c l says b (sym e) f
then l ls q c (Ok (Becomes n)) says b e f = heeds l ls q c n says b (sym e) f
then l ls q c (Ok (Ends outcome settled code)) says b e f = closes (lane_of c) ls c outcome settled code says b refl f

pub goes : (l : Lane) (ls : List Line) (q : List Call) (c : Call) → LaneIs (lane_of c) ls q l → Passes (moves l ls c)
    → Goes (lane_of c) ls l (q ++ (c ∷ [])) (moves l ls c)
unfolding Goes moves lane_of opens
goes l ls q (opening i o) says pass = let t = opened l o (last_line i (refers_to o) ls) pass in rw t.2 (opens-lane i ls o says t.0 t.1)
goes l ls q (message i s) says pass =
    let t = later l ls (message i s) refl pass in then l ls q (message i s) _ says t.0 (ends_same l ls (message i s) pass) t.1
goes l ls q (lost i) says pass = let t = later l ls (lost i) refl pass in then l ls q (lost i) _ says t.0 (ends_same l ls (lost i) pass) t.1

-- ---- its calls together

-- from any state in which lane k is idle and has those lines, they make the lane l, write the lines xs, and change nothing else
unfoldable pub Brings : ℕ → List Line → List Call → Lane → List Line → Type 0
Brings k ls q l xs =
    (s : State) → k < length s.lanes → lane_at s.lanes k ≡ idle_lane → of_lane k s.lines ≡ ls
    → run s q ≡ record { lanes = set s.lanes k l; lines = s.lines ++ xs }

pub idle-again : (ls : List Lane) (k : ℕ) → lane_at ls k ≡ idle_lane → set ls k idle_lane ≡ ls
idle-again ls k e = ap (set ls k) (sym e) ∙ set-get_or ls k idle_lane

brings-none : (k : ℕ) (ls : List Line) → Brings k ls [] idle_lane []
unfolding Brings run
brings-none k ls s h e f = rw (idle-again s.lanes k e, append-nil)

pub brings-more : (ls : List Line) (q : List Call) (l : Lane) (c : Call) → Brings (lane_of c) ls q l []
    → Brings (lane_of c) ls (q ++ (c ∷ [])) (lane_after l (moves l ls c)) (lines_from (lane_of c) l (moves l ls c))
unfolding Brings run step
brings-more ls q l c b s h e f =
    rw (run-append s q (c ∷ []), b s h e f, append-nil s.lines, get_or-set_same s.lanes (lane_of c) l idle_lane h, set-set, moves-local l s.lines c, f)

-- the open payment of lane k
pub record Ongoing (k : ℕ) (w : Own) (q : List Call) : Type 0 where
  pub its : (j : ℕ) → calls_of j q ≡ pick (eqb k j) q []
  pub brings : Brings k w.lines q w.lane []
  pub says : LaneIs k w.lines q w.lane

pub open_none : (k : ℕ) (ls : List Line) → Ongoing k (record { lane = idle_lane; lines = ls }) []
unfolding having
open_none k ls = record { its = λ j. sym (pick_same (eqb k j) refl); brings = brings-none k ls; says = idle }

pub its-more : (q : List Call) (c : Call) → ((j : ℕ) → calls_of j q ≡ pick (eqb (lane_of c) j) q [])
    → (j : ℕ) → calls_of j (q ++ (c ∷ [])) ≡ pick (eqb (lane_of c) j) (q ++ (c ∷ [])) []
unfolding having
its-more q c its j = rw (having-append, its j) (go (eqb (lane_of c) j))
  where
    go : (b : Bool) → pick b q [] ++ pick b (c ∷ []) [] ≡ pick b (q ++ (c ∷ [])) []
    go true = refl
    go false = refl
