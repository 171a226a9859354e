-- One invariant of runs, kept by each accepted call: the payments so far, the lanes and the lines. Assumes nothing.
use mathlib.Core.Path.{◌≡◌, refl, ap, sym, ◌∙◌}
use mathlib.Core.Bool.{Bool, true, false}
use mathlib.Core.List.{List, [], ◌∷◌, ◌++◌, append-nil, append_assoc}
use Prim.Native.Nat.{ℕ, zero, suc, ◌<◌}
use native.Mathlib.Omega.{arith}
use lib.Dec.{eqb}
use lib.ListN.{length, get_or, set, replicate, length-set}
use lib.Seq.{get_or-set_same, get_or-set_other, append_snoc}
use borrow.Author.Tests.{eqb-true, eqb-false}
use Rattle.std.proofs.Common.{Err, Ok, Result}
use Rattle.basics.specs.Choice.{pick}
use Rattle.desk_rules.specs.declared.Lane.{Lane}
use Rattle.desk_rules.specs.declared.Line.{Line}
use Rattle.desk_rules.specs.declared.Moved.{Moved}
use Rattle.desk_rules.specs.declared.Moved.TheVariants.{Stays, Becomes, Ends}
use Rattle.zvt_rules.specs.declared.Refusal.{Refusal}
use Rattle.desk_rules.specs.Numbers.{lane_count}
use Rattle.desk_rules.specs.Lanes.{idle_lane}
use Rattle.desk_rules.specs.Course.{Call, lane_of, moves}
use Rattle.desk_rules.specs.Desk.{State, fresh, lane_after, lines_from, step, Accepts, Accepted, run}
use Rattle.desk_rules.specs.Runs.{having, of_lane, calls_of, Own, own_of}
use Rattle.desk_rules.specs.Payments.{Payments, with_call, payments_from, payments_of, flattened}
use Rattle.desk_rules.specs.believed.Due.{LineDue, LaneIs}
use Rattle.desk_rules.proofs.Calls.{every-kind, ends_in, ends_same}
use Rattle.desk_rules.proofs.Lanes.{having-append, moves-local, after, by-lane, accept-parts, lanes_step}
use Rattle.desk_rules.proofs.Payment.{Goes, goes, Brings, brings-more, Ongoing, open_none, its-more}

-- ---- the ended payments, one after the other

-- an ended payment of one lane, which brought the line that is due for it behind those lines
pub record Block (ls : List Line) (p : List Call) (x : Line) : Type 0 where
  pub lane : ℕ
  pub small : lane < lane_count
  pub its : (j : ℕ) → calls_of j p ≡ pick (eqb lane j) p []
  pub due : LineDue ls p x
  pub brings : Brings lane (of_lane lane ls) p idle_lane (x ∷ [])

-- payments, and the lines that they brought
unfoldable pub Blocks : List Line → List (List Call) → List Line → Type 0
Blocks ls [] [] = Unit {0}
Blocks ls [] (x ∷ xs) = ⊥
Blocks ls (p ∷ ps) [] = ⊥
Blocks ls (p ∷ ps) (x ∷ xs) = Block ls p x × Blocks (ls ++ (x ∷ [])) ps xs

blocks-snoc : (ls : List Line) (ps : List (List Call)) (xs : List Line) (p : List Call) (x : Line) → Blocks ls ps xs → Block (ls ++ xs) p x
    → Blocks ls (ps ++ (p ∷ [])) (xs ++ (x ∷ []))
unfolding Blocks
blocks-snoc ls [] [] p x bs b = (rw append-nil at b, tt)
blocks-snoc ls [] (y ∷ xs) p x bs b = absurd bs
blocks-snoc ls (q ∷ ps) [] p x bs b = absurd bs
blocks-snoc ls (q ∷ ps) (y ∷ xs) p x bs b = (bs.0, blocks-snoc _ ps xs p x bs.1 (rw append_snoc b))

joined-append : (ps qs : List (List Call)) → flattened (ps ++ qs) ≡ flattened ps ++ flattened qs
unfolding flattened
joined-append [] qs = refl
joined-append (p ∷ ps) qs = rw (joined-append ps qs, append_assoc)

-- ---- the invariant

pub record Kept (s : State) (p : Payments) (past : List Call) : Type 0 where
  pub lanes : length s.lanes ≡ lane_count
  pub slots : length p.ongoing ≡ lane_count
  pub calls : (k : ℕ) → calls_of k past ≡ calls_of k (flattened p.ended) ++ get_or p.ongoing k []
  pub each : (k : ℕ) → Ongoing k (own_of k s) (get_or p.ongoing k [])
  pub blocks : Blocks [] p.ended s.lines

pub get_d_set : {A : Type 0} (xs : List A) (i k : ℕ) (x d : A) → i < length xs → get_or (set xs i x) k d ≡ pick (eqb i k) x (get_or xs k d)
get_d_set xs i k x d h = go (eqb i k) refl
  where
    go : (b : Bool) → eqb i k ≡ b → get_or (set xs i x) k d ≡ pick b x (get_or xs k d)
    go true e = rw (← eqb-true i k e) (get_or-set_same xs i x d h)
    go false e = get_or-set_other xs i k x d (λ f. eqb-false i k e (sym f))

-- the call's lane, its payment with the call, and what the call does
abbrev mine : State → Call → Own
mine s c = own_of (lane_of c) s

abbrev grown : Payments → Call → List Call
grown p c = get_or p.ongoing (lane_of c) [] ++ (c ∷ [])

abbrev turn : State → Call → Result Moved Refusal
turn s c = moves (mine s c).lane (mine s c).lines c

-- the payment with the call stands in ys, ended, or in x, still open
kept-with : (s : State) (p : Payments) (past : List Call) (c : Call) → Kept s p past → Accepts s c
    → (ys : List (List Call)) (x : List Call) → flattened ys ++ x ≡ grown p c
    → Ongoing (lane_of c) (after (mine s c) c) x
    → Blocks [] (p.ended ++ ys) (s.lines ++ lines_from (lane_of c) (mine s c).lane (turn s c))
    → Kept (step s c) (record { ended = p.ended ++ ys; ongoing = set p.ongoing (lane_of c) x }) (past ++ (c ∷ []))
unfolding step having
kept-with s p past c kept h ys x e now blocks =
    record {
      lanes = lanes_step s c ∙ kept.lanes;
      slots = simp length-set kept.slots;
      calls = calls;
      each = λ k. rw (at k) (by-lane s c (omega (arith, small, kept.lanes)) (λ j b o. Ongoing j o (pick b x (get_or p.ongoing j []))) now (λ j n. kept.each j) k);
      blocks = rw moves-local blocks;
    }
  where
    small : lane_of c < lane_count
    small = (accept-parts s c h).lane

    at : (k : ℕ) → get_or (set p.ongoing (lane_of c) x) k [] ≡ pick (eqb (lane_of c) k) x (get_or p.ongoing k [])
    at k = get_d_set p.ongoing (lane_of c) k x [] (omega (arith, small, kept.slots))

    go : (k : ℕ) (b : Bool) → eqb (lane_of c) k ≡ b → calls_of k (flattened ys) ++ pick b x [] ≡ pick b (grown p c) []
        → get_or p.ongoing k [] ++ pick b (c ∷ []) [] ≡ calls_of k (flattened ys) ++ pick b x (get_or p.ongoing k [])
    go k true q f = sym (rw (eqb-true (lane_of c) k q) at f)
    go k false q f = rw (append-nil, sym (append-nil (calls_of k (flattened ys))) ∙ f)

    calls : (k : ℕ) → calls_of k (past ++ (c ∷ [])) ≡ calls_of k (flattened (p.ended ++ ys)) ++ get_or (set p.ongoing (lane_of c) x) k []
    calls k =
        rw (
          having-append lane_of k past,
          kept.calls k,
          joined-append,
          having-append lane_of k (flattened p.ended),
          append_assoc (calls_of k (flattened p.ended)) (get_or p.ongoing k []),
          append_assoc,
          at k,
        )
        (ap (λ (z : List Call). calls_of k (flattened p.ended) ++ z)
        (go k (eqb (lane_of c) k) refl (rw (← now.its k, ← having-append lane_of k (flattened ys) x, e)
        (its-more (get_or p.ongoing (lane_of c) []) c (kept.each (lane_of c)).its k))))

-- an accepted call goes on with its lane's payment, or ends it
kept_step : (s : State) (p : Payments) (past : List Call) (c : Call) → Kept s p past → Accepts s c → Kept (step s c) (with_call p c) (past ++ (c ∷ []))
unfolding with_call ends_in lane_after lines_from after flattened Goes
kept_step s p past c kept h =
    let passes = rw moves-local at (accept-parts s c h).moved in
    rw (← ends_same w.lane w.lines c passes) (go (turn s c) refl (goes w.lane w.lines q c now.says passes))
  where
    i : ℕ
    i = lane_of c

    w : Own
    w = mine s c

    q : List Call
    q = get_or p.ongoing i []

    now : Ongoing i w q
    now = kept.each i

    brings : Brings i w.lines (q ++ (c ∷ [])) (lane_after w.lane (turn s c)) (lines_from i w.lane (turn s c))
    brings = brings-more w.lines q w.lane c now.brings

    on : (n : Lane) → lane_after w.lane (turn s c) ≡ n → lines_from i w.lane (turn s c) ≡ []
        → LaneIs i w.lines (q ++ (c ∷ [])) n
        → Kept (step s c) (record { ended = p.ended; ongoing = set p.ongoing i (q ++ (c ∷ [])) }) (past ++ (c ∷ []))
    on n e f g =
        rw (append-nil p.ended) at
        (kept-with s p past c kept h [] (q ++ (c ∷ [])) refl
        (rw (e, f, append-nil w.lines) (record { its = its-more q c now.its; brings = rw (e, f) at brings; says = g }))
        (rw (f, append-nil s.lines, append-nil p.ended) kept.blocks))

    ended : (x : Line) → lane_after w.lane (turn s c) ≡ idle_lane → lines_from i w.lane (turn s c) ≡ x ∷ [] → LineDue s.lines (q ++ (c ∷ [])) x
        → Kept (step s c) (record { ended = p.ended ++ ((q ++ (c ∷ [])) ∷ []); ongoing = set p.ongoing i [] }) (past ++ (c ∷ []))
    ended x e l d =
        kept-with s p past c kept h ((q ++ (c ∷ [])) ∷ []) [] (simp append-nil) (rw e (open_none i _))
        (rw l (blocks-snoc [] p.ended s.lines (q ++ (c ∷ [])) x kept.blocks
        (record { lane = i; small = (accept-parts s c h).lane; its = its-more q c now.its; due = d; brings = rw (e, l) at brings })))

    go : (m : Result Moved Refusal) → turn s c ≡ m → Goes i w.lines w.lane (q ++ (c ∷ [])) m
        → Kept (step s c) (pick (ends_in m)
        (record { ended = p.ended ++ ((q ++ (c ∷ [])) ∷ []); ongoing = set p.ongoing i [] })
        (record { ended = p.ended; ongoing = set p.ongoing i (q ++ (c ∷ [])) })) (past ++ (c ∷ []))
    go (Err r) e g = absurd g
    go (Ok Stays) e g = on w.lane (ap (lane_after w.lane) e) (ap (lines_from i w.lane) e) g
    go (Ok (Becomes n)) e g = on n (ap (lane_after w.lane) e) (ap (lines_from i w.lane) e) g
    go (Ok (Ends outcome settled code)) e g =
        ended _ (ap (lane_after w.lane) e) (ap (lines_from i w.lane) e ∙ rw (every-kind w.lane.kind)) (g s.lines refl)

kept_run : (s : State) (p : Payments) (past cs : List Call) → Kept s p past → Accepted s cs → Kept (run s cs) (payments_from p cs) (past ++ cs)
unfolding run payments_from Accepted
kept_run s p past [] kept h = rw append-nil kept
kept_run s p past (c ∷ cs) kept h =
    rw append_snoc at (kept_run (step s c) (with_call p c) (past ++ (c ∷ [])) cs (kept_step s p past c kept h.0) h.1)

pub all_same : {A : Type 0} (n k : ℕ) (a : A) → get_or (replicate n a) k a ≡ a
all_same zero k a = refl
all_same (suc n) zero a = refl
all_same (suc n) (suc k) a = all_same n k a

pub kept : (cs : List Call) → Accepted fresh cs → Kept (run fresh cs) (payments_of cs) cs
unfolding payments_of fresh having flattened Blocks
kept cs h = kept_run fresh (record { ended = []; ongoing = replicate lane_count [] }) [] cs first h
  where
    first : Kept fresh (record { ended = []; ongoing = replicate lane_count [] }) []
    first =
        record {
          lanes = refl;
          slots = refl;
          calls = λ k. sym (all_same lane_count k []);
          each = λ k. rw (all_same lane_count k idle_lane, all_same {A = List Call} lane_count k []) (open_none k []);
          blocks = tt;
        }
