-- Payments may be read one by one: the run of a list of calls, payment after payment, is accepted, leaves the same state and writes
-- the same replies. Assumes nothing.
use mathlib.Core.Path.{◌≡◌, refl, ap, ap₂, sym, subst, ◌∙◌}
use mathlib.Core.List.{List, [], ◌∷◌, ◌++◌, append-nil, append_assoc}
use Prim.Native.Nat.{ℕ, zero, suc}
use native.Mathlib.Omega.{arith}
use lib.ListN.{length, get_or, length-append, get_or-eq_default}
use lib.Seq.{append_snoc, ext_get_or}
use borrow.Author.Tests.{eq-eqb, ne_eqb}
use Rattle.desk_rules.specs.declared.Lane.{Lane}
use Rattle.desk_rules.specs.declared.Line.{Line}
use Rattle.desk_rules.specs.Numbers.{lane_count}
use Rattle.desk_rules.specs.Lanes.{idle_lane, line_taken}
use Rattle.desk_rules.specs.Course.{Call, lane_of}
use Rattle.desk_rules.specs.Desk.{State, fresh, lane_at, lines_taken, load, step, Accepted, run}
use Rattle.desk_rules.specs.Runs.{having, calls_of, Own, own_of}
use Rattle.desk_rules.specs.Payments.{payments_of, flattened, one_by_one}
use Rattle.desk_rules.proofs.Lanes.{having-append}
use Rattle.desk_rules.proofs.Runs.{run-append, lanes-run, count, alone, AcceptedAlone, replies_to, replies_alone, run_alone, replies-alone, accepted-alone, accepted-from}
use Rattle.desk_rules.proofs.Payment.{Brings, idle-again}
use Rattle.desk_rules.proofs.Kept.{Blocks, all_same, kept}
use Rattle.desk_rules.proofs.DayBook.{openings-same}

-- ---- the calls of a lane are the same, in the same order

-- of lists of which only one has calls of lane k, that one's
one_of : (k i : ℕ) (os : List (List Call)) → ((j : ℕ) → (j ≡ i → ⊥) → calls_of k (get_or os j []) ≡ []) → calls_of k (flattened os) ≡ calls_of k (get_or os i [])
unfolding flattened having
one_of k i [] h = refl
one_of k zero (o ∷ os) h =
    rw (
      having-append lane_of k o,
      one_of k (length os) os (λ j n. h (suc j) (λ e. omega arith)),
      get_or-eq_default os [] {n = length os} (omega arith),
    ) (append-nil _)
one_of k (suc i) (o ∷ os) h = rw (having-append lane_of k o, h 0 (λ e. omega arith)) (one_of k i os (λ j n. h (suc j) (λ e. n (omega arith))))

pub same-calls : (cs : List Call) → Accepted fresh cs → (k : ℕ) → calls_of k (one_by_one cs) ≡ calls_of k cs
unfolding one_by_one
same-calls cs h k =
    let p = payments_of cs in
    let r = kept cs h in
    rw (
      having-append lane_of k (flattened p.ended),
      one_of k k p.ongoing (λ j n. (r.each j).its k ∙ rw (ne_eqb j k n)),
      (r.each k).its k,
      eq-eqb k k refl,
    ) (sym (r.calls k))

-- ---- the lines are the same, in the same order

-- ended payments one after the other bring their lines, and leave the lanes idle
blocks-run : (ps : List (List Call)) (xs : List Line) (s : State) → length s.lanes ≡ lane_count → ((k : ℕ) → lane_at s.lanes k ≡ idle_lane)
    → Blocks s.lines ps xs → run s (flattened ps) ≡ record { lanes = s.lanes; lines = s.lines ++ xs }
unfolding flattened run Blocks Brings
blocks-run [] [] s e idle b = ap (λ (ls : List Line). record { lanes = s.lanes; lines = ls }) (sym (append-nil s.lines))
blocks-run [] (x ∷ xs) s e idle b = absurd b
blocks-run (p ∷ ps) [] s e idle b = absurd b
blocks-run (p ∷ ps) (x ∷ xs) s e idle b =
    let k = b.0 in
    rw (run-append s p (flattened ps), k.brings s (omega (arith, k.small)) (idle k.lane) refl, idle-again s.lanes k.lane (idle k.lane))
    (rw append_snoc at (blocks-run ps xs (record { lanes = s.lanes; lines = s.lines ++ (x ∷ []) }) e idle b.1))

lines-run : (s : State) (cs : List Call) → (more : List Line) × ((run s cs).lines ≡ s.lines ++ more)
unfolding run step
lines-run s [] = ([], sym (append-nil s.lines))
lines-run s (c ∷ cs) = let g = lines-run (step s c) cs in (_, g.1 ∙ append_assoc s.lines _ g.0)

as_long : {A : Type 0} (xs ys more : List A) → xs ≡ ys ++ more → length xs ≡ length ys → xs ≡ ys
as_long xs ys [] e l = e ∙ append-nil ys
as_long xs ys (m ∷ more) e l = absurd (omega (arith, ap length e, length-append ys (m ∷ more)))

-- the ended payments bring the whole book
lines-one-by-one : (cs : List Call) → Accepted fresh cs → (more : List Line) × ((run fresh (one_by_one cs)).lines ≡ (run fresh cs).lines ++ more)
unfolding one_by_one fresh
lines-one-by-one cs h =
    let p = payments_of cs in
    let g = lines-run (run fresh (flattened p.ended)) (flattened p.ongoing) in (
      g.0,
      rw (run-append fresh (flattened p.ended) (flattened p.ongoing))
          (g.1 ∙ ap (λ (s : State). s.lines ++ g.0) (blocks-run p.ended _ fresh refl (λ k. all_same lane_count k idle_lane) (kept cs h).blocks)),
    )

pub order : (cs : List Call) → Accepted fresh cs
    → Accepted fresh (one_by_one cs) × (run fresh (one_by_one cs) ≡ run fresh cs) × ((k : ℕ) → replies_to k fresh (one_by_one cs) ≡ replies_to k fresh cs)
unfolding fresh load lines_taken line_taken
order cs h = (
  accepted,
  ap₂ (λ (ls : List Lane) (xs : List Line). record { lanes = ls; lines = xs }) lanes
      (as_long _ _ more.0 more.1 (omega (
        arith,
        (count cs h).0,
        (count (one_by_one cs) accepted).0,
        openings-same cs h,
        ap lines_taken lanes,
      ))),
  λ k. replies-alone fresh (one_by_one cs) k refl accepted ∙ ap (replies_alone (own_of k fresh)) (same-calls cs h k) ∙ sym (replies-alone fresh cs k refl h),
)
  where
    accepted : Accepted fresh (one_by_one cs)
    accepted =
        accepted-from fresh (one_by_one cs) refl (λ k. subst (AcceptedAlone (own_of k fresh)) (sym (same-calls cs h k)) (accepted-alone fresh cs k refl h))
        (omega (arith, openings-same cs h, (count cs h).1))

    each : (k : ℕ) → own_of k (run fresh (one_by_one cs)) ≡ own_of k (run fresh cs)
    each k = run_alone fresh (one_by_one cs) k refl accepted ∙ ap (alone (own_of k fresh)) (same-calls cs h k) ∙ sym (run_alone fresh cs k refl h)

    lanes : (run fresh (one_by_one cs)).lanes ≡ (run fresh cs).lanes
    lanes = ext_get_or idle_lane _ _ (lanes-run fresh (one_by_one cs) ∙ sym (lanes-run fresh cs)) (λ k _. ap (λ (o : Own). o.lane) (each k))

    more : (xs : List Line) × ((run fresh (one_by_one cs)).lines ≡ (run fresh cs).lines ++ xs)
    more = lines-one-by-one cs h
