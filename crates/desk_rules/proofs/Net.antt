-- The net turnover of a run, from its payments. Assumes nothing.
use mathlib.Core.Path.{◌≡◌, refl, ap₂}
use mathlib.Core.Logic.{inl, inr}
use mathlib.Core.List.{List, [], ◌∷◌, ◌++◌}
use Prim.Native.Nat.{ℕ, ◌+◌}
use native.Mathlib.Omega.{arith}
use lib.IntN.{pos, ◌-ℤ◌}
use Rattle.desk_rules.specs.declared.Kind.{Kind}
use Rattle.desk_rules.specs.declared.Kind.TheVariants.{Sale, Refund, Reversal}
use Rattle.desk_rules.specs.declared.Outcome.{Outcome}
use Rattle.desk_rules.specs.declared.Outcome.TheVariants.{Unclear, Declined, Approved}
use Rattle.desk_rules.specs.declared.Line.{Line}
use Rattle.desk_rules.specs.Course.{Call}
use Rattle.desk_rules.specs.Desk.{fresh, Accepted, run}
use Rattle.desk_rules.specs.Runs.{total}
use Rattle.desk_rules.specs.Payments.{payments_of}
use Rattle.desk_rules.specs.Turnover.{gain, loss, gains, losses, net_of}
use Rattle.desk_rules.specs.believed.Due.{Counts, adds, takes, neither, Takings, none, more}
use Rattle.desk_rules.proofs.Due.{due-same}
use Rattle.desk_rules.proofs.Kept.{Blocks, kept}

-- ---- a line counts for what it adds and takes

counts-are : {l : Line} {plus minus : ℕ} → Counts l plus minus → (gain l ≡ plus) × (loss l ≡ minus)
counts-are (adds o k) = (rw (o, k), rw (o, k))
counts-are (takes o (inl k)) = (rw (o, k), rw (o, k))
counts-are (takes o (inr k)) = (rw (o, k), rw (o, k))
counts-are {l} (neither n) = go l.outcome refl l.kind refl
  where
    go : (o : Outcome) → l.outcome ≡ o → (k : Kind) → l.kind ≡ k → (gain l ≡ 0) × (loss l ≡ 0)
    go Approved e k f = absurd (n e)
    go Unclear e Sale f = (rw (e, f), rw (e, f))
    go Unclear e Refund f = (rw (e, f), rw (e, f))
    go Unclear e Reversal f = (rw (e, f), rw (e, f))
    go Declined e Sale f = (rw (e, f), rw (e, f))
    go Declined e Refund f = (rw (e, f), rw (e, f))
    go Declined e Reversal f = (rw (e, f), rw (e, f))

counts-there : (l : Line) → (plus : ℕ) × (minus : ℕ) × Counts l plus minus
counts-there l = go l.outcome refl l.kind refl
  where
    go : (o : Outcome) → l.outcome ≡ o → (k : Kind) → l.kind ≡ k → (plus : ℕ) × (minus : ℕ) × Counts l plus minus
    go Unclear e k f = (0, 0, neither λ g. absurd (let q : ◌≡◌ {A = ℕ} 0 1 = cc in omega arith))
    go Declined e k f = (0, 0, neither λ g. absurd (let q : ◌≡◌ {A = ℕ} 0 1 = cc in omega arith))
    go Approved e Sale f = (l.settled, 0, adds e f)
    go Approved e Refund f = (0, l.settled, takes e (inl f))
    go Approved e Reversal f = (0, l.settled, takes e (inr f))

-- ---- the sums over payments

takings-are : {before : List Line} {ps : List (List Call)} {plus minus : ℕ} (xs : List Line) → Takings before ps plus minus → Blocks before ps xs
    → (gains xs ≡ plus) × (losses xs ≡ minus)
unfolding Blocks total
takings-are [] none b = (refl, refl)
takings-are (x ∷ xs) none b = absurd b
takings-are [] (more d c t) b = absurd b
takings-are {before} (x ∷ xs) (more {l = l} d c t) b =
    let e = due-same b.0.due d in
    let k = counts-are c in
    let r = takings-are {before = before ++ (l ∷ [])} xs t (rw e at b.1) in
    rw e (ap₂ (λ (a b : ℕ). a + b) k.0 r.0, ap₂ (λ (a b : ℕ). a + b) k.1 r.1)

takings-there : (before : List Line) (ps : List (List Call)) (xs : List Line) → Blocks before ps xs → (plus : ℕ) × (minus : ℕ) × Takings before ps plus minus
unfolding Blocks
takings-there before [] [] b = (0, 0, none)
takings-there before [] (x ∷ xs) b = absurd b
takings-there before (p ∷ ps) [] b = absurd b
takings-there before (p ∷ ps) (x ∷ xs) b =
    let c = counts-there x in
    let t = takings-there (before ++ (x ∷ [])) ps xs b.1 in
    (c.0 + t.0, c.1 + t.1, more b.0.due c.2 t.2)

-- there are takings of the ended payments, and the net turnover is their difference
module _ (cs : List Call) (h : Accepted fresh cs) where
  pub turnover-there : (plus : ℕ) × (minus : ℕ) × Takings [] (payments_of cs).ended plus minus
  turnover-there = takings-there [] (payments_of cs).ended _ (kept cs h).blocks

  pub turnover-due : (plus minus : ℕ) → Takings [] (payments_of cs).ended plus minus → net_of (run fresh cs).lines ≡ pos plus -ℤ pos minus
  unfolding net_of
  turnover-due plus minus t = let k = takings-are _ t (kept cs h).blocks in rw (k.0, k.1)
