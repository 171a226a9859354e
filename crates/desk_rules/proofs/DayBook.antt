-- Line j of the book is the line that is due for the j-th payment that ended, each lane is what the calls of its open payment say, and
-- every opening begins one payment. Assumes nothing.
use mathlib.Core.Path.{◌≡◌, refl, ap, sym, subst, ◌∙◌}
use mathlib.Core.Logic.{◌↔◌, ◌⊎◌, inl, inr, ⊎_elim}
use mathlib.Core.Bool.{true, false}
use mathlib.Core.List.{List, [], ◌∷◌, ◌++◌, map, append-nil}
use Prim.Native.Nat.{ℕ, zero, suc, ◌<◌}
use native.Mathlib.Omega.{arith}
use lib.ListN.{length, get_or, take}
use lib.Seq.{append_snoc}
use Rattle.zvt_rules.specs.Fields.{Field}
use Rattle.desk_rules.specs.declared.Kind.{Kind}
use Rattle.desk_rules.specs.declared.Outcome.{Outcome}
use Rattle.desk_rules.specs.declared.Lane.{Lane}
use Rattle.desk_rules.specs.declared.Line.{Line}
use Rattle.desk_rules.specs.Openings.{kind_of}
use Rattle.desk_rules.specs.Lanes.{blank_line, idle_lane, line_taken}
use Rattle.desk_rules.specs.Course.{Call, message, opens, needs_line}
use Rattle.desk_rules.specs.Desk.{fresh, lane_at, Accepted, run}
use Rattle.desk_rules.specs.Runs.{calls_of, total, openings}
use Rattle.desk_rules.specs.Payments.{payments_of, flattened, one_by_one}
use Rattle.desk_rules.specs.believed.Due.{Ended, not_taken, aborted, link_lost, approved, amount_untold, differs, other_code, no_status, Open, LineDue, LaneIs, idle, busy}
use Rattle.desk_rules.proofs.Calls.{every-kind}
use Rattle.desk_rules.proofs.Lanes.{total-append, opened_one, not_opened, lines-taken-total}
use Rattle.desk_rules.proofs.Runs.{count}
use Rattle.desk_rules.proofs.Due.{lane-local, due-same, lane-same}
use Rattle.desk_rules.proofs.Payment.{phase-busy}
use Rattle.desk_rules.proofs.Kept.{Blocks, kept}

-- ---- line j is due for payment j

lines-many : (ls : List Line) (ps : List (List Call)) (xs : List Line) → Blocks ls ps xs → length ps ≡ length xs
unfolding Blocks
lines-many ls [] [] b = refl
lines-many ls [] (x ∷ xs) b = absurd b
lines-many ls (p ∷ ps) [] b = absurd b
lines-many ls (p ∷ ps) (x ∷ xs) b = ap suc (lines-many _ ps xs b.1)

due-at : (ls : List Line) (ps : List (List Call)) (xs : List Line) → Blocks ls ps xs → (j : ℕ) → j < length xs
    → LineDue (ls ++ take j xs) (get_or ps j []) (get_or xs j blank_line)
unfolding Blocks
due-at ls [] [] b j h = absurd (omega arith)
due-at ls [] (x ∷ xs) b j h = absurd b
due-at ls (p ∷ ps) [] b j h = absurd b
due-at ls (p ∷ ps) (x ∷ xs) b zero h = rw append-nil b.0.due
due-at ls (p ∷ ps) (x ∷ xs) b (suc j) h = rw append_snoc at (due-at (ls ++ (x ∷ [])) ps xs b.1 j (omega arith))

-- ---- a payment begins with its opening, and has no other

unfoldable pub NoneOpens : List Call → Type 0
NoneOpens [] = Unit {0}
NoneOpens (c ∷ cs) = (opens c ≡ false) × NoneOpens cs

unfoldable pub Begins : List Call → Type 0
Begins [] = ⊥
Begins (o ∷ ds) = (needs_line o ≡ true) × (opens o ≡ true) × NoneOpens ds

ended-none : {i a s code : ℕ} {k : Kind} {fs : List Field} {c : Call} {o : Outcome} → Ended i k a fs c o s code → opens c ≡ false
unfolding opens
ended-none (not_taken h) = refl
ended-none (aborted h) = refl
ended-none link_lost = refl
ended-none (approved h z t r) = refl
ended-none (amount_untold h z m) = refl
ended-none (differs h z t r d) = refl
ended-none (other_code h z d) = refl
ended-none (no_status h m) = refl

told_none : (i : ℕ) (ss : List (List ℕ)) (cs : List Call) → NoneOpens cs → NoneOpens (map (message i) ss ++ cs)
unfolding NoneOpens opens
told_none i [] cs n = n
told_none i (s ∷ ss) cs n = (refl, told_none i ss cs n)

open-begins : {i a n : ℕ} {ls : List Line} {q : List Call} {k : Kind} {ss : List (List ℕ)} {fs : List Field} (cs : List Call)
    → Open i ls q k a n ss fs → NoneOpens cs → Begins (q ++ cs)
unfolding Begins opens needs_line
open-begins {i} {ss = ss} cs x n = rw x.in_order (every-kind (kind_of x.first), refl, told_none i ss cs n)

pub due-begins : {ls : List Line} {p : List Call} {x : Line} → LineDue ls p x → Begins p
unfolding NoneOpens
due-begins d = rw d.in_order (open-begins (d.last ∷ []) d.its (ended-none d.ended, tt))

lane-begins : {k : ℕ} {ls : List Line} {q : List Call} {l : Lane} → LaneIs k ls q l → ((q ≡ []) × (line_taken l ≡ 0)) ⊎ (Begins q × (line_taken l ≡ 1))
unfolding NoneOpens line_taken
lane-begins idle = inl (refl, refl)
lane-begins {q = q} {l = l} (busy x p s) = inr (rw append-nil at (open-begins [] x tt), rw (phase-busy p, every-kind l.kind))

-- ---- how many are opened

none-opened : (cs : List Call) → NoneOpens cs → openings cs ≡ 0
unfolding NoneOpens total
none-opened [] h = refl
none-opened (c ∷ cs) h = omega (arith, not_opened c h.0, none-opened cs h.1)

begins-one : (p : List Call) → Begins p → openings p ≡ 1
unfolding Begins total
begins-one [] h = absurd h
begins-one (o ∷ ds) h = omega (arith, opened_one o h.0, none-opened ds h.2)

lane-one : {k : ℕ} {ls : List Line} {q : List Call} {l : Lane} → LaneIs k ls q l → openings q ≡ line_taken l
unfolding total
lane-one {q = q} s = ⊎_elim (λ n. rw n.0 (sym n.1)) (λ b. begins-one q b.0 ∙ sym b.1) (lane-begins s)

openings-joined : (ps : List (List Call)) → openings (flattened ps) ≡ total openings ps
unfolding flattened total
openings-joined [] = refl
openings-joined (p ∷ ps) = rw (total-append, openings-joined ps)

blocks-count : (ls : List Line) (ps : List (List Call)) (xs : List Line) → Blocks ls ps xs → total openings ps ≡ length xs
unfolding Blocks total
blocks-count ls [] [] b = refl
blocks-count ls [] (x ∷ xs) b = absurd b
blocks-count ls (p ∷ ps) [] b = absurd b
blocks-count ls (p ∷ ps) (x ∷ xs) b = omega (arith, begins-one p (due-begins b.0.due), blocks-count _ ps xs b.1)

total-alike : {A B : Type 0} (f : A → ℕ) (g : B → ℕ) (d : A) (e : B) (xs : List A) (ys : List B)
    → length xs ≡ length ys → ((k : ℕ) → f (get_or xs k d) ≡ g (get_or ys k e))
    → total f xs ≡ total g ys
unfolding total
total-alike f g d e [] [] l h = refl
total-alike f g d e [] (y ∷ ys) l h = absurd (omega arith)
total-alike f g d e (x ∷ xs) [] l h = absurd (omega arith)
total-alike f g d e (x ∷ xs) (y ∷ ys) l h = omega (arith, h 0, total-alike f g d e xs ys (omega arith) (λ k. h (suc k)))

-- ---- a run of accepted calls

module _ (cs : List Call) (h : Accepted fresh cs) where
  abbrev lines : List Line
  lines = (run fresh cs).lines

  abbrev ended : List (List Call)
  ended = (payments_of cs).ended

  abbrev ongoing : List (List Call)
  ongoing = (payments_of cs).ongoing

  -- line j of the book is l exactly when l is due for payment j
  pub line-due : (j : ℕ) → j < length lines → (l : Line) → (get_or lines j blank_line ≡ l) ↔ LineDue (take j lines) (get_or ended j []) l
  line-due j small l = let d = due-at [] ended lines (kept cs h).blocks j small in (λ e. subst (LineDue (take j lines) (get_or ended j [])) e d, due-same d)

  -- and there are as many lines as payments that ended
  pub lines-ended : length ended ≡ length lines
  lines-ended = lines-many [] ended lines (kept cs h).blocks

  lane-there : (k : ℕ) → LaneIs k lines (get_or ongoing k []) (lane_at (run fresh cs).lanes k)
  lane-there k = lane-local lines ((kept cs h).each k).says

  -- each lane is l exactly when the calls of its open payment say so
  pub lane-due : (k : ℕ) (l : Lane) → (lane_at (run fresh cs).lanes k ≡ l) ↔ LaneIs k lines (get_or ongoing k []) l
  lane-due k l = (λ e. subst (LaneIs k lines (get_or ongoing k [])) e (lane-there k), lane-same (lane-there k))

  -- payments begin with their one opening, and lane by lane their calls are those of the run
  pub ended-begin : (j : ℕ) → j < length ended → Begins (get_or ended j [])
  ended-begin j small = due-begins (due-at [] ended lines (kept cs h).blocks j (omega (arith, lines-ended)))

  pub ongoing-begin : (k : ℕ) → (get_or ongoing k [] ≡ []) ⊎ Begins (get_or ongoing k [])
  ongoing-begin k = ⊎_elim (λ n. inl n.0) (λ b. inr b.0) (lane-begins (lane-there k))

  pub payments-calls : (k : ℕ) → calls_of k cs ≡ calls_of k (flattened ended) ++ get_or ongoing k []
  payments-calls = (kept cs h).calls

  pub openings-same : openings (one_by_one cs) ≡ openings cs
  unfolding one_by_one
  openings-same =
      rw total-append (omega (
        arith,
        openings-joined ended,
        openings-joined ongoing,
        blocks-count [] ended lines (kept cs h).blocks,
        total-alike openings line_taken [] idle_lane ongoing (run fresh cs).lanes ((kept cs h).slots ∙ sym (kept cs h).lanes) (λ k. lane-one (lane-there k)),
        lines-taken-total (run fresh cs).lanes,
        (count cs h).0,
      ))
