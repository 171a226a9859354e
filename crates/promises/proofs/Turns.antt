-- A day of the desk's own answers goes as the course says. Assumes nothing.
use mathlib.Core.Path.{◌≡◌, refl, sym, ap, ap₂, subst, ◌∙◌}
use mathlib.Core.List.{List, [], ◌∷◌}
use Prim.Native.Nat.{ℕ}
use lib.ListN.{length}
use Rattle.std.specs.Prelude.{Result}
use Rattle.zvt_rules.specs.declared.Refusal.{Refusal}
use Rattle.desk_rules.specs.declared.Desk.{Desk}
use Rattle.desk_rules.specs.Course.{lane_of}
use Rattle.desk_rules.specs.Desk.{State, fresh, Accepted, run, wrote}
use Rattle.desk_rules.specs.Memory.{fresh_desk, view, Valid, leaves_of}
use Rattle.desk_rules.specs.Runs.{having, replies}
use Rattle.desk_rules.proofs.Lanes.{accepts-any}
use Rattle.desk_rules.proofs.Runs.{replies_to}
use Rattle.desk_rules.proofs.Memory.{follows, fresh-valid, answer-valid, view-fresh}
use Rattle.promises.specs.Days.{DeskTurn, calls_in, OfBytes, answer_in, Taken, desk_after, bytes_by, written_in, replies_at}
use Rattle.promises.proofs.Answers.{decided-yes, call-wrote}

-- ---- an accepted call is one of the course
-- what a day of accepted calls leaves, and what each wrote
pub record Gone (d : Desk) (ts : List DeskTurn) : Type 0 where
  pub accepted : Accepted (view d) (calls_in ts)
  pub leaves : view (desk_after d ts) ≡ run (view d) (calls_in ts)
  pub wrote_same : written_in d ts ≡ wrote (view d) (calls_in ts)
  pub fit : Valid (desk_after d ts)

pub goes : (ts : List DeskTurn) (d : Desk) → Valid d → OfBytes (calls_in ts) → Taken d ts → Gone d ts
unfolding Taken OfBytes calls_in desk_after written_in bytes_by Accepted run wrote view
goes [] d v b t = record { accepted = tt; leaves = refl; wrote_same = refl; fit = v }
goes (x ∷ ts) d v b t =
    let c = x.call in
    let room = length x.out in
    let e = (decided-yes d c room).0 t.0 in
    let same = follows d c room v e in
    let r = goes ts (answer_in d x).desk (answer-valid d c room v b.0) b.1 t.1 in
    record {
      accepted = (accepts-any (view d) c room e, subst (λ (s : State). Accepted s (calls_in ts)) same r.accepted);
      leaves = r.leaves ∙ ap (λ (s : State). run s (calls_in ts)) same;
      wrote_same =
          ap₂ (λ (w : List ℕ) (ws : List (List ℕ)). w ∷ ws)
          (ap (λ (r : Result ℕ Refusal). bytes_by r (leaves_of d c x.out)) t.0.1 ∙ call-wrote d c x.out t.0.0 t.0.1)
          (r.wrote_same ∙ ap (λ (s : State). wrote s (calls_in ts)) same);
      fit = r.fit;
    }

-- ---- a day from a fresh desk
pub record Day (day : List DeskTurn) : Type 0 where
  pub accepted : Accepted fresh (calls_in day)
  pub leaves : view (desk_after fresh_desk day) ≡ run fresh (calls_in day)
  pub wrote_same : written_in fresh_desk day ≡ wrote fresh (calls_in day)

pub a-day : (day : List DeskTurn) → OfBytes (calls_in day) → Taken fresh_desk day → Day day
a-day day b t =
    let g = goes day fresh_desk fresh-valid b t in
    record {
      accepted = subst (λ (s : State). Accepted s (calls_in day)) view-fresh g.accepted;
      leaves = g.leaves ∙ ap (λ (s : State). run s (calls_in day)) view-fresh;
      wrote_same = g.wrote_same ∙ ap (λ (s : State). wrote s (calls_in day)) view-fresh;
    }

-- what holds of the state that the course leaves holds of the desk
pub of-desk : (P : State → Type 0) (day : List DeskTurn) → Day day → P (run fresh (calls_in day)) → P (view (desk_after fresh_desk day))
of-desk P day g h = subst P (sym g.leaves) h

-- and each call wrote what the course says
pub replies-same : (k : ℕ) (day : List DeskTurn) → Day day → replies_at k day ≡ replies_to k fresh (calls_in day)
unfolding replies_to
replies-same k day g = ap (λ (ws : List (List ℕ)). having (λ r. lane_of r.call) k (replies (calls_in day) ws)) g.wrote_same
