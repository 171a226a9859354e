-- Which messages make a line approved: a report of code 00 with an amount, the last of the payment's reports, and then a completion.
-- Assumes nothing.
use mathlib.Core.Path.{◌≡◌, refl, ap, ◌∙◌}
use mathlib.Core.Logic.{◌↔◌, ◌⊎◌, inl, inr, ⊎_elim}
use mathlib.Core.List.{List, [], ◌∷◌, ◌++◌}
use Prim.Native.Nat.{ℕ}
use native.Mathlib.Omega.{arith}
use Rattle.zvt_rules.specs.Fields.{Field}
use Rattle.zvt_rules.specs.Message.{Body}
use Rattle.zvt_rules.specs.Values.{value_in, body_fields}
use Rattle.zvt_rules.proofs.StatusLaws.{missing-exactly}
use Rattle.desk_rules.specs.declared.Kind.{Kind}
use Rattle.desk_rules.specs.declared.Kind.TheVariants.{Reversal}
use Rattle.desk_rules.specs.declared.Outcome.{Outcome}
use Rattle.desk_rules.specs.declared.Outcome.TheVariants.{Unclear, Declined, Approved}
use Rattle.desk_rules.specs.declared.Line.{Line}
use Rattle.desk_rules.specs.Course.{Call, message}
use Rattle.desk_rules.specs.believed.LastSale.{Last}
use Rattle.desk_rules.specs.believed.Due.{Reads, Report, Remembered, nothing, report, CodeIs, AmountIs, Ended, not_taken, aborted, link_lost, approved, amount_untold, differs, other_code, no_status, LineDue}
use Rattle.desk_rules.proofs.Due.{receipt-there, due-same}
use Rattle.promises.specs.Counted.{AfterCode00, fields_of, Counted, WithoutAmount}

-- a completion that is approved
pub record Completed (i : ℕ) (kind : Kind) (asked : ℕ) (fs : List Field) (c : Call) (amount : ℕ) : Type 0 where
  pub completion : List ℕ
  pub call : c ≡ message i completion
  pub body : Body
  pub completes : Reads completion 0x06 0x0F body
  pub code : CodeIs fs 0
  pub settled : AmountIs fs amount
  pub same : kind ≡ Reversal → amount ≡ asked

abbrev NotApproved : Outcome → Type 0
NotApproved o = o ≡ Approved → ⊥

declined : NotApproved Declined
declined e = let q : ◌≡◌ {A = ℕ} 0 1 = cc e in omega arith

unclear : NotApproved Unclear
unclear e = let q : ◌≡◌ {A = ℕ} 0 1 = cc e in omega arith

-- an approved end is such a completion, and any other settles 0
pub ended_so : {i a s code : ℕ} {k : Kind} {fs : List Field} {c : Call} {o : Outcome} → Ended i k a fs c o s code
    → ((o ≡ Approved) × Completed i k a fs c s) ⊎ (NotApproved o × (s ≡ 0))
ended_so (approved {s = s} {body = body} h z t r) =
    inl (refl, record { completion = s; call = refl; body = body; completes = h; code = z; settled = t; same = r })
ended_so (not_taken h) = inr (declined, refl)
ended_so (aborted h) = inr (declined, refl)
ended_so link_lost = inr (unclear, refl)
ended_so (amount_untold h z m) = inr (unclear, refl)
ended_so (differs h z t r d) = inr (unclear, refl)
ended_so (other_code h z d) = inr (unclear, refl)
ended_so (no_status h m) = inr (unclear, refl)

completed : {i a s code : ℕ} {k : Kind} {fs : List Field} {c : Call} {o : Outcome} → Ended i k a fs c o s code → o ≡ Approved → Completed i k a fs c s
completed ended e = ⊎_elim (λ x. x.1) (λ n. absurd (n.0 e)) (ended_so ended)

-- a remembered code was reported
pub reported : {ss : List (List ℕ)} {fs : List Field} {code : ℕ} → Remembered ss fs → CodeIs fs code
    → (s : List ℕ) × (l : Last Report ss s) × (fs ≡ body_fields l.holds.body)
unfolding value_in
reported (report {s = s} l) z = (s, l, refl)
reported (nothing n) z = absurd (let q : ◌≡◌ {A = ℕ} 0 1 = cc z.1 in omega arith)

module _ {before : List Line} {calls : List Call} {line : Line} (d : LineDue before calls line) where
  -- the line that is due for a completion after code 00, by how that ends it
  due-so : {kind : Kind} {o : Outcome} {settled code : ℕ} (c : AfterCode00 before calls kind)
      → Ended c.lane kind c.asked (fields_of c) (message c.lane c.completion) o settled code
      → (line.outcome ≡ o) × (line.kind ≡ kind) × (line.settled ≡ settled) × (line.code ≡ code)
  due-so {kind} c ended =
      let e = due-same d
      (record {
        sofar = c.sofar;
        last = message c.lane c.completion;
        in_order = c.in_order;
        named = c.named;
        told = c.told;
        status = fields_of c;
        its = c.its;
        receipt = receipt-there (fields_of c) c.named kind;
        ended = ended;
      }) in
      (ap (λ (l : Line). l.outcome) e, ap (λ (l : Line). l.kind) e, ap (λ (l : Line). l.settled) e, ap (λ (l : Line). l.code) e)

  -- an approved line is counted
  unfoldable pub counts : Completed line.lane line.kind line.asked d.status d.last line.settled
      → Counted before calls line.kind line.settled
  counts c =
      let r = reported d.its.remembered c.code in
      record {
        completed = record {
          lane = line.lane;
          sofar = d.sofar;
          completion = c.completion;
          in_order = d.in_order ∙ ap (λ (x : Call). d.sofar ++ (x ∷ [])) c.call;
          body = c.body;
          completes = c.completes;
          asked = line.asked;
          named = d.named;
          told = d.told;
          reported = r.0;
          last = r.1;
          its = rw r.2 at d.its;
          code = rw r.2 at c.code;
        };
        settled = rw r.2 at c.settled;
        same = c.same;
      }

  pub counted : (kind : Kind) (amount : ℕ)
      → ((line.outcome ≡ Approved) × (line.kind ≡ kind) × (line.settled ≡ amount)) ↔ Counted before calls kind amount
  counted kind amount = (
    λ e. rw (← e.1, ← e.2) (counts (completed d.ended e.0)),
    λ c. let e = due-so c.completed (approved c.completed.completes c.completed.code c.settled c.same) in (e.0, e.1, e.2),
  )

  pub not-counted : WithoutAmount before calls → (line.outcome ≡ Unclear) × (line.settled ≡ 0) × (line.code ≡ 0)
  not-counted w =
      let c = w.completed in
      let e = due-so c (amount_untold c.completes c.code ((missing-exactly 0x04 (fields_of c)).1 w.none)) in
      (e.0, e.2, e.3)
