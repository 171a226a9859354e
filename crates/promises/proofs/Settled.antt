-- Every settled amount was reported: it is the number in field 04 of a report, among the payment's own calls. Assumes nothing.
use mathlib.Core.Path.{ap, ◌∙◌}
use mathlib.Core.Logic.{inl, inr, ⊎_elim}
use mathlib.Core.List.{List, [], ◌∷◌, map}
use Prim.Native.Nat.{ℕ, zero, suc}
use lib.ListN.{get_or}
use Rattle.basics.specs.believed.Lists.{Bytes, In}
use Rattle.zvt_rules.specs.declared.Status.{Status}
use Rattle.basics.proofs.Lists.{in-none, in-first, in-more, in_left, in_right, Each, in-each}
use Rattle.zvt_rules.proofs.StatusLaws as status
use Rattle.desk_rules.specs.declared.Line.{Line}
use Rattle.desk_rules.specs.Course.{Call, message, NumbersFit}
use Rattle.desk_rules.specs.Desk.{fresh, Accepted}
use Rattle.desk_rules.specs.Payments.{payments_of, flattened, one_by_one}
use Rattle.desk_rules.specs.believed.Due.{LineDue}
use Rattle.desk_rules.proofs.Due.{code_is, amount-is, report-status}
use Rattle.desk_rules.proofs.Order.{same-calls}
use Rattle.promises.specs.Days.{OfBytes}
use Rattle.promises.specs.Counted.{fields_of, Reported, Settled, by_report, nothing}
use Rattle.promises.proofs.OtherDays.{same_bytes}
use Rattle.promises.proofs.Counted.{Completed, ended_so, counts}

-- ---- the calls of a payment are of bytes

in-payments : {c : Call} (ps : List (List Call)) (j : ℕ) → In c (get_or ps j []) → In c (flattened ps)
unfolding flattened
in-payments [] j k = in-none k
in-payments (p ∷ ps) zero k = in_left p (flattened ps) k
in-payments (p ∷ ps) (suc j) k = in_right p (flattened ps) (in-payments ps j k)

each_fits : (cs : List Call) → OfBytes cs → Each NumbersFit cs
unfolding OfBytes Each
each_fits [] b = tt
each_fits (c ∷ cs) b = (b.0, each_fits cs b.1)

pub payment-bytes : (cs : List Call) → Accepted fresh cs → OfBytes cs → (j : ℕ) {i : ℕ} {s : List ℕ}
    → In (message i s) (get_or (payments_of cs).ended j []) → Bytes s
unfolding NumbersFit one_by_one
payment-bytes cs h b j k =
    let all = each_fits (one_by_one cs) (same_bytes cs (one_by_one cs) (same-calls cs h) b) in
    in-each NumbersFit (one_by_one cs) all (in_left _ _ (in-payments (payments_of cs).ended j k))

-- ---- the report of an approved line

in-messages : (i : ℕ) {s : List ℕ} (ss : List (List ℕ)) → In s ss → In (message i s) (map (message i) ss)
in-messages i [] k = in-none k
in-messages i (t ∷ ss) k = in-more (⊎_elim (λ e. inl (ap (message i) e)) (λ k. inr (in-messages i ss k)) (in-first k))

module _ {before : List Line} {calls : List Call} {line : Line} (d : LineDue before calls line)
    (bytes : (s : List ℕ) → In (message line.lane s) calls → Bytes s) where
  approved-by : Completed line.lane line.kind line.asked d.status d.last line.settled → Reported before calls line
  unfolding counts
  approved-by done =
      let k = counts d done in
      let c = k.completed in
      let s = c.reported in
      let l = c.last in
      let told = report-status s l.holds in
      let own = in-messages line.lane c.told (l.before, l.after, l.all) in
      let at : In (message line.lane s) calls = rw (c.in_order, c.its.in_order) (in_left _ _ (in-more (inr own))) in
      record {
        counted = k;
        own_lane = at;
        code = (status.code-exactly s (bytes s at) 0).0 (ap (λ (x : Status). x.code) told ∙ code_is (fields_of c) 0 c.code);
        field_04 =
            (status.amount-exactly s (bytes s at) line.settled).0
            (ap (λ (x : Status). x.amount) told ∙ amount-is (fields_of c) line.settled k.settled);
      }

  pub settled-by : Settled before calls line
  settled-by = ⊎_elim (λ x. by_report x.0 (approved-by x.1)) (λ n. nothing n.0 n.1) (ended_so d.ended)
