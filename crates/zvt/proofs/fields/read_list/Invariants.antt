-- The invariant of `zvt::fields::read_list`: the array marks the ids that came, and the bytes from i on, with what is spared and
-- noted before, answer as the whole list does; the measure is what is left of the bytes. Assumes nothing.
use Rattle.std.proofs.Common.{◌≡◌, ℕ, ◌-◌, ◌≤◌, List, length}
use Rattle.zvt.specs.FieldSteps.{list_answer}
use Rattle.zvt.proofs.ListLaws.{Marks, list_from}
use Rattle.zvt.proofs.WalkLaws.{Noting}
use Rattle.zvt.proofs.fields.read_list.Given as goal

abbrev pub invariant-loop-i : goal.invariant-loop-i
invariant-loop-i l =
    (l.i ≤ length l.p.bytes.now) × (l.spare ≤ l.i) × (came : List ℕ) × Marks l.seen came
    × (list_answer l.p.at l.p.bytes.now ≡ list_from l.p.at l.p.bytes.now came l.objects l.i l.spare)
    × (length l.lies ≡ length l.ids) × Noting l.p.at l.p.bytes.now l.ids came l.objects l.i l.lies

abbrev pub decreases-loop-i : goal.decreases-loop-i
decreases-loop-i l = length l.p.bytes.now - l.i
