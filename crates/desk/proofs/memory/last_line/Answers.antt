-- `desk::memory::last_line` meets its contract. Assumes nothing.
use mathlib.Core.Bool.{false, not, false≢true}
use mathlib.Core.List.{List}
use Prim.Native.Nat.{ℕ}
use Rattle.std.proofs.Common.{None, Option, Some}
use Rattle.std.specs.Option.{is_some}
use Rattle.desk_rules.specs.declared.Line.{Line}
use mathlib.Core.Path.{ap, ◌≡◌, sym, ◌∙◌}
use lib.ListN.{get_or, take}
use Rattle.desk_rules.specs.Lanes.{blank_line}
use Rattle.desk_rules.specs.Openings.{concerns, last_from, last_line}
use Rattle.desk_rules.proofs.Sums.{last-take}
use Rattle.desk_rules.proofs.LastSale.{nothing-last}
use Rattle.desk.proofs.memory.last_line.Goals as goal
use Rattle.desk.proofs.memory.last_line.Goals.{then-concerns, else-concerns}

-- who refers to nothing looks at none
none-last : (lane : ℕ) (r : Option ℕ) (ls : List Line) → is_some r ≡ false → blank_line ≡ last_line lane r ls
none-last lane None ls e = sym (nothing-last lane ls)
none-last lane (Some receipt) ls e = absurd (false≢true (sym e))

pub loop-l-init : goal.loop-l-init
unfolding last_line last_from
loop-l-init c = c.blank-last.ensures

pub loop-l-preserved : goal.loop-l-preserved
loop-l-preserved c =
    let a = c.args in
    let lines = take a.b.count a.b.lines in
    let k = c.loop-l.l-index in
    let e : concerns a.lane a.reference (get_or lines k blank_line) ≡ c.concerns.result = sym c.concerns.ensures in
    rw (last-take a.lane a.reference lines k c.loop-l-test.true, e)
    (elim c.if-concerns.branch [
      | then-concerns w ↦ rw w.if-concerns.true w.last-is
      | else-concerns w ↦ rw w.if-concerns.false (w.last-is ∙ c.loop-l.invariant)
    ])

pub returns-then-is_none : goal.returns-then-is_none
returns-then-is_none c = c.blank-last.ensures ∙ none-last _ _ _ (c.is_none.ensures ∙ ap not c.if-is_none.true)
