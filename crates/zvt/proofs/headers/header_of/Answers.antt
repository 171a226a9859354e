-- `zvt::headers::header_of` meets its contract. Assumes nothing.
use mathlib.Core.Path.{sym, ◌∙◌}
use native.Mathlib.Omega.{arith}
use Rattle.std.proofs.Common.{◌≡◌, ◌*◌, ◌+◌, get_or}
use Rattle.zvt.proofs.HeaderLaws.{header-none, header-short, header-cut, header-long}
use Rattle.zvt.proofs.headers.header_of.Goals as goal

pub returns-then-s-lt3 : goal.returns-then-s-lt3
returns-then-s-lt3 c = rw c.unplaced-cut.ensures (sym (header-none c.args.s.now c.if-s-lt3.true))

pub returns-then-b : goal.returns-then-b
returns-then-b c = rw c.from.ensures at c.fitted.ensures ∙ sym (header-short _ (omega arith) c.if-b.true)

pub returns-then-s-lt5 : goal.returns-then-s-lt5
returns-then-s-lt5 c = rw c.unplaced-cut.ensures (sym (header-cut _ (omega arith) c.if-b.false c.if-s-lt5.true))

pub returns : goal.returns
returns c =
    let s = c.args.s.now in
    let length : c.from-2.result ≡ get_or s 4 0 * 256 + get_or s 3 0 = omega (arith, c.from-2.ensures, c.from_le_bytes-length.ensures) in
    rw length at c.fitted-2.ensures ∙ sym (header-long _ (omega arith) c.if-b.false)
