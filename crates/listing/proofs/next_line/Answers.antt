-- `listing::next_line`: the cases of the next line. Assumes nothing.
use mathlib.Core.Path.{sym, ◌∙◌}
use native.Mathlib.Omega.{arith}
use Rattle.std.proofs.Common.{rules}
use Rattle.zvt.proofs.Slices.{bytes-known}
use Rattle.listing.proofs.LineLaws.{ids-told}
use Rattle.listing.proofs.NextLaws.{next-over, next-none, next-refused, next-within, next-some-bytes, next-message}
use Rattle.listing.proofs.next_line.Goals as goal

pub returns-then-rest-gt-LIMIT : goal.returns-then-rest-gt-LIMIT
returns-then-rest-gt-LIMIT c = rw (next-over c.args.count c.args.rest.now (omega arith)) (search rules)

pub returns-then-rest-eq0 : goal.returns-then-rest-eq0
returns-then-rest-eq0 c = rw (next-none c.args.count c.args.rest.now (omega arith)) (search rules)

pub returns-in-Err : goal.returns-in-Err
returns-in-Err c =
    let refusal = sym c.read_first-first.ensures.answer ∙ c.in-Err.is in
    rw (next-refused c.args.count c.args.rest.now (omega arith) (λ k. omega arith) _ refusal) (search rules)

pub returns-in-Ok : goal.returns-in-Ok
returns-in-Ok c =
    let rest = c.args.rest.now in
    let known = bytes-known rest c.type_inv.rest in
    let message = sym c.read_first-first.ensures.answer ∙ c.in-Ok.is in
    let ids = ids-told rest _ c.read_first-first.ensures.lent.0 c.read_first-first.ensures.lent.1 in
    rw (next-message rest known _ _ message c.args.count (omega arith) (λ k. omega arith))
    record {
      line = rw (ids, c.from-listed.ensures) at c.message_line-end.ensures;
      next = search rules;
      within = (next-some-bytes rest known _ _ message, next-within rest known _ _ message, omega arith);
    }
