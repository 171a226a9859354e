-- `zvt::values::values_at` meets its contract: fields 27, 04 and 87 have one, six and two bytes. Assumes nothing.
use mathlib.Core.Path.{◌≡◌, refl}
use Prim.Native.Nat.{ℕ, ◌<◌}
use native.Mathlib.Omega.{arith}
use Rattle.zvt_rules.specs.declared.Format.TheVariants.{Fixed}
use Rattle.basics.specs.Lists.{among}
use Rattle.zvt_rules.specs.Fields.{format_of, holds_digits}
use Rattle.zvt_rules.specs.Message.{read_of}
use Rattle.zvt_rules.specs.Listed.{field_answer, span_of, spans_of, places_answer}
use Rattle.zvt_rules.specs.Values.{value_in, code_in, amount_in, receipt_in, status_in, status_fields, status_of}
use Rattle.zvt.proofs.ValueLaws.{Placed, told_at}
use Rattle.zvt.proofs.values.values_at.Goals.{Start}
use Rattle.zvt.proofs.values.values_at.Goals as goal

-- the place and the value of a field of k bytes
placed : (c : Start) (id k : ℕ) → format_of id ≡ Fixed k → 0 < k
    → let s = c.args.s.now in Placed k (span_of (field_answer id s)) s (value_in id (status_fields (read_of s))) (holds_digits id)
placed c id k f n = told_at _ c.requires.places_are.bytes c.requires.pair id k f n

pub code_at-requires : goal.code_at-requires
unfolding places_answer spans_of field_answer format_of among
code_at-requires c = rw c.requires.places_are.fields (placed (goal.at.code_at-requires c).Start 0x27 1 refl (omega arith)).0

pub amount_at-requires : goal.amount_at-requires
unfolding places_answer spans_of field_answer format_of among
amount_at-requires c =
    rw c.requires.places_are.fields (placed (goal.at.amount_at-requires c).Start 0x04 6 refl (omega arith)).0

pub receipt_at-requires : goal.receipt_at-requires
unfolding places_answer spans_of field_answer format_of among
receipt_at-requires c =
    let p = placed (goal.at.receipt_at-requires c).Start 0x87 2 refl (omega arith) in
    rw c.requires.places_are.fields (p.0, p.2 refl)

pub returns : goal.returns
unfolding places_answer spans_of field_answer format_of among status_of status_in code_in amount_in receipt_in
returns c =
    rw (
      c.code_at.ensures,
      c.amount_at.ensures,
      c.receipt_at.ensures,
      c.requires.places_are.fields,
      (placed (goal.at.returns c).Start 0x27 1 refl (omega arith)).1,
      (placed (goal.at.returns c).Start 0x04 6 refl (omega arith)).1,
      (placed (goal.at.returns c).Start 0x87 2 refl (omega arith)).1,
    )
