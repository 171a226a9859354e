-- `zvt::card_name` meets its contract: field 8B up to its first zero byte, in place, or the till's own name. Assumes nothing.
use mathlib.Core.Path.{◌≡◌, sym, ◌∙◌}
use mathlib.Core.Bool.{true}
use Prim.Native.Nat.{◌+◌, ◌≤◌}
use native.Mathlib.Omega.{arith}
use lib.ListN.{length}
use Rattle.std.proofs.Common.{Ok, Some, ap}
use Rattle.basics.specs.believed.Lists.{Bytes}
use Rattle.zvt_rules.specs.Listed.{field_answer}
use Rattle.zvt_rules.specs.Name.{up_to_zero}
use Rattle.basics.specs.Lists.{part}
use Rattle.zvt.specs.ValueSteps.{status_pair}
use Rattle.zvt.proofs.Slices.{bytes-known}
use Rattle.zvt.proofs.AskingLaws.{value-lies}
use Rattle.zvt.proofs.NameLaws.{own_name, part-name, name-other, name-absent, name-refused, name-empty, name-found, name-inside, name-size}
use Rattle.zvt.proofs.card_name.Goals.{After-field, In-Ok-Some, After-find-size}
use Rattle.zvt.proofs.card_name.Goals as goal

-- a status information that was asked for field 8B
bytes : (c : After-field) → Bytes c.args.s.now
bytes c = bytes-known _ c.type_inv.s

status : (c : After-field) → status_pair c.args.s.now ≡ true
status c = sym c.is_status.ensures ∙ c.if-not-is_status.false

-- and has one
found : (c : In-Ok-Some) → field_answer 0x8B c.args.s.now ≡ Ok (Some c.in-Ok-Some.field-0-0)
found c = sym c.field.ensures ∙ c.in-Ok-Some.is ∙ ap Ok c.in-Ok-Some.field-0-is

lies : (c : In-Ok-Some) → let p = c.in-Ok-Some.field-0-0 in (p.from ≤ p.to) × (p.to ≤ length c.args.s.now)
lies c = value-lies _ (bytes-known _ c.type_inv.s) _ _ (found c)

-- its name goes up to the first zero byte, and is no longer than its value
named : (c : After-find-size)
    → let p = c.in-Ok-Some.field-0-0 in c.find-size.result ≡ length (up_to_zero (part p.from p.to c.args.s.now))
named c =
    let p = c.in-Ok-Some.field-0-0 in omega (arith, c.find-size.ensures.place, name-size (part p.from p.to c.args.s.now))

inside : (c : After-find-size)
    → let p = c.in-Ok-Some.field-0-0 in (p.from + c.find-size.result ≤ p.to) × (p.to ≤ length c.args.s.now)
inside c =
    let f = sym c.field.ensures ∙ c.in-Ok-Some.is ∙ ap Ok c.in-Ok-Some.field-0-is in
    let b = bytes-known _ c.type_inv.s in
    let h = value-lies _ b _ _ f in
    (name-inside _ b (sym c.is_status.ensures ∙ c.if-not-is_status.false) _ f _ (named c) h.0 h.1, h.1)

pub returns-then-not-is_status : goal.returns-then-not-is_status
returns-then-not-is_status c =
    let a = c.args in
    let h = own_name a.s.now a.own.now a.s.ref_ptr a.own.ref_ptr
    (name-other _ (bytes-known _ c.type_inv.s) (sym c.is_status.ensures ∙ c.if-not-is_status.true)) in
    record { bytes = h.0; place = h.1 }

pub slice_bounds-find-count : goal.slice_bounds-find-count
slice_bounds-find-count c = let h = lies (goal.at.slice_bounds-find-count c).In-Ok-Some in omega arith

pub slice_bounds-find-start : goal.slice_bounds-find-start
slice_bounds-find-start c = let h = lies (goal.at.slice_bounds-find-start c).In-Ok-Some in omega arith

pub slice_bounds-find-end : goal.slice_bounds-find-end
slice_bounds-find-end c = let h = lies (goal.at.slice_bounds-find-end c).In-Ok-Some in omega arith

pub returns-then-size-eq0 : goal.returns-then-size-eq0
returns-then-size-eq0 c =
    let a = c.args in
    let g = (goal.at.returns-then-size-eq0 c).After-field in
    let f = sym c.field.ensures ∙ c.in-Ok-Some.is ∙ ap Ok c.in-Ok-Some.field-0-is in
    let h = own_name a.s.now a.own.now a.s.ref_ptr a.own.ref_ptr
    (name-empty _ (bytes g) (status g) _ f _ (named (goal.at.returns-then-size-eq0 c).After-find-size) c.if-size-eq0.true) in
    record { bytes = h.0; place = h.1 }

pub returns-in-Ok-None : goal.returns-in-Ok-None
returns-in-Ok-None c =
    let a = c.args in
    let g = (goal.at.returns-in-Ok-None c).After-field in
    let h = own_name a.s.now a.own.now a.s.ref_ptr a.own.ref_ptr
    (name-absent _ (bytes g) (status g) (sym c.field.ensures ∙ c.in-Ok-None.is ∙ ap Ok c.in-Ok-None.field-0-is)) in
    record { bytes = h.0; place = h.1 }

pub returns-in-Err : goal.returns-in-Err
returns-in-Err c =
    let a = c.args in
    let g = (goal.at.returns-in-Err c).After-field in
    let h = own_name a.s.now a.own.now a.s.ref_ptr a.own.ref_ptr
    (name-refused _ (bytes g) (status g) _ (sym c.field.ensures ∙ c.in-Err.is)) in
    record { bytes = h.0; place = h.1 }

pub returns-else-size-eq0 : goal.returns-else-size-eq0
returns-else-size-eq0 c =
    let a = c.args in
    let g = (goal.at.returns-else-size-eq0 c).After-field in
    let f = sym c.field.ensures ∙ c.in-Ok-Some.is ∙ ap Ok c.in-Ok-Some.field-0-is in
    let h = part-name a.s.now a.own.now a.s.ref_ptr a.own.ref_ptr _ _
    (name-found _ (bytes g) (status g) _ f _ (named (goal.at.returns-else-size-eq0 c).After-find-size) c.if-size-eq0.false) in
    record { bytes = h.0; place = h.1 }
