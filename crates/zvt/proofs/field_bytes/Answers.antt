-- `zvt::field_bytes` meets its contract: the part of the message where the field's value lies, or the other bytes. Assumes nothing.
use Rattle.std.proofs.Common.{sym, ap, ◌∙◌, Ok}
use Rattle.zvt.proofs.Slices.{bytes-known}
use Rattle.zvt.proofs.AskingLaws.{value-lies, handed-part, handed-absent, handed-refused}
use Rattle.zvt.proofs.field_bytes.Goals as goal

pub slice_bounds-result-count : goal.slice_bounds-result-count
slice_bounds-result-count c = (value-lies _ (bytes-known _ c.type_inv.s) _ _ (sym c.field.ensures ∙ c.in-Ok-Some.is ∙ ap Ok c.in-Ok-Some.field-0-is)).0

pub slice_bounds-result-start : goal.slice_bounds-result-start
slice_bounds-result-start c = (value-lies _ (bytes-known _ c.type_inv.s) _ _ (sym c.field.ensures ∙ c.in-Ok-Some.is ∙ ap Ok c.in-Ok-Some.field-0-is)).0

pub slice_bounds-result-end : goal.slice_bounds-result-end
slice_bounds-result-end c = (value-lies _ (bytes-known _ c.type_inv.s) _ _ (sym c.field.ensures ∙ c.in-Ok-Some.is ∙ ap Ok c.in-Ok-Some.field-0-is)).1

pub returns-in-Ok-None : goal.returns-in-Ok-None
returns-in-Ok-None c =
    let h = handed-absent _ _ _ _ _ (sym c.field.ensures ∙ c.in-Ok-None.is ∙ ap Ok c.in-Ok-None.field-0-is) in
    record { bytes = h.0; place = h.1 }

pub returns-in-Ok-Some : goal.returns-in-Ok-Some
returns-in-Ok-Some c =
    let h = handed-part _ _ _ _ _ _ (sym c.field.ensures ∙ c.in-Ok-Some.is ∙ ap Ok c.in-Ok-Some.field-0-is) in
    record { bytes = h.0; place = h.1 }

pub returns-in-Err : goal.returns-in-Err
returns-in-Err c =
    let h = handed-refused _ _ _ _ _ _ (sym c.field.ensures ∙ c.in-Err.is) in
    record { bytes = h.0; place = h.1 }
