-- `zvt::shorten` meets its contract: the size of what is written is known from the reading, and there is room for it or not.
-- Assumes nothing.
use mathlib.Core.Path.{◌≡◌, sym, ◌∙◌}
use native.Mathlib.Omega.{arith}
use Rattle.std.proofs.Common.{Ok}
use Rattle.basics.proofs.Exits.{handed-on}
use Rattle.zvt.specs.HeaderSteps.{whole_answer}
use Rattle.zvt.proofs.HeaderLaws.{whole-within}
use Rattle.zvt.proofs.Slices.{bytes-known}
use Rattle.zvt.proofs.ShortMessages.{no_header, no_body, Short, short-found, no_room, message-room, written_out}
use Rattle.zvt.proofs.BodyLaws.{body-read, body-refused}
use Rattle.zvt.proofs.shorten.Goals as goal
use Rattle.zvt.proofs.shorten.Goals.{In_ok-h, In_ok-body}

-- ---- there is a header
headed : (c : In_ok-h) → whole_answer c.args.s.now ≡ Ok c.in_ok-h.h
headed c = sym c.in_ok-h.ensures

pub returns-in_err-h : goal.returns-in_err-h
returns-in_err-h c =
    let e = no_header _ c.args.out.now _ (sym c.in_err-h.ensures) in
    record { answer = handed-on c.from_residual.ensures.1 ∙ e.0; lent = e.1 }

pub body_in-requires : goal.body_in-requires
body_in-requires c = whole-within _ _ (headed (goal.at.body_in-requires c).In_ok-h)

pub returns-in_err-body : goal.returns-in_err-body
returns-in_err-body c =
    let h = headed (goal.at.returns-in_err-body c).In_ok-h in
    let e = no_body _ _ h c.args.out.now _ (body-refused _ _ _ _ (sym c.in_err-body.ensures)) in
    record { answer = handed-on c.from_residual-in_err-body.ensures.1 ∙ e.0; lent = e.1 }

-- ---- and a body
read : (c : In_ok-body) → whole_answer c.args.s.now ≡ Ok c.in_ok-h.h → Short c.args.s.now c.in_ok-h.h c.in_ok-body.body.tally
read c h = short-found _ _ h (bytes-known _ c.type_inv.s) _ (body-read _ _ _ _ (sym c.in_ok-body.ensures)).0

pub overflow_sub-h : goal.overflow_sub-h
overflow_sub-h c = (read (goal.at.overflow_sub-h c).In_ok-body (headed (goal.at.overflow_sub-h c).In_ok-h)).spare

pub message_size-size-requires : goal.message_size-size-requires
message_size-size-requires c = omega (arith, (whole-within _ _ (headed (goal.at.message_size-size-requires c).In_ok-h)).1)

pub returns-then-out-size : goal.returns-then-out-size
returns-then-out-size c =
    let r = read (goal.at.returns-then-out-size c).In_ok-body (headed (goal.at.returns-then-out-size c).In_ok-h) in
    let e = no_room _ _ _ r c.args.out.now _ c.message_size-size.ensures c.if-out-size.true in
    record { answer = rw c.unplaced.ensures e.0; lent = e.1 }

pub put_message-requires : goal.put_message-requires
put_message-requires c =
    let h = headed (goal.at.put_message-requires c).In_ok-h in
    let r = read (goal.at.put_message-requires c).In_ok-body h in
    let w = whole-within _ _ h in
    (w.2, w.1, r.reads, message-room _ _ _ r _ _ c.message_size-size.ensures c.if-out-size.false)

pub returns : goal.returns
returns c =
    let r = read (goal.at.returns c).In_ok-body (headed (goal.at.returns c).In_ok-h) in
    let e = written_out _ _ _ r c.args.out.now _ c.message_size-size.ensures c.if-out-size.false c.put_message.ensures in
    record { answer = e.0; lent = e.1 }
