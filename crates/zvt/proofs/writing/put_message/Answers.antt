-- `put_message` meets its contract: the body, and its header before it. Assumes nothing.
use mathlib.Core.Path.{ap}
use mathlib.Core.List.{List}
use Prim.Native.Nat.{ℕ, ◌+◌}
use native.Mathlib.Omega.{arith}
use lib.ListN.{length, length-append}
use Rattle.zvt_rules.specs.declared.Header.{Header}
use Rattle.zvt_rules.specs.declared.Layout.{Layout}
use Rattle.zvt_rules.proofs.ObjectReading.{part_length}
use Rattle.zvt_rules.proofs.ObjectBytes.{bytes-part}
use Rattle.zvt.specs.WritingSteps.{Put, short_body_of, header_bytes, header_layout, body_part, short_message_of}
use Rattle.zvt.proofs.Slices.{bytes-known}
use Rattle.zvt.proofs.Back.{put_as, says, head-room, then-head}
use Rattle.zvt.proofs.ShortBodies.{body-fits}
use Rattle.zvt.proofs.writing.put_message.Goals as goal
use Rattle.zvt.proofs.writing.put_message.Goals.{After-put_body-left}

abbrev body : Header → List ℕ → List ℕ
body h s = short_body_of (header_layout h) (body_part h s)

-- ---- the body is there
inner : (c : After-put_body-left) → Put (body c.args.h c.args.s.now) c.args.out.now c.put_body-left.result c.put_body-left.new.out
unfolding header_layout body_part
inner c =
    let a = c.args in
    put_as (ap (λ (l : Layout). short_body_of l (body_part a.h a.s.now)) c.layout_of-layout.ensures) c.put_body-left.ensures

pub put_body-left-requires : goal.put_body-left-requires
unfolding header_layout body_part short_message_of
put_body-left-requires c =
    let h = c.args.h in
    let s = c.args.s.now in
    let b = short_body_of (header_layout h) (body_part h s) in
    let l = part_length s h.start (h.start + h.length) (omega arith) c.requires.0 in
    let k = length-append (header_bytes h.class h.instruction (length b)) b in
    rw c.layout_of-layout.ensures (omega (arith, c.requires.1), c.requires.2, omega (arith, c.requires.3))

-- ---- the header before it
pub put_header-requires : goal.put_header-requires
unfolding body_part short_message_of
put_header-requires c =
    let h = c.args.h in
    let s = c.args.s.now in
    let head = header_bytes h.class h.instruction in
    let p = inner (goal.at.put_header-requires c).After-put_body-left in
    let l = part_length s h.start (h.start + h.length) (omega arith) c.requires.0 in
    let bytes = bytes-part h.start (h.start + h.length) s (bytes-known s c.type_inv.s) in
    let short = body-fits (header_layout h) (body_part h s) bytes c.requires.2 in
    (omega (arith, says head p c.requires.3, c.requires.1), head-room head p c.requires.3)

pub returns : goal.returns
unfolding short_message_of
returns c =
    let head = header_bytes c.args.h.class c.args.h.instruction in
    then-head head (inner (goal.at.returns c).After-put_body-left) c.requires.3 c.put_header.ensures
