-- The second demand: "Messages, their fields and nested data objects are read and written as PA00P015 13.11 lays them out. What we
-- write reads back as the same values. An accepted message, written again, has the same bytes exactly when all its lengths were in
-- shortest form." Assumes nothing.
use mathlib.Core.Path.{◌≡◌, refl, sym, ap, ◌∙◌}
use mathlib.Core.Bool.{true, false}
use mathlib.Core.Logic.Iff
use mathlib.Core.Logic.{◌↔◌, ◌⊎◌}
use mathlib.Core.List.{List, [], ◌∷◌, ◌++◌}
use Prim.Native.Nat.{ℕ, ◌<◌, ◌≤◌}
use native.Mathlib.Omega.{arith}
use lib.ListN.{length, take}
use Rattle.std.specs.Prelude.{Err, Ok, Some}
use Rattle.std.proofs.Common.{None}
use Rattle.basics.specs.Lists.{among}
use Rattle.zvt_rules.specs.Reading.{got, unless, and_then}
use Rattle.zvt_rules.specs.Fields.{Field, field_id}
use Rattle.zvt_rules.specs.Message.{bytes, Message, length_of, header_with, header_of, layout_of, body_of, message_of, whole_header, read_of, first_of, count_of}
use Rattle.zvt_rules.specs.Shortest.{short_message, is_short, write, shorten}
use Rattle.zvt_rules.specs.Values.{status_of}
use Rattle.zvt_rules.specs.declared.Refusal.{Refusal}
use Rattle.zvt_rules.specs.declared.Header.{Header}
use Rattle.zvt_rules.specs.declared.Outline.{Outline}
use Rattle.zvt_rules.specs.declared.Span.{Span}
use Rattle.zvt_rules.specs.declared.Heard.{Heard}
use Rattle.zvt_rules.specs.declared.ToldBody.{ToldBody}
use Rattle.zvt_rules.specs.Answers.{header_answer, outline_of, read_answer, first_answer, shorten_answer, shorten_leaves}
use Rattle.zvt_rules.specs.Heard.{told_answer, hear_answer}
use Rattle.zvt_rules.specs.Name.{own, between, name_at, card_name, name_place}
use Rattle.zvt_rules.specs.believed.Writing.{message_bytes, field_value}
use Rattle.basics.specs.believed.Lists.{Bytes}
use Rattle.zvt_rules.specs.believed.Grammar.{MessageOk}
use Rattle.zvt_rules.specs.believed.Shortest.{SameValues, Shortens}
use Rattle.zvt_rules.specs.believed.Answers.{Framed, in_body, Reported, FirstReported, Over}
use Rattle.zvt_rules.specs.believed.Values.{Is, Tells, TellsNumber}
use Rattle.zvt_rules.specs.believed.Found.{Stands}
use Rattle.zvt_rules.specs.believed.Names.{UpToZero, Shown}
use Rattle.zvt_rules.specs.believed.Rows.{FramedNo}
use Rattle.zvt_rules.specs.believed.Faults.{Names}
use Rattle.zvt_rules.proofs.Readings.{got_same, then-on}
use Rattle.zvt_rules.proofs.MessageBytes as reading
use Rattle.zvt_rules.proofs.MessageShort as shortest
use Rattle.zvt_rules.proofs.AnswerLaws as reports
use Rattle.zvt_rules.proofs.StatusLaws as status
use Rattle.zvt_rules.proofs.HeardLaws as heard
use Rattle.zvt_rules.proofs.Names as names
use Rattle.desk_rules.specs.declared.Desk.{Desk}
use Rattle.desk_rules.specs.declared.Opening.{Opening}
use Rattle.desk_rules.specs.Openings.{within_limits, command_bytes}
use Rattle.desk_rules.specs.Course.{reply_bytes, Call, NumbersFit, writes}
use Rattle.desk_rules.specs.Desk.{refuse}
use Rattle.desk_rules.specs.believed.Table.{Commands}
use Rattle.desk_rules.specs.Memory.{view, lane_for, answer_of, leaves_of}
use Rattle.desk_rules.proofs.Rows.{table}
use Rattle.desk_rules.proofs.Commands as commands
use Rattle.promises.specs.Answers.{Placed}
use Rattle.promises.proofs.Answers.{header-gives, read-gives, short-says, decided-no, call-wrote, call-size}
use Rattle.promises.proofs.Placing.{header-nowhere, body-rows, body-names, first-placed, short-placed, call-placed}
use Rattle.promises.proofs.Asked.{heard-yes}

-- ---- "read .. as PA00P015 13.11 lays them out"

module _ (s : List ℕ) (b : Bytes s) where
  -- Bytes are accepted exactly where they are those of a message within the limits, and what is answered is what M9 reports of it.
  pub read-exactly : (t : Outline) → (read_answer s ≡ Ok t) ↔ Reported s t
  read-exactly t = reports.read-exactly s t b

  -- So is a header: exactly where it frames the bytes, with the place and the length of its body.
  pub header-exactly : (t : Header) → (header_answer s ≡ Ok t) ↔ Framed s t.class t.instruction t.start t.length
  header-exactly t = reports.header-exactly s t b

  -- What a desk asks of a message is its header, and behind it what a status information tells and the first byte of a plain body.
  module _ (h : Heard) (e : hear_answer s ≡ Ok h) where
    pub heard-exactly : Framed s h.class h.instruction h.start h.length
    heard-exactly = let k = heard-yes s h e in rw (← k.2) ((header-exactly k.0).0 k.1)

    pub told-exactly : (t : ToldBody) → h.told ≡ Ok t → (t.status ≡ status_of s)
        × ((c : ℕ) → (t.first ≡ Some c) ↔ ((m : Message) × (w : List ℕ) × Is s m × (m.body ≡ bytes (c ∷ w))))
    told-exactly t f =
        let same : told_answer (read_of s) ≡ h.told = ap (λ (x : Heard). x.told) (heard-yes s h e).2 in
        (heard.status-heard s t (same ∙ f), heard.first-heard s t (same ∙ f) b)

  -- So is the first of several messages, and the next begins behind its bytes.
  pub first-exactly : (t : Outline) (next : ℕ) → (first_answer s ≡ Ok (t, next)) ↔ FirstReported s t next
  first-exactly t next = reports.first-exactly s t next b

-- ---- the pair of number and place, with which a message is refused. Of all that reads a message: read-refused-exactly and its sisters
-- (DemandOne)

module _ (s : List ℕ) (b : Bytes s) (r : Refusal) where
  -- Behind a header that is read, the body is refused with a number and at a place exactly where a row of bodies (R41 to R44) has both.
  pub body-refused-exactly : (t : Header) → header_answer s ≡ Ok t → (read_answer s ≡ Err r) ↔ FramedNo s [] r
  body-refused-exactly t h =
      let g = (header-gives s t).0 h in Iff.trans (reports.read-refused-exactly s r) (body-rows s b r g.0 g.1)

  -- R46: the refusal of a header names no place.
  pub header-unplaced : header_answer s ≡ Err r → r.place ≡ None
  header-unplaced h = header-nowhere s b r ((reports.header-refused-exactly s r).0 h)

  -- R46 to R48: that of a body always names one: of a byte of the message, which is what the number says, or for 1 alone the place where
  -- body, container or run ended too soon, in the message or directly behind it.
  pub body-placed : (t : Header) → header_answer s ≡ Ok t → read_answer s ≡ Err r → Names s r
  body-placed t h e = let g = (header-gives s t).0 h in body-names s b r g.0 g.1 ((reports.read-refused-exactly s r).0 e)

  -- Where further messages may follow, the place lies in the first, or directly behind it.
  pub first-placed-in : first_answer s ≡ Err r
      → (r.place ≡ None) ⊎ ((front : List ℕ) × (rest : List ℕ) × (front ++ rest ≡ s) × Names front r)
  first-placed-in h = first-placed s b r ((reports.first-refused-exactly s r).0 h)

  -- Shortening names the places of reading; where its output is too small (11) it names none.
  pub shorten-placed : (room : ℕ) → shorten_answer room s ≡ Err r → (r.place ≡ None) ⊎ Names s r
  shorten-placed room h = short-placed s b r room ((short-says room s r).0 h)

-- A call of the desk that is refused names a place only of a terminal's message, and then such a one.
pub desk-placed : (d : Desk) (c : Call) (room : ℕ) (r : Refusal) → NumbersFit c → (answer_of d c room).reply ≡ Err r → Placed c r
desk-placed d c room r n h = call-placed (view d) c room r n ((table (view d) c room (refuse r)).0 ((decided-no d c room r).0 h))

-- ---- no two messages have the same bytes
pub one-reading : (m m' : Message) → MessageOk m → MessageOk m' → message_bytes m ≡ message_bytes m' → m ≡ m'
one-reading m m' ok ok' e = got_same (sym (reading.read-complete m ok) ∙ ap read_of e ∙ reading.read-complete m' ok')

-- A message is found too where others follow it, with nothing taken of them.
pub first-of-many : (m : Message) (rest : List ℕ) → MessageOk m → first_of (message_bytes m ++ rest) ≡ got m
first-of-many = reading.first-complete

-- The number of objects that the reader reports is the number of objects in the message, inner ones counted, at most 64: O11, O10.
pub objects-counted : (s : List ℕ) (t : Outline) → Bytes s → read_answer s ≡ Ok t
    → (m : Message) × Is s m × (t.objects ≡ length (in_body m.body)) × (length (in_body m.body) ≤ 64)
objects-counted s t b h =
    let k = (read-exactly s b t).0 h in
    let few = reading.count-limit k.message k.accepted.1 in
    (k.message, k.accepted, k.objects, omega (arith, reports.counted k.message))

-- ---- "What we write reads back as the same values."

-- What shortening writes is the same message, with as many objects, but for the forms of its lengths.
pub shortened-reads-back : (s : List ℕ) (m : Message) → Bytes s → read_of s ≡ got m
    → (shorten s ≡ got (write m)) × (read_of (write m) ≡ got (short_message m)) × SameValues m (short_message m)
    × (count_of (short_message m) ≡ count_of m)
unfolding shorten
shortened-reads-back s m b e =
    (then-on _ m e, shortest.write-reads m (reading.read-sound s m b e).1, shortest.same-values m, shortest.same_count m)

-- Shortening answers the size of the shortest writing of the same message, exactly where that has room,
pub shortened-exactly : (s : List ℕ) (room k : ℕ) → Bytes s
    → (shorten_answer room s ≡ Ok k) ↔ ((w : List ℕ) × Shortens s w × (length w ≤ room) × (length w ≡ k))
shortened-exactly s room k b = reports.shorten-exactly room s b k

-- and leaves it in the buffer.
pub shortened-written : (s out w : List ℕ) → Bytes s → Shortens s w → length w ≤ length out → Over w out (shorten_leaves s out)
shortened-written s out w b = reports.shorten-writes s out b w

-- What a call of the desk writes is what the course says, a command, a reply, or nothing; and the answer is its length.
pub written : (d : Desk) (c : Call) (out : List ℕ) (k : ℕ) → (answer_of d c (length out)).reply ≡ Ok k
    → (take k (leaves_of d c out) ≡ writes (lane_for d c) c) × (length (writes (lane_for d c) c) ≡ k)
written d c out k h = (call-wrote d c out k h, call-size d c out k h)

-- A terminal reads the command of an opening as that opening: a sale of that amount, in euros; a refund of that amount, or the reversal
-- of that receipt, with that password.
pub opening-reads-back : (o : Opening) → within_limits o ≡ true → (m : Message) × (read_of (command_bytes o) ≡ got m) × Commands o m
opening-reads-back = commands.opening-reads-back

-- It reads a reply as 80 00 with an empty body.
pub reply-reads-back : read_of reply_bytes ≡ got (record { class = 0x80; instruction = 0x00; long = false; body = bytes [] })
unfolding read_of whole_header header_of length_of header_with message_of body_of layout_of and_then unless among
reply-reads-back = refl

-- ---- ".. has the same bytes exactly when all its lengths were in shortest form"

-- Shortening changes a message exactly where the reader says that it is not shortest.
pub same-bytes-exactly : (s : List ℕ) (t : Outline) → Bytes s → read_answer s ≡ Ok t → (shorten s ≡ got s) ↔ (t.shortest ≡ true)
unfolding outline_of
same-bytes-exactly s t b h =
    let k = (read-gives s t).0 h in
    let e : is_short k.0 ≡ t.shortest = ap (λ (x : Outline). x.shortest) k.2 in
    rw (← e) (shortest.shorten-exactly s k.0 b k.1)

-- Shortening twice changes nothing more.
pub shortened-once : (s w : List ℕ) → Bytes s → shorten s ≡ got w → shorten w ≡ got w
shortened-once = shortest.shorten-twice

-- It never makes a message longer.
pub never-longer : (m : Message) → MessageOk m → length (write m) ≤ length (message_bytes m)
never-longer = shortest.never-longer

-- ---- what a status information tells. Of the other fields of a message: TheFields

module _ (s : List ℕ) (b : Bytes s) where
  -- P20: "code (27), amount (04) and receipt (87)": each is told exactly where a status information has that field.
  pub code-exactly : (c : ℕ) → ((status_of s).code ≡ Some c) ↔ Tells s 0x27 (c ∷ [])
  code-exactly = status.code-exactly s b

  pub amount-exactly : (n : ℕ) → ((status_of s).amount ≡ Some n) ↔ TellsNumber s 0x04 n
  amount-exactly = status.amount-exactly s b

  pub receipt-exactly : (n : ℕ) → ((status_of s).receipt ≡ Some n) ↔ TellsNumber s 0x87 n
  receipt-exactly = status.receipt-exactly s b

-- ---- the card name

-- A receipt shows the name in field 8B of the status information, up to its first zero byte; where there is none, the till's own. It is
-- a part of the one or of the other, and lies there: M13 to M15.
pub card-name : (s till name : List ℕ) (p q r : ℕ × ℕ) → Bytes s
    → Shown s p till q name r ↔ ((name ≡ card_name s till) × (r ≡ name_place p q (name_at s)))
card-name s till name p q r b = names.shown-exactly s b till name p q r

-- No empty name lies in a message: where field 8B has one, the answer is the till's own.
pub no-empty-name : (s : List ℕ) → Bytes s
    → ((a e : ℕ) → name_at s ≡ between a e → a < e)
    × ((k : ℕ) (f : Field) (l : Span) → Stands s k f l → field_id f ≡ 0x8B → UpToZero (field_value f) [] → name_at s ≡ own)
no-empty-name s b = (names.part-not-empty s b, names.empty-own s b)
