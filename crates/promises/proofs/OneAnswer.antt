-- Every public function states one answer and one content of lent memory for each input, refusals too. What a function states is its
-- own contract, as a caller learns it (`Learnt`): were a clause of it weakened, the function's row here would fail. A row for each
-- public function, named after its crate, or its type if it has one, and itself: crate by crate, in the order of `src/lib.rt`.
-- Assumes nothing.
use mathlib.Core.Path.{◌≡◌, refl, sym, ap, ap₂, ◌∙◌}
use Prim.Native.Nat.{ℕ}
use mathlib.Core.List.{List, ◌++◌}
use lib.ListN.{take, drop}
use Rattle.zvt_rules.proofs as zvt_rules
use Rattle.desk_rules.proofs as desk_rules
use Rattle.tape_rules.proofs as tape_rules
use Rattle.zvt.proofs as zvt
use Rattle.desk.proofs as desk
use Rattle.tape.proofs as tape
use Rattle.replaying.proofs as replaying
use Rattle.buffers.proofs as buffers
use Rattle.listing.proofs as listing
use Rattle.printing.proofs as printing
use Rattle.words.proofs as words
use Rattle.basics.specs.Text.{Text}
use Rattle.promises.specs.OneAnswer.{Only, itself, placed, nothing, contents}

only : {A E X Y : Type 0} {answer : A → X} {lent : E → Y} {states : A → E → Type 0} (x : X) (y : Y)
    → ((r : A) (e : E) → states r e → (answer r ≡ x) × (lent e ≡ y)) → Only answer lent states
only x y h = record { one = λ r r' e e' s s'. ((h r e s).0 ∙ sym (h r' e' s').0, (h r e s).1 ∙ sym (h r' e' s').1) }

-- two buffers
both : {o o' t t' : List ℕ} → o ≡ o' → t ≡ t' → ◌≡◌ {A = List ℕ × List ℕ} (o, t) (o', t')
both = ap₂ (λ (o t : List ℕ). (o, t))

-- a part of a slice: its bytes, and where it lies
part : {p p' : ℕ × ℕ} {n n' : List ℕ} → n ≡ n' → p ≡ p' → ◌≡◌ {A = (ℕ × ℕ) × List ℕ} (p, n) (p', n')
part n p = ap₂ (λ (p : ℕ × ℕ) (n : List ℕ). (p, n)) p n

-- text in a buffer: how far the buffer is taken, and its bytes
text : {t u : Text} → t ≡ u → (t.at ≡ u.at) × (t.bytes ≡ u.bytes)
text h = (ap (λ (t : Text). t.at) h, ap (λ (t : Text). t.bytes) h)

-- ---- zvt_rules: a refusal
pub refusal-unplaced-one : (κs : _) (a : _) → Only itself nothing (zvt_rules.Refusal.unplaced.Reads.Learnt κs a)
refusal-unplaced-one κs a = only _ _ (λ r e h. (h, refl))

-- ---- desk_rules: what a desk is made of
pub lane-idle-one : (κs : _) (a : _) → Only itself nothing (desk_rules.Lane.idle.Reads.Learnt κs a)
lane-idle-one κs a = only _ _ (λ r e h. (h, refl))

pub lane-waiting-one : (κs : _) (a : _) → Only itself nothing (desk_rules.Lane.waiting.Reads.Learnt κs a)
lane-waiting-one κs a = only _ _ (λ r e h. (h, refl))

pub lane-running-one : (κs : _) (a : _) → Only itself nothing (desk_rules.Lane.running.Reads.Learnt κs a)
lane-running-one κs a = only _ _ (λ r e h. (h, refl))

pub lane-reported-one : (κs : _) (a : _) → Only itself nothing (desk_rules.Lane.reported.Reads.Learnt κs a)
lane-reported-one κs a = only _ _ (λ r e h. (h, refl))

pub lane-amount-ok-one : (κs : _) (a : _) → Only itself nothing (desk_rules.Lane.amount_ok.Reads.Learnt κs a)
lane-amount-ok-one κs a = only _ _ (λ r e h. (h, refl))

pub lane-receipt-ok-one : (κs : _) (a : _) → Only itself nothing (desk_rules.Lane.receipt_ok.Reads.Learnt κs a)
lane-receipt-ok-one κs a = only _ _ (λ r e h. (h, refl))

pub lane-password-ok-one : (κs : _) (a : _) → Only itself nothing (desk_rules.Lane.password_ok.Reads.Learnt κs a)
lane-password-ok-one κs a = only _ _ (λ r e h. (h, refl))

pub line-blank-one : (κs : _) (a : _) → Only itself nothing (desk_rules.Line.blank.Reads.Learnt κs a)
line-blank-one κs a = only _ _ (λ r e h. (h, refl))

pub desk-rules-nothing-told-one : (κs : _) (a : _) → Only itself nothing (desk_rules.nothing_told.Reads.Learnt κs a)
desk-rules-nothing-told-one κs a = only _ _ (λ r e h. (h, refl))

pub book-empty-one : (κs : _) (a : _) → Only itself nothing (desk_rules.Book.empty.Reads.Learnt κs a)
book-empty-one κs a = only _ _ (λ r e h. (h, refl))

pub desk-fresh-one : (κs : _) (a : _) → Only itself nothing (desk_rules.Desk.fresh.Reads.Learnt κs a)
desk-fresh-one κs a = only _ _ (λ r e h. (h.0, refl))

-- ---- tape_rules: a block of a tape, what a tape ends in, and a desk with its tape
pub block-room-ok-one : (κs : _) (a : _) → Only itself nothing (tape_rules.Block.room_ok.Reads.Learnt κs a)
block-room-ok-one κs a = only _ _ (λ r e h. (h, refl))

pub block-number-ok-one : (κs : _) (a : _) → Only itself nothing (tape_rules.Block.number_ok.Reads.Learnt κs a)
block-number-ok-one κs a = only _ _ (λ r e h. (h, refl))

pub block-payload-ok-one : (κs : _) (a : _) → Only itself nothing (tape_rules.Block.payload_ok.Reads.Learnt κs a)
block-payload-ok-one κs a = only _ _ (λ r e h. (h, refl))

pub block-before-last-one : (κs : _) (a : _) → Only itself nothing (tape_rules.Block.before_last.Reads.Learnt κs a)
block-before-last-one κs a = only _ _ (λ r e h. (h, refl))

pub block-at-end-one : (κs : _) (a : _) → Only itself nothing (tape_rules.Block.at_end.Reads.Learnt κs a)
block-at-end-one κs a = only _ _ (λ r e h. (h, refl))

pub tail-empty-one : (κs : _) (a : _) → Only itself nothing (tape_rules.Tail.empty.Reads.Learnt κs a)
tail-empty-one κs a = only _ _ (λ r e h. (h, refl))

pub taped-fresh-one : (κs : _) (a : _) → Only itself nothing (tape_rules.Taped.fresh.Reads.Learnt κs a)
taped-fresh-one κs a = only _ _ (λ r e h. (h.0, refl))

-- ---- zvt: the reader
pub zvt-read-header-one : (κs : _) (a : _) → Only itself nothing (zvt.read_header.Reads.Learnt κs a)
zvt-read-header-one κs a = only _ _ (λ r e h. (h, refl))

pub zvt-read-one : (κs : _) (a : _) → Only itself nothing (zvt.read.Reads.Learnt κs a)
zvt-read-one κs a = only _ _ (λ r e h. (h, refl))

pub zvt-read-first-one : (κs : _) (a : _) → Only itself (λ e. e.1.0.now) (zvt.read_first.Reads.Learnt κs a)
zvt-read-first-one κs a = only _ _ (λ r e h. (ap₂ (λ answer count. record { answer = answer; count = count }) h.0 h.1.0, h.1.1))

pub zvt-shorten-one : (κs : _) (a : _) → Only itself (λ e. e.1.0.now) (zvt.shorten.Reads.Learnt κs a)
zvt-shorten-one κs a = only _ _ (λ r e h. h)

pub zvt-field-one : (κs : _) (a : _) → Only itself nothing (zvt.field.Reads.Learnt κs a)
zvt-field-one κs a = only _ _ (λ r e h. (h, refl))

pub zvt-field-bytes-one : (κs : _) (a : _) → Only placed nothing (zvt.field_bytes.Reads.Learnt κs a)
zvt-field-bytes-one κs a = only _ _ (λ r e h. (part h.0 h.1, refl))

pub zvt-places-one : (κs : _) (a : _) → Only itself nothing (zvt.places.Reads.Learnt κs a)
zvt-places-one κs a = only _ _ (λ r e h. (h, refl))

pub zvt-read-status-one : (κs : _) (a : _) → Only itself nothing (zvt.read_status.Reads.Learnt κs a)
zvt-read-status-one κs a = only _ _ (λ r e h. (h, refl))

pub zvt-hear-one : (κs : _) (a : _) → Only itself nothing (zvt.hear.Reads.Learnt κs a)
zvt-hear-one κs a = only _ _ (λ r e h. (h, refl))

pub zvt-card-name-one : (κs : _) (a : _) → Only placed nothing (zvt.card_name.Reads.Learnt κs a)
zvt-card-name-one κs a = only _ _ (λ r e h. (part h.0 h.1, refl))

pub zvt-amount-bytes-one : (κs : _) (a : _) → Only itself nothing (zvt.amount_bytes.Reads.Learnt κs a)
zvt-amount-bytes-one κs a = only _ _ (λ r e h. (h, refl))

pub zvt-password-bytes-one : (κs : _) (a : _) → Only itself nothing (zvt.password_bytes.Reads.Learnt κs a)
zvt-password-bytes-one κs a = only _ _ (λ r e h. (h, refl))

pub zvt-receipt-bytes-one : (κs : _) (a : _) → Only itself nothing (zvt.receipt_bytes.Reads.Learnt κs a)
zvt-receipt-bytes-one κs a = only _ _ (λ r e h. (h, refl))

pub zvt-amount-in-one : (κs : _) (a : _) → Only itself nothing (zvt.amount_in.Reads.Learnt κs a)
zvt-amount-in-one κs a = only _ _ (λ r e h. (h, refl))

pub zvt-receipt-in-one : (κs : _) (a : _) → Only itself nothing (zvt.receipt_in.Reads.Learnt κs a)
zvt-receipt-in-one κs a = only _ _ (λ r e h. (h, refl))

-- ---- desk: an answer, one content of what was lent, and beside them that the desk is valid
pub desk-open-one : (κs : _) (a : _) → Only itself (λ e. e.1.1.1.0.now) (desk.«open».Reads.Learnt κs a)
desk-open-one κs a = only _ _ (λ r e h. (h.0, h.1.0))

pub desk-terminal-one : (κs : _) (a : _) → Only itself (λ e. e.1.1.1.0.now) (desk.terminal.Reads.Learnt κs a)
desk-terminal-one κs a = only _ _ (λ r e h. (h.0, h.1.0))

pub desk-hears-one : (κs : _) (a : _) → Only itself nothing (desk.hears.Reads.Learnt κs a)
desk-hears-one κs a = only _ _ (λ r e h. (h, refl))

pub desk-link-lost-one : (κs : _) (a : _) → Only itself nothing (desk.link_lost.Reads.Learnt κs a)
desk-link-lost-one κs a = only _ _ (λ r e h. (h.0, refl))

pub desk-close-one : (κs : _) (a : _) → Only itself nothing (desk.close.Reads.Learnt κs a)
desk-close-one κs a = only _ _ (λ r e h. (h.0, refl))

pub desk-net-one : (κs : _) (a : _) → Only itself nothing (desk.net.Reads.Learnt κs a)
desk-net-one κs a = only _ _ (λ r e h. (h, refl))

pub desk-line-at-one : (κs : _) (a : _) → Only itself nothing (desk.line_at.Reads.Learnt κs a)
desk-line-at-one κs a = only _ _ (λ r e h. (h, refl))

pub desk-lane-at-one : (κs : _) (a : _) → Only itself nothing (desk.lane_at.Reads.Learnt κs a)
desk-lane-at-one κs a = only _ _ (λ r e h. (h, refl))

pub desk-opening-in-one : (κs : _) (a : _) → Only itself nothing (desk.opening_in.Reads.Learnt κs a)
desk-opening-in-one κs a = only _ _ (λ r e h. (h, refl))

-- ---- tape: likewise, and the room for blocks is lent too
pub tape-write-block-one : (κs : _) (a : _) → Only itself (λ e. e.1.1.0.now) (tape.write_block.Reads.Learnt κs a)
tape-write-block-one κs a = only _ _ (λ r e h. h)

pub tape-read-block-one : (κs : _) (a : _) → Only itself nothing (tape.read_block.Reads.Learnt κs a)
tape-read-block-one κs a = only _ _ (λ r e h. (h, refl))

pub tape-write-tape-one : (κs : _) (a : _) → Only itself (λ e. e.1.0.now) (tape.write_tape.Reads.Learnt κs a)
tape-write-tape-one κs a = only _ _ (λ r e h. h)

pub tape-read-tape-one : (κs : _) (a : _) → Only itself (λ e. e.1.0.now) (tape.read_tape.Reads.Learnt κs a)
tape-read-tape-one κs a = only _ _ (λ r e h. h)

pub tape-held-one : (κs : _) (a : _) → Only itself nothing (tape.held.Reads.Learnt κs a)
tape-held-one κs a = only _ _ (λ r e h. (h, refl))

pub tape-open-one : (κs : _) (a : _) → Only itself (λ e. contents e.1.1.1.0 e.1.1.1.1.0) (tape.«open».Reads.Learnt κs a)
tape-open-one κs a = only _ _ (λ r e h. (h.0, both h.1.0 h.1.1.0))

pub tape-terminal-one : (κs : _) (a : _) → Only itself (λ e. contents e.1.1.1.0 e.1.1.1.1.0) (tape.terminal.Reads.Learnt κs a)
tape-terminal-one κs a = only _ _ (λ r e h. (h.0, both h.1.0 h.1.1.0))

pub tape-link-lost-one : (κs : _) (a : _) → Only itself (λ e. e.1.1.0.now) (tape.link_lost.Reads.Learnt κs a)
tape-link-lost-one κs a = only _ _ (λ r e h. (h.0, h.1.0))

pub tape-close-one : (κs : _) (a : _) → Only itself nothing (tape.close.Reads.Learnt κs a)
tape-close-one κs a = only _ _ (λ r e h. (h.0, refl))

-- ---- replaying: the replay of a tape
pub replaying-replay-one : (κs : _) (a : _) → Only itself nothing (replaying.replay.Reads.Learnt κs a)
replaying-replay-one κs a = only _ _ (λ r e h. (h.0, refl))

-- ---- buffers: text in a lent buffer
pub buffers-fill-one : (κs : _) (a : _) → Only nothing (λ e. e.0.now) (buffers.fill.Reads.Learnt κs a)
buffers-fill-one κs a = only _ _ (λ r e h. (refl, h))

pub buffers-upto-one : (κs : _) (a : _) → Only itself nothing (buffers.upto.Reads.Learnt κs a)
buffers-upto-one κs a = only _ _ (λ r e h. (h.0, refl))

pub buffers-copy-one : (κs : _) (a : _) → Only itself (λ e. e.1.0.now) (buffers.copy.Reads.Learnt κs a)
buffers-copy-one κs a = only _ _ (λ r e h. (h.0, h.1 ∙ ap (λ (n : ℕ). take n a.0.now ++ drop n a.1.0.now) h.0))

pub buffers-find-one : (κs : _) (a : _) → Only itself nothing (buffers.find.Reads.Learnt κs a)
buffers-find-one κs a = only _ _ (λ r e h. (h.0, refl))

pub buffers-add-one : (κs : _) (a : _) → Only itself (λ e. e.1.1.0.now) (buffers.add.Reads.Learnt κs a)
buffers-add-one κs a = only _ _ (λ r e h. text h)

pub buffers-add-all-one : (κs : _) (a : _) → Only itself (λ e. e.1.1.0.now) (buffers.add_all.Reads.Learnt κs a)
buffers-add-all-one κs a = only _ _ (λ r e h. text h)

pub buffers-add-hex-one : (κs : _) (a : _) → Only itself (λ e. e.1.1.0.now) (buffers.add_hex.Reads.Learnt κs a)
buffers-add-hex-one κs a = only _ _ (λ r e h. text h)

pub buffers-add-bytes-one : (κs : _) (a : _) → Only itself (λ e. e.1.1.0.now) (buffers.add_bytes.Reads.Learnt κs a)
buffers-add-bytes-one κs a = only _ _ (λ r e h. text h)

pub buffers-add-decimal-one : (κs : _) (a : _) → Only itself (λ e. e.1.1.0.now) (buffers.add_decimal.Reads.Learnt κs a)
buffers-add-decimal-one κs a = only _ _ (λ r e h. text h)

pub buffers-hex-value-one : (κs : _) (a : _) → Only itself nothing (buffers.hex_value.Reads.Learnt κs a)
buffers-hex-value-one κs a = only _ _ (λ r e h. (h, refl))

-- ---- listing: the text of a listing
pub listing-add-ids-one : (κs : _) (a : _) → Only itself (λ e. e.1.1.0.now) (listing.add_ids.Reads.Learnt κs a)
listing-add-ids-one κs a = only _ _ (λ r e h. text h)

pub listing-add-size-one : (κs : _) (a : _) → Only itself (λ e. e.1.1.0.now) (listing.add_size.Reads.Learnt κs a)
listing-add-size-one κs a = only _ _ (λ r e h. text h)

pub listing-list-one : (κs : _) (a : _) → Only itself (λ e. e.1.0.now) (listing.list.Reads.Learnt κs a)
listing-list-one κs a = only _ _ (λ r e h. text h.0)

-- ---- printing: what programs print; where the text ends, and the bytes of the buffer
pub printing-add-number-one : (κs : _) (a : _) → Only itself (λ e. e.1.1.0.now) (printing.answers.add_number.Reads.Learnt κs a)
printing-add-number-one κs a = only _ _ (λ r e h. text h)

pub printing-counted-one : (κs : _) (a : _) → Only itself (λ e. e.1.1.1.0.now) (printing.answers.counted.Reads.Learnt κs a)
printing-counted-one κs a = only _ _ (λ r e h. text h)

pub printing-refused-one : (κs : _) (a : _) → Only itself (λ e. e.1.0.now) (printing.answers.refused.Reads.Learnt κs a)
printing-refused-one κs a = only _ _ (λ r e h. text h.added)

pub printing-not-understood-one : (κs : _) (a : _) → Only itself (λ e. e.1.0.now) (printing.answers.not_understood.Reads.Learnt κs a)
printing-not-understood-one κs a = only _ _ (λ r e h. text h.added)

pub printing-bytes-line-one : (κs : _) (a : _) → Only itself (λ e. e.1.0.now) (printing.answers.bytes_line.Reads.Learnt κs a)
printing-bytes-line-one κs a = only _ _ (λ r e h. text h.added)

pub printing-reply-one : (κs : _) (a : _) → Only itself (λ e. e.1.1.0.now) (printing.answers.reply.Reads.Learnt κs a)
printing-reply-one κs a = only _ _ (λ r e h. text h.added)

pub printing-book-one : (κs : _) (a : _) → Only itself (λ e. e.1.0.now) (printing.desks.book.Reads.Learnt κs a)
printing-book-one κs a = only _ _ (λ r e h. text h.added)

pub printing-replayed-one : (κs : _) (a : _) → Only itself (λ e. e.1.1.1.0.now) (printing.desks.replayed.Reads.Learnt κs a)
printing-replayed-one κs a = only _ _ (λ r e h. text h.added)

pub printing-lanes-one : (κs : _) (a : _) → Only itself (λ e. e.1.0.now) (printing.desks.lanes.Reads.Learnt κs a)
printing-lanes-one κs a = only _ _ (λ r e h. text h.added)

pub printing-net-one : (κs : _) (a : _) → Only itself (λ e. e.1.0.now) (printing.desks.net.Reads.Learnt κs a)
printing-net-one κs a = only _ _ (λ r e h. text h.added)

pub printing-blocks-one : (κs : _) (a : _) → Only itself (λ e. e.1.0.now) (printing.desks.blocks.Reads.Learnt κs a)
printing-blocks-one κs a = only _ _ (λ r e h. text h.added)

pub printing-read-one : (κs : _) (a : _) → Only itself (λ e. e.1.0.now) (printing.messages.read.Reads.Learnt κs a)
printing-read-one κs a = only _ _ (λ r e h. text h.added)

pub printing-header-one : (κs : _) (a : _) → Only itself (λ e. e.1.0.now) (printing.messages.header.Reads.Learnt κs a)
printing-header-one κs a = only _ _ (λ r e h. text h.added)

pub printing-first-one : (κs : _) (a : _) → Only itself (λ e. e.1.0.now) (printing.messages.first.Reads.Learnt κs a)
printing-first-one κs a = only _ _ (λ r e h. text h.added)

pub printing-field-one : (κs : _) (a : _) → Only itself (λ e. e.1.1.0.now) (printing.messages.field.Reads.Learnt κs a)
printing-field-one κs a = only _ _ (λ r e h. text h.added)

pub printing-status-one : (κs : _) (a : _) → Only itself (λ e. e.1.0.now) (printing.messages.status.Reads.Learnt κs a)
printing-status-one κs a = only _ _ (λ r e h. text h.added)

-- ---- words: what a line of a script asks for
pub script-start-one : (κs : _) (a : _) → Only itself nothing (words.Script.start.Reads.Learnt κs a)
script-start-one κs a = only _ _ (λ r e h. (h, refl))

pub words-order-of-one : (κs : _) (a : _) → Only itself (λ e. e.1.1.0.now) (words.order_of.Reads.Learnt κs a)
words-order-of-one κs a = only _ _ (λ r e h. h.0)
