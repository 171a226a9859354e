-- The first demand's first sentence: "Every call ends and stays within its memory, for all bytes and all numbers, with nothing left
-- for the caller to test beforehand." Assumes nothing. A row for each public function, in the order of `OneAnswer`: a call of it ends,
-- reads and writes only what it was lent, and answers as its contract states; and it asks nothing of its caller. Only those over a desk
-- ask that the desk, with its tape where it has one, is one that these functions gave out.
use mathlib.Core.Path.{refl}
use Rattle.zvt_rules.proofs as zvt_rules
use Rattle.desk_rules.proofs as desk_rules
use Rattle.tape_rules.proofs as tape_rules
use Rattle.zvt.proofs as zvt
use Rattle.desk.proofs as desk
use Rattle.tape.proofs as tape
use Rattle.replaying.proofs as replaying
use Rattle.buffers.proofs as buffers
use Rattle.listing.proofs as listing
use Rattle.printing.proofs as printing
use Rattle.words.proofs as words
use Rattle.desk_rules.specs.Memory.{Valid}
use Rattle.tape_rules.specs.Recording.{ValidTaped}
use Rattle.promises.specs.Ends.{Ends, AsksNothing, AsksDesk}

-- ---- zvt_rules: a refusal
pub refusal-unplaced-ends : Ends zvt_rules.Refusal.unplaced.Statement.statement × AsksNothing zvt_rules.Refusal.unplaced.Reads.Asked
refusal-unplaced-ends = (λ M. zvt_rules.Refusal.unplaced.Met.met, λ κs a. refl)

-- ---- desk_rules: what a desk is made of
pub lane-idle-ends : Ends desk_rules.Lane.idle.Statement.statement × AsksNothing desk_rules.Lane.idle.Reads.Asked
lane-idle-ends = (λ M. desk_rules.Lane.idle.Met.met, λ κs a. refl)

pub lane-waiting-ends : Ends desk_rules.Lane.waiting.Statement.statement × AsksNothing desk_rules.Lane.waiting.Reads.Asked
lane-waiting-ends = (λ M. desk_rules.Lane.waiting.Met.met, λ κs a. refl)

pub lane-running-ends : Ends desk_rules.Lane.running.Statement.statement × AsksNothing desk_rules.Lane.running.Reads.Asked
lane-running-ends = (λ M. desk_rules.Lane.running.Met.met, λ κs a. refl)

pub lane-reported-ends : Ends desk_rules.Lane.reported.Statement.statement × AsksNothing desk_rules.Lane.reported.Reads.Asked
lane-reported-ends = (λ M. desk_rules.Lane.reported.Met.met, λ κs a. refl)

pub lane-amount-ok-ends : Ends desk_rules.Lane.amount_ok.Statement.statement × AsksNothing desk_rules.Lane.amount_ok.Reads.Asked
lane-amount-ok-ends = (λ M. desk_rules.Lane.amount_ok.Met.met, λ κs a. refl)

pub lane-receipt-ok-ends : Ends desk_rules.Lane.receipt_ok.Statement.statement × AsksNothing desk_rules.Lane.receipt_ok.Reads.Asked
lane-receipt-ok-ends = (λ M. desk_rules.Lane.receipt_ok.Met.met, λ κs a. refl)

pub lane-password-ok-ends : Ends desk_rules.Lane.password_ok.Statement.statement × AsksNothing desk_rules.Lane.password_ok.Reads.Asked
lane-password-ok-ends = (λ M. desk_rules.Lane.password_ok.Met.met, λ κs a. refl)

pub line-blank-ends : Ends desk_rules.Line.blank.Statement.statement × AsksNothing desk_rules.Line.blank.Reads.Asked
line-blank-ends = (λ M. desk_rules.Line.blank.Met.met, λ κs a. refl)

pub desk-rules-nothing-told-ends : Ends desk_rules.nothing_told.Statement.statement × AsksNothing desk_rules.nothing_told.Reads.Asked
desk-rules-nothing-told-ends = (λ M. desk_rules.nothing_told.Met.met, λ κs a. refl)

pub book-empty-ends : Ends desk_rules.Book.empty.Statement.statement × AsksNothing desk_rules.Book.empty.Reads.Asked
book-empty-ends = (λ M. desk_rules.Book.empty.Met.met, λ κs a. refl)

pub desk-fresh-ends : Ends desk_rules.Desk.fresh.Statement.statement × AsksNothing desk_rules.Desk.fresh.Reads.Asked
desk-fresh-ends = (λ M. desk_rules.Desk.fresh.Met.met, λ κs a. refl)

-- ---- tape_rules: a block of a tape, what a tape ends in, and a desk with its tape
pub block-room-ok-ends : Ends tape_rules.Block.room_ok.Statement.statement × AsksNothing tape_rules.Block.room_ok.Reads.Asked
block-room-ok-ends = (λ M. tape_rules.Block.room_ok.Met.met, λ κs a. refl)

pub block-number-ok-ends : Ends tape_rules.Block.number_ok.Statement.statement × AsksNothing tape_rules.Block.number_ok.Reads.Asked
block-number-ok-ends = (λ M. tape_rules.Block.number_ok.Met.met, λ κs a. refl)

pub block-payload-ok-ends : Ends tape_rules.Block.payload_ok.Statement.statement × AsksNothing tape_rules.Block.payload_ok.Reads.Asked
block-payload-ok-ends = (λ M. tape_rules.Block.payload_ok.Met.met, λ κs a. refl)

pub block-before-last-ends : Ends tape_rules.Block.before_last.Statement.statement × AsksNothing tape_rules.Block.before_last.Reads.Asked
block-before-last-ends = (λ M. tape_rules.Block.before_last.Met.met, λ κs a. refl)

pub block-at-end-ends : Ends tape_rules.Block.at_end.Statement.statement × AsksNothing tape_rules.Block.at_end.Reads.Asked
block-at-end-ends = (λ M. tape_rules.Block.at_end.Met.met, λ κs a. refl)

pub tail-empty-ends : Ends tape_rules.Tail.empty.Statement.statement × AsksNothing tape_rules.Tail.empty.Reads.Asked
tail-empty-ends = (λ M. tape_rules.Tail.empty.Met.met, λ κs a. refl)

pub taped-fresh-ends : Ends tape_rules.Taped.fresh.Statement.statement × AsksNothing tape_rules.Taped.fresh.Reads.Asked
taped-fresh-ends = (λ M. tape_rules.Taped.fresh.Met.met, λ κs a. refl)

-- ---- zvt: the reader
pub zvt-read-header-ends : Ends zvt.read_header.Statement.statement × AsksNothing zvt.read_header.Reads.Asked
zvt-read-header-ends = (λ M. zvt.read_header.Met.met, λ κs a. refl)

pub zvt-read-ends : Ends zvt.read.Statement.statement × AsksNothing zvt.read.Reads.Asked
zvt-read-ends = (λ M. zvt.read.Met.met, λ κs a. refl)

pub zvt-read-first-ends : Ends zvt.read_first.Statement.statement × AsksNothing zvt.read_first.Reads.Asked
zvt-read-first-ends = (λ M. zvt.read_first.Met.met, λ κs a. refl)

pub zvt-shorten-ends : Ends zvt.shorten.Statement.statement × AsksNothing zvt.shorten.Reads.Asked
zvt-shorten-ends = (λ M. zvt.shorten.Met.met, λ κs a. refl)

pub zvt-field-ends : Ends zvt.field.Statement.statement × AsksNothing zvt.field.Reads.Asked
zvt-field-ends = (λ M. zvt.field.Met.met, λ κs a. refl)

pub zvt-field-bytes-ends : Ends zvt.field_bytes.Statement.statement × AsksNothing zvt.field_bytes.Reads.Asked
zvt-field-bytes-ends = (λ M. zvt.field_bytes.Met.met, λ κs a. refl)

pub zvt-places-ends : Ends zvt.places.Statement.statement × AsksNothing zvt.places.Reads.Asked
zvt-places-ends = (λ M. zvt.places.Met.met, λ κs a. refl)

pub zvt-read-status-ends : Ends zvt.read_status.Statement.statement × AsksNothing zvt.read_status.Reads.Asked
zvt-read-status-ends = (λ M. zvt.read_status.Met.met, λ κs a. refl)

pub zvt-hear-ends : Ends zvt.hear.Statement.statement × AsksNothing zvt.hear.Reads.Asked
zvt-hear-ends = (λ M. zvt.hear.Met.met, λ κs a. refl)

pub zvt-card-name-ends : Ends zvt.card_name.Statement.statement × AsksNothing zvt.card_name.Reads.Asked
zvt-card-name-ends = (λ M. zvt.card_name.Met.met, λ κs a. refl)

pub zvt-amount-bytes-ends : Ends zvt.amount_bytes.Statement.statement × AsksNothing zvt.amount_bytes.Reads.Asked
zvt-amount-bytes-ends = (λ M. zvt.amount_bytes.Met.met, λ κs a. refl)

pub zvt-password-bytes-ends : Ends zvt.password_bytes.Statement.statement × AsksNothing zvt.password_bytes.Reads.Asked
zvt-password-bytes-ends = (λ M. zvt.password_bytes.Met.met, λ κs a. refl)

pub zvt-receipt-bytes-ends : Ends zvt.receipt_bytes.Statement.statement × AsksNothing zvt.receipt_bytes.Reads.Asked
zvt-receipt-bytes-ends = (λ M. zvt.receipt_bytes.Met.met, λ κs a. refl)

pub zvt-amount-in-ends : Ends zvt.amount_in.Statement.statement × AsksNothing zvt.amount_in.Reads.Asked
zvt-amount-in-ends = (λ M. zvt.amount_in.Met.met, λ κs a. refl)

pub zvt-receipt-in-ends : Ends zvt.receipt_in.Statement.statement × AsksNothing zvt.receipt_in.Reads.Asked
zvt-receipt-in-ends = (λ M. zvt.receipt_in.Met.met, λ κs a. refl)

-- ---- desk
pub desk-open-ends : Ends desk.«open».Statement.statement × AsksDesk Valid desk.«open».Reads.Asked
desk-open-ends = (λ M. desk.«open».Met.met, λ κs a. refl)

pub desk-terminal-ends : Ends desk.terminal.Statement.statement × AsksDesk Valid desk.terminal.Reads.Asked
desk-terminal-ends = (λ M. desk.terminal.Met.met, λ κs a. refl)

pub desk-hears-ends : Ends desk.hears.Statement.statement × AsksNothing desk.hears.Reads.Asked
desk-hears-ends = (λ M. desk.hears.Met.met, λ κs a. refl)

pub desk-link-lost-ends : Ends desk.link_lost.Statement.statement × AsksDesk Valid desk.link_lost.Reads.Asked
desk-link-lost-ends = (λ M. desk.link_lost.Met.met, λ κs a. refl)

pub desk-close-ends : Ends desk.close.Statement.statement × AsksDesk Valid desk.close.Reads.Asked
desk-close-ends = (λ M. desk.close.Met.met, λ κs a. refl)

pub desk-net-ends : Ends desk.net.Statement.statement × AsksDesk Valid desk.net.Reads.Asked
desk-net-ends = (λ M. desk.net.Met.met, λ κs a. refl)

pub desk-line-at-ends : Ends desk.line_at.Statement.statement × AsksDesk Valid desk.line_at.Reads.Asked
desk-line-at-ends = (λ M. desk.line_at.Met.met, λ κs a. refl)

pub desk-lane-at-ends : Ends desk.lane_at.Statement.statement × AsksDesk Valid desk.lane_at.Reads.Asked
desk-lane-at-ends = (λ M. desk.lane_at.Met.met, λ κs a. refl)

pub desk-opening-in-ends : Ends desk.opening_in.Statement.statement × AsksNothing desk.opening_in.Reads.Asked
desk-opening-in-ends = (λ M. desk.opening_in.Met.met, λ κs a. refl)

-- ---- tape
pub tape-write-block-ends : Ends tape.write_block.Statement.statement × AsksNothing tape.write_block.Reads.Asked
tape-write-block-ends = (λ M. tape.write_block.Met.met, λ κs a. refl)

pub tape-read-block-ends : Ends tape.read_block.Statement.statement × AsksNothing tape.read_block.Reads.Asked
tape-read-block-ends = (λ M. tape.read_block.Met.met, λ κs a. refl)

pub tape-write-tape-ends : Ends tape.write_tape.Statement.statement × AsksNothing tape.write_tape.Reads.Asked
tape-write-tape-ends = (λ M. tape.write_tape.Met.met, λ κs a. refl)

pub tape-read-tape-ends : Ends tape.read_tape.Statement.statement × AsksNothing tape.read_tape.Reads.Asked
tape-read-tape-ends = (λ M. tape.read_tape.Met.met, λ κs a. refl)

pub tape-held-ends : Ends tape.held.Statement.statement × AsksNothing tape.held.Reads.Asked
tape-held-ends = (λ M. tape.held.Met.met, λ κs a. refl)

pub tape-open-ends : Ends tape.«open».Statement.statement × AsksDesk ValidTaped tape.«open».Reads.Asked
tape-open-ends = (λ M. tape.«open».Met.met, λ κs a. refl)

pub tape-terminal-ends : Ends tape.terminal.Statement.statement × AsksDesk ValidTaped tape.terminal.Reads.Asked
tape-terminal-ends = (λ M. tape.terminal.Met.met, λ κs a. refl)

pub tape-link-lost-ends : Ends tape.link_lost.Statement.statement × AsksDesk ValidTaped tape.link_lost.Reads.Asked
tape-link-lost-ends = (λ M. tape.link_lost.Met.met, λ κs a. refl)

pub tape-close-ends : Ends tape.close.Statement.statement × AsksDesk ValidTaped tape.close.Reads.Asked
tape-close-ends = (λ M. tape.close.Met.met, λ κs a. refl)

-- ---- replaying: the replay of a tape
pub replaying-replay-ends : Ends replaying.replay.Statement.statement × AsksNothing replaying.replay.Reads.Asked
replaying-replay-ends = (λ M. replaying.replay.Met.met, λ κs a. refl)

-- ---- buffers: text in a lent buffer
pub buffers-fill-ends : Ends buffers.fill.Statement.statement × AsksNothing buffers.fill.Reads.Asked
buffers-fill-ends = (λ M. buffers.fill.Met.met, λ κs a. refl)

pub buffers-upto-ends : Ends buffers.upto.Statement.statement × AsksNothing buffers.upto.Reads.Asked
buffers-upto-ends = (λ M. buffers.upto.Met.met, λ κs a. refl)

pub buffers-copy-ends : Ends buffers.copy.Statement.statement × AsksNothing buffers.copy.Reads.Asked
buffers-copy-ends = (λ M. buffers.copy.Met.met, λ κs a. refl)

pub buffers-find-ends : Ends buffers.find.Statement.statement × AsksNothing buffers.find.Reads.Asked
buffers-find-ends = (λ M. buffers.find.Met.met, λ κs a. refl)

pub buffers-add-ends : Ends buffers.add.Statement.statement × AsksNothing buffers.add.Reads.Asked
buffers-add-ends = (λ M. buffers.add.Met.met, λ κs a. refl)

pub buffers-add-all-ends : Ends buffers.add_all.Statement.statement × AsksNothing buffers.add_all.Reads.Asked
buffers-add-all-ends = (λ M. buffers.add_all.Met.met, λ κs a. refl)

pub buffers-add-hex-ends : Ends buffers.add_hex.Statement.statement × AsksNothing buffers.add_hex.Reads.Asked
buffers-add-hex-ends = (λ M. buffers.add_hex.Met.met, λ κs a. refl)

pub buffers-add-bytes-ends : Ends buffers.add_bytes.Statement.statement × AsksNothing buffers.add_bytes.Reads.Asked
buffers-add-bytes-ends = (λ M. buffers.add_bytes.Met.met, λ κs a. refl)

pub buffers-add-decimal-ends : Ends buffers.add_decimal.Statement.statement × AsksNothing buffers.add_decimal.Reads.Asked
buffers-add-decimal-ends = (λ M. buffers.add_decimal.Met.met, λ κs a. refl)

pub buffers-hex-value-ends : Ends buffers.hex_value.Statement.statement × AsksNothing buffers.hex_value.Reads.Asked
buffers-hex-value-ends = (λ M. buffers.hex_value.Met.met, λ κs a. refl)

-- ---- listing: the text of a listing
pub listing-add-ids-ends : Ends listing.add_ids.Statement.statement × AsksNothing listing.add_ids.Reads.Asked
listing-add-ids-ends = (λ M. listing.add_ids.Met.met, λ κs a. refl)

pub listing-add-size-ends : Ends listing.add_size.Statement.statement × AsksNothing listing.add_size.Reads.Asked
listing-add-size-ends = (λ M. listing.add_size.Met.met, λ κs a. refl)

pub listing-list-ends : Ends listing.list.Statement.statement × AsksNothing listing.list.Reads.Asked
listing-list-ends = (λ M. listing.list.Met.met, λ κs a. refl)

-- ---- printing: what programs print
pub printing-add-number-ends : Ends printing.answers.add_number.Statement.statement × AsksNothing printing.answers.add_number.Reads.Asked
printing-add-number-ends = (λ M. printing.answers.add_number.Met.met, λ κs a. refl)

pub printing-counted-ends : Ends printing.answers.counted.Statement.statement × AsksNothing printing.answers.counted.Reads.Asked
printing-counted-ends = (λ M. printing.answers.counted.Met.met, λ κs a. refl)

pub printing-refused-ends : Ends printing.answers.refused.Statement.statement × AsksNothing printing.answers.refused.Reads.Asked
printing-refused-ends = (λ M. printing.answers.refused.Met.met, λ κs a. refl)

pub printing-not-understood-ends : Ends printing.answers.not_understood.Statement.statement × AsksNothing printing.answers.not_understood.Reads.Asked
printing-not-understood-ends = (λ M. printing.answers.not_understood.Met.met, λ κs a. refl)

pub printing-bytes-line-ends : Ends printing.answers.bytes_line.Statement.statement × AsksNothing printing.answers.bytes_line.Reads.Asked
printing-bytes-line-ends = (λ M. printing.answers.bytes_line.Met.met, λ κs a. refl)

pub printing-reply-ends : Ends printing.answers.reply.Statement.statement × AsksNothing printing.answers.reply.Reads.Asked
printing-reply-ends = (λ M. printing.answers.reply.Met.met, λ κs a. refl)

pub printing-book-ends : Ends printing.desks.book.Statement.statement × AsksDesk Valid printing.desks.book.Reads.Asked
printing-book-ends = (λ M. printing.desks.book.Met.met, λ κs a. refl)

pub printing-replayed-ends : Ends printing.desks.replayed.Statement.statement × AsksDesk Valid printing.desks.replayed.Reads.Asked
printing-replayed-ends = (λ M. printing.desks.replayed.Met.met, λ κs a. refl)

pub printing-lanes-ends : Ends printing.desks.lanes.Statement.statement × AsksDesk Valid printing.desks.lanes.Reads.Asked
printing-lanes-ends = (λ M. printing.desks.lanes.Met.met, λ κs a. refl)

pub printing-net-ends : Ends printing.desks.net.Statement.statement × AsksDesk Valid printing.desks.net.Reads.Asked
printing-net-ends = (λ M. printing.desks.net.Met.met, λ κs a. refl)

pub printing-blocks-ends : Ends printing.desks.blocks.Statement.statement × AsksNothing printing.desks.blocks.Reads.Asked
printing-blocks-ends = (λ M. printing.desks.blocks.Met.met, λ κs a. refl)

pub printing-read-ends : Ends printing.messages.read.Statement.statement × AsksNothing printing.messages.read.Reads.Asked
printing-read-ends = (λ M. printing.messages.read.Met.met, λ κs a. refl)

pub printing-header-ends : Ends printing.messages.header.Statement.statement × AsksNothing printing.messages.header.Reads.Asked
printing-header-ends = (λ M. printing.messages.header.Met.met, λ κs a. refl)

pub printing-first-ends : Ends printing.messages.first.Statement.statement × AsksNothing printing.messages.first.Reads.Asked
printing-first-ends = (λ M. printing.messages.first.Met.met, λ κs a. refl)

pub printing-field-ends : Ends printing.messages.field.Statement.statement × AsksNothing printing.messages.field.Reads.Asked
printing-field-ends = (λ M. printing.messages.field.Met.met, λ κs a. refl)

pub printing-status-ends : Ends printing.messages.status.Statement.statement × AsksNothing printing.messages.status.Reads.Asked
printing-status-ends = (λ M. printing.messages.status.Met.met, λ κs a. refl)

-- ---- words: what a line of a script asks for
pub script-start-ends : Ends words.Script.start.Statement.statement × AsksNothing words.Script.start.Reads.Asked
script-start-ends = (λ M. words.Script.start.Met.met, λ κs a. refl)

pub words-order-of-ends : Ends words.order_of.Statement.statement × AsksNothing words.order_of.Reads.Asked
words-order-of-ends = (λ M. words.order_of.Met.met, λ κs a. refl)
