-- The tape, rule by rule: blocks, whole tapes, a call of a desk with its tape, a day and its file, closing, what must not be on a tape;
-- then the numbers of refusal. That writing, or reading a tape, gives `got w` says that it puts w into the buffer (got-is-written).
-- Assumes nothing.
use mathlib.Core.Path.{◌≡◌, refl, sym, ap, ◌∙◌}
use mathlib.Core.Bool.{Bool, false}
use mathlib.Core.Logic.Iff
use mathlib.Core.Logic.{◌↔◌, ◌⊎◌}
use mathlib.Core.List.{List, [], ◌++◌}
use Prim.Native.Nat.{ℕ, ◌+◌, ◌-◌, ◌*◌, ◌<◌, ◌≤◌}
use native.Mathlib.Omega.{arith}
use lib.ListN.{length, get_or, take, drop, set, length-take, length-drop, drop_of_length-le}
use lib.Seq.{ext_get_or}
use Rattle.std.specs.Prelude.{Err}
use Rattle.std.proofs.Common.{None, Ok}
use Rattle.zvt_rules.specs.declared.Refusal.{Refusal}
use Rattle.zvt_rules.specs.Reading.{Reading, got, unplaced, written_leaves}
use Rattle.zvt_rules.specs.Message.{Message, read_of}
use Rattle.basics.specs.believed.Lists.{Bytes}
use Rattle.zvt_rules.specs.Values.{status_of}
use Rattle.zvt_rules.specs.Answers.{read_answer}
use Rattle.zvt_rules.specs.Listed.{listed_message, field_answer, ids_listed}
use Rattle.zvt_rules.proofs.Readings.{then-stop}
use Rattle.zvt_rules.proofs.MessageBytes.{read-sound}
use Rattle.desk_rules.specs.declared.Phase.TheVariants.{Idle}
use Rattle.desk_rules.specs.declared.Lane.{Lane}
use Rattle.desk_rules.specs.Course.{Call, lost, heard, NumbersFit}
use Rattle.desk_rules.specs.Desk.{fresh}
use Rattle.desk_rules.specs.Memory.{view, answer_of, leaves_of}
use Rattle.desk_rules.specs.believed.Table.{phase_at}
use Rattle.tape_rules.specs.declared.Taped.{Taped}
use Rattle.tape_rules.specs.declared.TapedAnswer.{TapedAnswer}
use Rattle.tape_rules.specs.declared.ClosedAnswer.{ClosedAnswer}
use Rattle.tape_rules.specs.Block.{block_bytes, write_block, read_block}
use Rattle.tape_rules.specs.Records.{Record, masked, recorded}
use Rattle.tape_rules.specs.declared.Held.{Held}
use Rattle.tape_rules.specs.Good.{good_of, held_answer}
use Rattle.tape_rules.specs.Recording.{fresh_taped, ValidTaped, block_answer, written_answer, write_tape, read_tape, taped_answer, taped_out, taped_room, close_taped}
use Rattle.tape_rules.specs.Taping.{TapeTurn, Day, fresh_day}
use Rattle.tape_rules.specs.believed.Blocks.{used_of, Drawn, Outside, Unplaced, WriteNo, BlockNo}
use Rattle.tape_rules.specs.believed.Tapes.{piece_at, block_at, Pieces, DrawnTape, TapeWriteNo, TapeReadNo, GoodBlocks}
use Rattle.tape_rules.specs.believed.Masking.{OnTape}
use Rattle.tape_rules.specs.believed.Recorded.{Joined, DayRecords, DayTape, TapedRow}
use Rattle.tape_rules.specs.believed.Filed.{Filed, Played}
use Rattle.tape_rules.proofs.BlockLaws as block
use Rattle.tape_rules.proofs.Changed.{changed-byte, tape-changed}
use Rattle.tape_rules.proofs.BlockRows as rows
use Rattle.tape_rules.proofs.TapeRows as tapes
use Rattle.tape_rules.proofs.Masks.{mask_size, masked-twice}
use Rattle.tape_rules.proofs.Places.{on-tape}
use Rattle.tape_rules.proofs.Unseen.{mask-heard}
use Rattle.tape_rules.proofs.Taping.{taped-table, taped-valid, close-taped-valid}
use Rattle.tape_rules.proofs.Playing.{fresh-whole}
use Rattle.promises.specs.TapeDays.{LentBytes, exchanges, DeskAlone, ClosedRow, Hiding, AlikeDays}
use Rattle.promises.proofs.TapeAnswers as answers
use Rattle.promises.proofs.TapeDays as days
use Rattle.promises.proofs.Secrets as secrets

-- ---- T1 to T8: a block

-- A block is written exactly where its number and its payload are within their limits and 512 bytes are lent for it.
pub block-written-exactly : (number : ℕ) (p : List ℕ) (room k : ℕ)
    → (written_answer (write_block number p room) ≡ Ok k) ↔ ((Outside number p → ⊥) × (512 ≤ room) × (512 ≡ k))
block-written-exactly number p room k = (
  λ h.
      let w = (answers.written-size (write_block number p room) k).0 h in
      let g = rows.block-got number p room w.0 w.1 in
      (g.0, g.1, sym (size g.0) ∙ ap length g.2 ∙ w.2),
  λ h. (answers.written-size (write_block number p room) k).1 (block_bytes number p, rows.block-fits number p room h.0 h.1, size h.0 ∙ h.2),
)
  where
    size : (Outside number p → ⊥) → length (block_bytes number p) ≡ 512
    size o = block.block-size number p (rows.within number p o).2

-- What a block then holds is what is drawn in T2 to T5, byte for byte, and there is no other such block.
pub block-laid-out : (number : ℕ) (p : List ℕ) (room : ℕ) (s : List ℕ) → Bytes p → number ≤ 4_294_967_295
    → (write_block number p room ≡ got s) ↔ (Drawn number p s × Bytes s × (Outside number p → ⊥) × (512 ≤ room))
block-laid-out = rows.written-drawn

-- Of a block exactly the payload is read that is drawn in it, for the number due, a full one where another block follows.
pub block-read-exactly : (due : ℕ) (last : Bool) (s : List ℕ) (k : ℕ)
    → (block_answer (read_block due last s) ≡ Ok k)
    ↔ ((p : List ℕ) × (Drawn due p s × (Outside due p → ⊥) × (last ≡ false → length p ≡ 504)) × (length p ≡ k))
block-read-exactly due last s k = (
  λ h. let r = (answers.block-holds (read_block due last s) k).0 h in (r.0, (rows.block-drawn due last s r.0).0 r.1, r.2),
  λ h. (answers.block-holds (read_block due last s) k).1 (h.0, (rows.block-drawn due last s h.0).1 h.1, h.2),
)

-- A written block reads back as its payload: nothing of a day is lost in a block.
pub block-reads-back : (number : ℕ) (p : List ℕ) (room : ℕ) (s : List ℕ) (last : Bool) → number ≤ 4_294_967_295 → (last ≡ false → length p ≡ 504)
    → write_block number p room ≡ got s → (block_answer (read_block number last s) ≡ Ok (length p)) × (take (length p) (drop 6 s) ≡ p)
block-reads-back number p room s last fits full h =
    let g = rows.block-got number p room s h in
    let w = rows.within number p g.0 in
    let e = block.block_reads number p last (omega (arith, w.0)) (omega arith) (omega (arith, w.1)) w.2 full in
    rw (← g.2) ((answers.block-holds _ (length p)).1 (p, e, refl), (block.read-payload number last _ p e).4)

-- T6: "A good block with one byte changed, whichever, is refused (20).": in every block, at every place, whatever the byte becomes and
-- whatever block is due.
pub one-changed-byte : (number : ℕ) (p : List ℕ) (room : ℕ) (s : List ℕ) (i v due : ℕ) (last : Bool) → Bytes p → write_block number p room ≡ got s
    → i < 512 → v < 256 → (v ≡ get_or s i 0 → ⊥) → block_answer (read_block due last (set s i v)) ≡ Err (unplaced 20)
unfolding block_answer
one-changed-byte number p room s i v due last b w h small other =
    let g = rows.block-got number p room s w in
    let e = rw g.2 at (changed-byte number p i v due last (rows.within number p g.0).2 b h small) in
    rw (e other)

-- So is a whole tape that is read: whichever of its bytes is changed, whatever the byte becomes and whatever room is lent.
pub one-changed-byte-of-a-tape : (s : List ℕ) (room k i v other : ℕ) → Bytes s → written_answer (read_tape s room) ≡ Ok k
    → i < length s → v < 256 → (v ≡ get_or s i 0 → ⊥) → written_answer (read_tape (set s i v) other) ≡ Err (unplaced 20)
unfolding read_tape written_answer
one-changed-byte-of-a-tape s room k i v other b h l small new =
    let w = (answers.written-size (read_tape s room) k).0 h in
    let p = w.0 in
    let read = (tapes.payload-drawn s p).1 ((tapes.read-tape-drawn s p room).0 w.1).0 in
    rw (then-stop _ _ (tape-changed s p i v b read l small new))

-- ---- T18, T1: a whole tape

-- A tape is written exactly where the numbers of its blocks fit four bytes and all of them have room: one for each piece of its payload.
pub tape-written-exactly : (p : List ℕ) (room k : ℕ)
    → (written_answer (write_tape p room) ≡ Ok k) ↔ ((n : ℕ) × Pieces p n × (n ≤ 4_294_967_295) × (n * 512 ≤ room) × (n * 512 ≡ k))
tape-written-exactly p room k =
    let says = answers.written-size (write_tape p room) k in (
      λ h.
          let w = says.0 h in
          let g = tapes.tape-got p room w.0 w.1 in
          (_, tapes.pieces-for p, g.0, g.1, sym (tapes.tape-bytes p) ∙ ap length g.2 ∙ w.2),
      λ h.
          let n = tapes.pieces_are p h.0 h.1 in
          says.1 (_, tapes.tape-fits p room (omega (arith, h.2)) (omega (arith, h.3)), omega (arith, tapes.tape-bytes p, h.4)),
    )

-- What it then holds is the tape that is drawn of that payload, block by block and numbered from 1, and there is no other.
pub tape-laid-out : (p : List ℕ) (room : ℕ) (s : List ℕ) → Bytes p
    → (write_tape p room ≡ got s) ↔ ((n : ℕ) × DrawnTape p s n × Bytes s × (n ≤ 4_294_967_295) × (n * 512 ≤ room))
tape-laid-out = tapes.tape-drawn

-- T3: "Only in the last block of a tape may it be under 504."
pub only-last-short : (p : List ℕ) (n k : ℕ) → Pieces p n → 1 + k < n → length (piece_at k p) ≡ 504
only-last-short p n k h l = omega (arith, h.1, length-take 504 (drop (k * 504) p), length-drop (k * 504) p)

-- No payload is no block, and no block is no payload. T1: "the empty tape has none".
pub no-payload-no-block : (p : List ℕ) (room : ℕ) → (written_answer (write_tape p room) ≡ Ok 0) ↔ (p ≡ [])
no-payload-no-block p room = (
  λ h. let k = (tape-written-exactly p room 0).0 h in drop_of_length-le p {i = 0} (omega (arith, k.1.0, k.4)),
  λ e. rw e ((tape-written-exactly [] room 0).1 (0, omega arith, omega arith, omega arith, refl)),
)

-- Of a tape exactly the payload is read that is drawn on it.
pub tape-read-exactly : (s p : List ℕ) (room : ℕ) → (read_tape s room ≡ got p) ↔ (((n : ℕ) × DrawnTape p s n) × (length p ≤ room))
tape-read-exactly = tapes.read-tape-drawn

-- A written tape reads back as its payload: what was joined and cut is put together again, byte for byte.
pub tape-reads-back : (p : List ℕ) (room back : ℕ) (s : List ℕ) → write_tape p room ≡ got s → length p ≤ back → read_tape s back ≡ got p
tape-reads-back p room back s w h = (tape-read-exactly s p back).1 ((tapes.payload-drawn s p).0 (tapes.tape-joins-again p room s w), h)

-- T24: of a tape that is not good to its end, the payload of the blocks before the first refused one, and that one's refusal.
pub held-exactly : (s : List ℕ) (h : Held) → (held_answer (good_of s) ≡ h) ↔ ((p : List ℕ) × GoodBlocks s p h.ending × (length p ≡ h.bytes))
held-exactly s h = answers.held-drawn s h

-- ---- T21: a call of a desk with its tape

-- What is answered, and what is left of the room for blocks, is what one row says: refused as the desk alone refuses, else with 16 or 11
-- where its blocks find no number or no room, with desk, tape and room as they were; or taken, and the room holds the blocks that changed.
pub taped-answered-exactly : (t : Taped) (c : Call) (out room : List ℕ) → NumbersFit c → (a : TapedAnswer) (left : List ℕ) → Bytes left
    → ((taped_answer t c (length out) (length room) ≡ a) × (taped_room t c (length out) room ≡ left)) ↔ TapedRow t c (length out) room a left
taped-answered-exactly t c out room n = taped-table t c n (length out) room

-- R46: a refusal of its own for the tape, 16 or 11, names no place; every other is the desk's, with the desk's place.
pub taped-placed : (t : Taped) (c : Call) (out room : List ℕ) (r : Refusal) → (taped_answer t c (length out) (length room)).reply ≡ Err r
    → ((answer_of t.desk c (length out)).reply ≡ Err r) ⊎ (r.place ≡ None)
taped-placed = answers.taped-own

module _ (t : Taped) (c : Call) (out room : List ℕ) where
  -- With an accepted call a desk with its tape does what the desk alone does.
  pub as-without-tape : (k : ℕ) → let a = taped_answer t c (length out) (length room) in
      let b = answer_of t.desk c (length out) in
      a.reply ≡ Ok k → (a.reply ≡ b.reply) × (a.taped.desk ≡ b.desk) × (taped_out t c (length room) out ≡ leaves_of t.desk c out)
  as-without-tape = answers.taped-as-desk t c out room

  module _ (v : ValidTaped t) (n : NumbersFit c) where
    -- Whoever lends 5,120 bytes for blocks is answered as by the desk alone: refused exactly where that refuses, with the same number. The
    -- one exception is a day of over 4,294,967,285 full blocks, two million million bytes: there a block number may need a fifth byte (16).
    pub enough : t.tail.full + 10 ≤ 4_294_967_295 → 5_120 ≤ length room
        → (taped_answer t c (length out) (length room)).reply ≡ (answer_of t.desk c (length out)).reply
    enough = answers.room-enough t c out room v n

    -- That is room for ten blocks, and no call changes more.
    pub ten-blocks : (taped_answer t c (length out) (length room)).blocks ≤ 10
    ten-blocks = answers.blocks-most t c out room v n

-- So no payment stays open for its tape's sake: a lost link on an open lane is taken, and the lane is idle then.
pub lost-link-taken : (t : Taped) → ValidTaped t → (i : ℕ) (room : List ℕ) → i < 8 → (phase_at (view t.desk) i ≡ Idle → ⊥)
    → t.tail.full + 10 ≤ 4_294_967_295 → 5_120 ≤ length room → let a = taped_answer t (lost i) 0 (length room) in
    (a.reply ≡ Ok 0) × (phase_at (view a.taped.desk) i ≡ Idle)
lost-link-taken = answers.lost-taken

-- ---- T12, T13, T23: a day and its file

-- Every day is played, and in one way: what was called and lent settles which calls are accepted, and desk, tape and file at its end.
pub one-day : (day : List TapeTurn) → LentBytes day → (at_end : Day) × (calls : List Call) × Played fresh_day day at_end calls
    × ((e : Day) (cs : List Call) → Played fresh_day day e cs → (at_end ≡ e) × (calls ≡ cs))
one-day day b = (_, _, (days.played-is day b _ _).1 (refl, refl), λ e cs. (days.played-is day b e cs).0)

-- A day is any list of calls, each with the room lent to it, on a fresh desk and an empty file, up to any moment before it is closed.
module _ (day : List TapeTurn) (b : LentBytes day) (at_end : Day) (calls : List Call) (played : Played fresh_day day at_end calls) where
  known : days.Known at_end calls (recorded fresh calls)
  known = days.a-day day b at_end calls played

  -- The desk is what its accepted calls alone make of it: refused ones leave no trace, and what the demands and the questions say of a day at
  -- the desk holds of it.
  pub desk-of-day : DeskAlone calls at_end.taped.desk
  desk-of-day = days.alone played known

  -- And the till's file is exactly the tape of the accepted calls and their replies, whatever rooms were lent to them.
  pub tape-of-day : DayTape (exchanges calls) at_end.file
  tape-of-day = let r = days.its-records known in (r.0, recorded fresh calls, _, r.1, r.2, known.drawn)

  -- Whoever reads the file and takes its payload apart into records finds those of the calls and replies, in their order, and no others.
  pub day-reads-back : (p : List ℕ) × ((room : ℕ) → length p ≤ room → read_tape at_end.file room ≡ got p)
      × ((rs : List Record) → Joined rs p ↔ DayRecords (exchanges calls) rs)
  day-reads-back = (recorded fresh calls, days.file-reads known, days.records-are known)

  -- A block of the file that is full is the same at every later moment of the day: only the end changes.
  pub only-the-end-changes : (more : List TapeTurn) → LentBytes more → (later : Day) (all : List Call) → Played fresh_day (day ++ more) later all
      → (k : ℕ) → used_of (block_at k at_end.file) ≡ 504 → block_at k later.file ≡ block_at k at_end.file
  only-the-end-changes more c later all = days.full-is-kept day more b c at_end later calls all played

  -- One more call that is accepted, and what the till's file is after it.
  module _ (u : TapeTurn) (a : TapedAnswer) (left : List ℕ) (n : ℕ) (row : TapedRow at_end.taped u.call u.out u.room a left)
      (reply : a.reply ≡ Ok n) where
    -- Its blocks are the last of the file, from the first that changed on. All before them stay, and at most one of them was there already:
    -- a short one.
    pub where-blocks-lie : (after : List ℕ) → Filed a left at_end.file after
        → (take ((a.first - 1) * 512) after ≡ take ((a.first - 1) * 512) at_end.file)
        × (length after ≡ (a.first - 1 + a.blocks) * 512)
        × (length at_end.file ≤ a.first * 512)
        × (used_of (block_at (a.first - 1) at_end.file) < 504)
    where-blocks-lie after = days.at-the-end known row reply

    -- So a write that is torn off, whatever it leaves from there on, can harm the last, short block alone: each full one is as it was.
    pub torn-write : (torn : List ℕ) → take ((a.first - 1) * 512) torn ≡ take ((a.first - 1) * 512) at_end.file
        → (k : ℕ) → used_of (block_at k at_end.file) ≡ 504 → block_at k torn ≡ block_at k at_end.file
    torn-write = days.torn-off known row reply

  -- What closing says of the day's tape, its blocks and the bytes that they hold, is what the file has; and a new, empty one begins.
  pub closing-says : (n : ℕ) → let a = close_taped at_end.taped in
      a.reply ≡ Ok n → (p : List ℕ) × DrawnTape p at_end.file a.blocks × (length p ≡ a.bytes) × (a.taped ≡ fresh_taped)
  closing-says n h =
      let k = days.closing-tells known ((answers.close-exactly at_end.taped known.valid _).0 refl) h in
      (recorded fresh calls, k.0, k.1, k.2)

-- What is answered to a closing, and left, is what one row says: refused with 19 exactly where a payment is open, and then all stays; else
-- the bytes that the tape holds, as many blocks as they take, and a fresh desk with an empty tape.
pub close-taped-exactly : (t : Taped) → ValidTaped t → (a : ClosedAnswer) → (close_taped t ≡ a) ↔ ClosedRow t a
close-taped-exactly = answers.close-exactly

-- ---- T14 to T17: what must not be on the tape

-- Of an accepted message each byte is recorded at its place: 00 for a byte of a password, EE for a value byte of field 22, 23, 24 or 2D of
-- a list, and else the byte that was sent.
pub recorded-byte-by-byte : (s : List ℕ) (m : Message) → Bytes s → read_of s ≡ got m
    → (length (masked s) ≡ length s) × ((i v : ℕ) → i < length s → OnTape m s i v ↔ (get_or (masked s) i 0 ≡ v))
recorded-byte-by-byte s m b e = (mask_size s b, on-tape s m e (read-sound s m b e).0)

-- No record that can be read of a day's file holds a digit of a password or a value byte of field 22, 23, 24 or 2D of a list.
pub nothing-secret : (day : List TapeTurn) → LentBytes day → (at_end : Day) (calls : List Call) → Played fresh_day day at_end calls
    → (room : ℕ) (p : List ℕ) (rs : List Record) → read_tape at_end.file room ≡ got p → Joined rs p → Hiding rs
nothing-secret day b at_end calls played room p rs h j =
    let k = days.a-day day b at_end calls played in
    rw (← (days.run-records k rs (rw (days.read_is k room p h) j))) (secrets.run-hides fresh calls k.accepted k.fit)

-- The reader says of a recorded message what it said of the message: pair, length of the body, shortness, number of objects, the ids of its
-- fields in their order, where the value of each lies, and what a status information tells.
pub masked-says-the-same : (s : List ℕ) → Bytes s
    → (read_answer (masked s) ≡ read_answer s) × (ids_listed (listed_message (read_of (masked s))) ≡ ids_listed (listed_message (read_of s)))
    × ((id : ℕ) → field_answer id (masked s) ≡ field_answer id s) × (status_of (masked s) ≡ status_of s)
masked-says-the-same s b = (secrets.masked-read s b, secrets.masked-ids s b, secrets.masked-field s b, secrets.masked-status s b)

-- And it does to a lane what the message did.
pub masked-does-the-same : (l : Lane) (s : List ℕ) → Bytes s → heard l (masked s) ≡ heard l s
masked-does-the-same = mask-heard

-- Masking twice is masking once.
pub masked-once : (s : List ℕ) → Bytes s → masked (masked s) ≡ masked s
masked-once = masked-twice

-- Two messages that differ only in password digits and in value bytes of 22, 23, 24 and 2D are recorded as the same bytes.
pub alike-one-record : (s t : List ℕ) (m n : Message) → Bytes s → Bytes t → read_of s ≡ got m → read_of t ≡ got n → length s ≡ length t
    → ((i : ℕ) → i < length s → (v : ℕ) × OnTape m s i v × OnTape n t i v) → masked s ≡ masked t
alike-one-record s t m n b d e f long same =
    let ms = recorded-byte-by-byte s m b e in
    let mt = recorded-byte-by-byte t n d f in
    ext_get_or 0 (masked s) (masked t) (ms.0 ∙ long ∙ sym mt.0)
    (λ i l.
    let h : i < length s = omega (arith, ms.0) in
    let k = same i h in
    (ms.1 i k.0 h).0 k.1 ∙ sym ((mt.1 i k.0 (omega arith)).0 k.2))

-- So are whole days: nobody can tell from desk, tape and file which password was typed or what stood in these fields.
pub alike-days-one-tape : (day other : List TapeTurn) → LentBytes day → LentBytes other → AlikeDays day other → (d e : Day) (cs ds : List Call)
    → Played fresh_day day d cs → Played fresh_day other e ds → d ≡ e
alike-days-one-tape day other b c a d e cs ds p q =
    sym ((days.played-is day b d cs).0 p).0 ∙ secrets.alike-days day other fresh_day a ∙ ((days.played-is other c e ds).0 q).0

-- ---- R30: "one is given exactly where its row holds and none before it there does."

-- R45: "Writing one: 16, 11."
pub block-write-refused-exactly : (number : ℕ) (p : List ℕ) (room : ℕ) (r : Refusal)
    → (written_answer (write_block number p room) ≡ Err r) ↔ Unplaced (WriteNo number p room) r
block-write-refused-exactly number p room r = Iff.trans (answers.written-says (write_block number p room) r) (rows.write-no number p room r)

-- R45: "Reading a block: 1, 3, 20, 21."
pub block-read-refused-exactly : (due : ℕ) (last : Bool) (s : List ℕ) (r : Refusal)
    → (block_answer (read_block due last s) ≡ Err r) ↔ Unplaced (BlockNo due last s) r
block-read-refused-exactly due last s r = Iff.trans (answers.block-says (read_block due last s) r) (rows.block_no due last s r)

-- T20: "Writing a whole tape gives 16 where a block number needs more than four bytes, then 11."
pub tape-write-refused-exactly : (p : List ℕ) (room : ℕ) (r : Refusal)
    → (written_answer (write_tape p room) ≡ Err r) ↔ Unplaced (TapeWriteNo p room) r
tape-write-refused-exactly p room r = Iff.trans (answers.written-says (write_tape p room) r) (tapes.write-tape-no p room r)

-- T20: "Reading one gives the refusal of the first refused block, then 11."
pub tape-read-refused-exactly : (s : List ℕ) (room : ℕ) (r : Refusal)
    → (written_answer (read_tape s room) ≡ Err r) ↔ Unplaced (TapeReadNo s room) r
tape-read-refused-exactly s room r = Iff.trans (answers.written-says (read_tape s room) r) (tapes.read-tape-no s room r)

-- ---- R32: "A refusal leaves the desk and all lent buffers as they were."

-- Where writing a block or a tape, or reading a tape, is refused, the buffer stays as it was.
pub write-unchanged : (x : Reading (List ℕ)) (out : List ℕ) (r : Refusal) → written_answer x ≡ Err r → written_leaves x out ≡ out
write-unchanged = answers.written_same

-- A refused call leaves desk, tape and both buffers as they were: it can be made again.
pub taped-unchanged : (t : Taped) (c : Call) (out room : List ℕ) (r : Refusal) → (taped_answer t c (length out) (length room)).reply ≡ Err r
    → ((taped_answer t c (length out) (length room)).taped ≡ t) × (taped_out t c (length room) out ≡ out) × (taped_room t c (length out) room ≡ room)
taped-unchanged = answers.taped-same

-- ---- R33: "Success leaves the bytes of a lent buffer behind those written as they were."

-- What is written is put first into the buffer, and the answer is its length: `got w` says just that.
pub got-is-written : (x : Reading (List ℕ)) (out w : List ℕ)
    → (x ≡ got w) ↔ ((written_answer x ≡ Ok (length w)) × (take (length w) (written_leaves x out) ≡ w))
got-is-written = answers.written-got

-- Beyond it the buffer stays as it was; of a call, as-without-tape and taped-answered-exactly say so.
pub write-beyond-unchanged : (x : Reading (List ℕ)) (out : List ℕ) (k : ℕ) → written_answer x ≡ Ok k
    → drop k (written_leaves x out) ≡ drop k out
write-beyond-unchanged = answers.written-beyond

-- ---- P37: all that a function presumes of a desk with its tape holds of the fresh one, and every call keeps it

-- A desk with its tape that these functions gave out may be handed to any of them.
pub fresh-taped-fit : ValidTaped fresh_taped
fresh-taped-fit = fresh-whole.0

pub taped-fit : (t : Taped) (c : Call) (out room : ℕ) → ValidTaped t → NumbersFit c → ValidTaped (taped_answer t c out room).taped
taped-fit = taped-valid

pub close-taped-fit : (t : Taped) → ValidTaped t → ValidTaped (close_taped t).taped
close-taped-fit = close-taped-valid
