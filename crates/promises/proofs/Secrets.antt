-- What is hidden on the tape: the reader says the same of a masked message, no record of an accepted call holds a secret, and days
-- that differ in secrets alone leave the same. Assumes nothing.
use mathlib.Core.Path.{◌≡◌, refl, sym, ap, ap₂, ◌∙◌}
use mathlib.Core.Logic.{inl, inr}
use mathlib.Core.List.{List, [], ◌∷◌, ◌++◌}
use Prim.Native.Nat.{ℕ, ◌+◌, ◌-◌, ◌*◌}
use lib.ListN.{length, take, drop}
use lib.Seq.{take_at}
use borrow.Author.Tests.{le-leb}
use Rattle.std.specs.Prelude.{Ok}
use Rattle.std.proofs.Common.{Option}
use Rattle.zvt_rules.specs.Reading.{Reading, got, refused}
use Rattle.zvt_rules.specs.Message.{Message, read_of}
use Rattle.zvt_rules.specs.believed.Writing.{body_bytes, length_bytes, message_bytes}
use Rattle.basics.specs.believed.Lists.{Bytes}
use Rattle.zvt_rules.specs.Values.{status_fields, status_of, is_status, status_in, body_fields}
use Rattle.zvt_rules.proofs.Readings.{got_same}
use Rattle.zvt_rules.specs.Answers.{outline_of, as_read_answer, read_answer}
use Rattle.zvt_rules.specs.Listed.{listed_message, named_listed, asked_of, field_answer, ids_listed}
use Rattle.desk_rules.specs.declared.Phase.{Phase}
use Rattle.desk_rules.specs.declared.Phase.TheVariants.{Idle, Waiting, Running}
use Rattle.desk_rules.specs.declared.Lane.{Lane}
use Rattle.desk_rules.specs.declared.Line.{Line}
use Rattle.desk_rules.specs.declared.Opening.{Opening}
use Rattle.desk_rules.specs.Kinds.{booked}
use Rattle.desk_rules.specs.Openings.{kind_of, refers_to, last_line, command_of, command_bytes, command_size, without_password}
use Rattle.desk_rules.specs.Course.{opened_by, heard, Call, opening, message, lost, lane_of, needs_line, moves, reply_bytes, answered, writes, NumbersFit}
use Rattle.desk_rules.specs.Desk.{State, lane_at, Decision, refuse, accept, step, Accepts, Accepted}
use Rattle.desk_rules.specs.Memory.{lines_of_desk, view, answer_by}
use Rattle.desk_rules.proofs.Commands.{command-size, command-reads}
use Rattle.desk_rules.proofs.Recognised.{password-gone}
use Rattle.tape_rules.specs.declared.Taped.{Taped}
use Rattle.tape_rules.specs.Records.{mask_body, mask_message, masked, Record, reply_record, records_by, records_of_run}
use Rattle.tape_rules.specs.declared.TapedAnswer.{TapedAnswer}
use Rattle.tape_rules.specs.Block.{block_size}
use Rattle.tape_rules.specs.Cuts.{laid}
use Rattle.tape_rules.specs.Tails.{changed_pieces, changed_blocks}
use Rattle.tape_rules.specs.Recording.{call_bytes, records_of, decide_taped, taped_by, taped_answer, room_by, taped_room}
use Rattle.tape_rules.specs.Taping.{TapeTurn, Day, filed, after_turn, taped_run}
use Rattle.tape_rules.specs.believed.Masking.{RecordedAs}
use Rattle.tape_rules.proofs.Masks.{Each, mask-same, mask-reads, masked-got, masked-refused, masked-twice, opening-masked, alike-listed, mask-alike}
use Rattle.tape_rules.proofs.Places.{recorded-own, recorded-exactly}
use Rattle.tape_rules.proofs.RecordLaws.{command-own}
use Rattle.tape_rules.proofs.TailLaws.{changed-size}
use Rattle.tape_rules.proofs.Unseen.{mask-heard, heard-reads, same-status, Agree, decide-agree}
use Rattle.promises.specs.TapeDays.{Hiding, AlikeOpening, refunds, reversals, AlikeCall, unchanged, openings, messages, AlikeDays}
use Rattle.promises.proofs.DemandTwo.{reply-reads-back}

-- ---- what the reader says of a masked message
told_same : (m : Message) → outline_of (mask_message m) ≡ outline_of m
unfolding outline_of
told_same m = let k = mask-same m in rw (k.count, k.short, k.size, k.class, k.instruction, k.long)

-- a reading's answer that is the same of a masked message is the same of masked bytes
of-masked : {X : Type 0} (say : Reading Message → X) → ((m : Message) → say (got (mask_message m)) ≡ say (got m)) → (s : List ℕ) → Bytes s
    → say (read_of (masked s)) ≡ say (read_of s)
of-masked {X} say same s b = go (read_of s) refl
  where
    go : (r : Reading Message) → read_of s ≡ r → say (read_of (masked s)) ≡ say (read_of s)
    go (got m) e = ap say (mask-reads s m b e) ∙ same m ∙ ap say (sym e)
    go (refused f) e = ap (λ (t : List ℕ). say (read_of t)) (masked-refused s f e)

module _ (s : List ℕ) (b : Bytes s) where
  pub masked-read : read_answer (masked s) ≡ read_answer s
  unfolding read_answer as_read_answer
  masked-read = of-masked as_read_answer (λ m. rw (told_same m)) s b

  masked-listed : listed_message (read_of (masked s)) ≡ listed_message (read_of s)
  masked-listed = of-masked listed_message (λ m. alike-listed (mask_message m) m (mask-alike m)) s b

  pub masked-field : (id : ℕ) → field_answer id (masked s) ≡ field_answer id s
  unfolding field_answer asked_of
  masked-field id = of-masked (asked_of id) (λ m. ap (λ ls. Ok (named_listed id ls)) (alike-listed (mask_message m) m (mask-alike m))) s b

  pub masked-ids : ids_listed (listed_message (read_of (masked s))) ≡ ids_listed (listed_message (read_of s))
  masked-ids = ap ids_listed masked-listed

  pub masked-status : status_of (masked s) ≡ status_of s
  unfolding status_of status_fields mask_message
  masked-status =
      of-masked (λ r. status_in (status_fields r))
      (λ m. same-status (is_status m) (body_fields (mask_body m.body)) (body_fields m.body) (mask-same m).status) s b

-- ---- the records of accepted calls
hiding-append : (rs ts : List Record) → Hiding rs → Hiding ts → Hiding (rs ++ ts)
unfolding Hiding
hiding-append [] ts h k = k
hiding-append (r ∷ rs) ts h k = (h.0, hiding-append rs ts h.1 k)

-- what is recorded of an opening is a command with password 0, which is recorded as it is
opening-hides : (o : Opening) → RecordedAs (masked (command_bytes o)) (masked (command_bytes o))
opening-hides o =
    let e = without_password o in
    rw (opening-masked o)
    ((recorded-own (command_bytes e) (command-own e) (command_bytes e)).1 ((command_of e, command-reads e), opening-masked e ∙ ap command_bytes (password-gone o)))

-- and so is what is recorded of a message
masked-hides : (s : List ℕ) (m : Message) → Bytes s → read_of s ≡ got m → RecordedAs (masked s) (masked s)
masked-hides s m b e =
    let read = mask-reads s m b e in
    (recorded-own (masked s) (λ n f. ap message_bytes (got_same (sym f ∙ read)) ∙ sym (masked-got s m e)) (masked s)).1
    ((mask_message m, read), masked-twice s b)

reply-hides : (i : ℕ) (p : Phase) → Hiding (reply_record i (answered p))
unfolding Hiding reply_record answered mask_message mask_body message_bytes body_bytes length_bytes
reply-hides i Idle = tt
reply-hides i Waiting = tt
reply-hides i Running = (
  inr ((recorded-own reply_bytes (λ n f. ap message_bytes (got_same (sym f ∙ reply-reads-back))) reply_bytes).1
      ((_, reply-reads-back), masked-got reply_bytes _ reply-reads-back)),
  tt,
)

call-hides : (s : State) (c : Call) → Accepts s c → NumbersFit c → Hiding (records_by (lane_at s.lanes (lane_of c)) c)
unfolding Hiding records_by lane_of writes NumbersFit
call-hides s (opening i o) a n = (inr (opening-hides o), tt)
call-hides s (message i b) a n =
    let k = heard-reads s i b a in
    (inr (masked-hides b k.0 n k.1), reply-hides i (lane_at s.lanes i).phase)
call-hides s (lost i) a n = (inl refl, tt)

pub run-hides : (s : State) (cs : List Call) → Accepted s cs → Each NumbersFit cs → Hiding (records_of_run s cs)
unfolding Hiding Accepted records_of_run
run-hides s [] a n = tt
run-hides s (c ∷ cs) a n =
    hiding-append (records_by (lane_at s.lanes (lane_of c)) c) (records_of_run (step s c) cs) (call-hides s c a.0 n.0)
    (run-hides (step s c) cs a.1 n.1)

-- ---- calls that differ in secrets alone
-- two openings that differ in a password alone ask for the same, and are recorded as the same
alike-opened : {o e : Opening} → AlikeOpening o e → (l : Lane) (line : Line) → opened_by l o line ≡ opened_by l e line
unfolding opened_by
alike-opened (refunds p q amount hp hq) l line = rw (le-leb p 999_999 hp, le-leb q 999_999 hq)
alike-opened (reversals p q receipt hp hq) l line = rw (le-leb p 999_999 hp, le-leb q 999_999 hq)

alike-without : {o e : Opening} → AlikeOpening o e
    → (without_password o ≡ without_password e) × (refers_to o ≡ refers_to e) × (kind_of o ≡ kind_of e) × (command_size o ≡ command_size e)
alike-without (refunds p q amount hp hq) = (refl, refl, refl, refl)
alike-without (reversals p q receipt hp hq) = (refl, refl, refl, refl)

agree : {c e : Call} → AlikeCall c e → Agree c e
unfolding lane_of needs_line moves writes records_by
agree (unchanged c) = record { lane = refl; needs = refl; move = λ l ls. refl; size = λ l. refl; records = λ l. refl }
agree (openings i o e a) =
    let w = alike-without a in
    record {
      lane = refl;
      needs = ap booked w.2;
      move = λ l ls. alike-opened a l (last_line i (refers_to o) ls) ∙ ap (λ (r : Option ℕ). opened_by l e (last_line i r ls)) w.1;
      size = λ l. command-size o ∙ w.3 ∙ sym (command-size e);
      records = λ l. rw (opening-masked o, opening-masked e, w.0);
    }
agree (messages i s t w b d r q) =
    let same : masked s ≡ masked t = ((recorded-exactly s w b).0 r).1 ∙ sym ((recorded-exactly t w d).0 q).1 in
    record {
      lane = refl;
      needs = refl;
      move = λ l ls. sym (mask-heard l s b) ∙ ap (heard l) same ∙ mask-heard l t d;
      size = λ l. refl;
      records = λ l. rw same;
    }

module _ (c e : Call) (a : Agree c e) where
  bytes-agree : (s : State) → call_bytes s c ≡ call_bytes s e
  unfolding call_bytes
  bytes-agree s = rw (a.lane, a.records (lane_at s.lanes (lane_of e)))

  module _ (t : Taped) where
    decide-taped-agree : (out room : ℕ) → decide_taped t c out room ≡ decide_taped t e out room
    unfolding decide_taped
    decide-taped-agree out room = rw (decide-agree c e a (view t.desk) out, bytes-agree (view t.desk))

    answer-agree : (x : Decision) → taped_by x t c ≡ taped_by x t e
    unfolding taped_by answer_by
    answer-agree (refuse n) = refl
    answer-agree accept =
        let l = lane_at t.desk.lanes (lane_of e) in
        rw (a.lane, a.size l, a.move l (lines_of_desk t.desk), bytes-agree (view t.desk))

    -- the blocks of the one are those of the other, and nothing else of a room comes into the file
    file-agree : (x : Decision) (room other file : List ℕ)
        → filed (taped_by x t c) (room_by x t c room) file ≡ filed (taped_by x t e) (room_by x t e other) file
    unfolding filed laid taped_by room_by
    file-agree (refuse n) room other file = refl
    file-agree accept room other file =
        let r = records_of t e in
        let w = changed_blocks t.tail r in
        let size = length (changed_pieces t.tail r) * block_size in
        let first : (rest : List ℕ) → take size (w ++ rest) ≡ w = λ rest. take_at w rest size (changed-size t.tail r) in
        rw (bytes-agree (view t.desk))
        (ap (λ (s : List ℕ). laid ((t.tail.full + 1 - 1) * block_size) s file) (first (drop (length w) room) ∙ sym (first (drop (length w) other))))

turn_agree : (d : Day) (u v : TapeTurn) → AlikeCall u.call v.call → u.out ≡ v.out → length u.room ≡ length v.room
    → after_turn d u ≡ after_turn d v
unfolding after_turn taped_answer taped_room
turn_agree d u v a o r =
    let k = agree a in
    let t = d.taped in
    let x = decide_taped t v.call v.out (length v.room) in
    rw (o, r, decide-taped-agree u.call v.call k t v.out (length v.room))
    (ap₂ (λ (taped : Taped) (file : List ℕ). record { taped = taped; file = file })
    (ap (λ (y : TapedAnswer). y.taped) (answer-agree u.call v.call k t x))
    (file-agree u.call v.call k t x u.room v.room d.file))

pub alike-days : (us vs : List TapeTurn) (d : Day) → AlikeDays us vs → taped_run d us ≡ taped_run d vs
unfolding AlikeDays taped_run
alike-days [] [] d a = refl
alike-days [] (v ∷ vs) d a = absurd a
alike-days (u ∷ us) [] d a = absurd a
alike-days (u ∷ us) (v ∷ vs) d a =
    alike-days us vs (after_turn d u) a.3 ∙ ap (λ (e : Day). taped_run e vs) (turn_agree d u v a.0 a.1 a.2)
