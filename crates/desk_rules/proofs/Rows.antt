-- A call is decided as its rows of refusal say, read both ways. Assumes nothing.
use mathlib.Core.Path.{◌≡◌, refl, sym, ap, ◌∙◌, subst}
use mathlib.Core.Bool.{Bool, true, false, ◌&&◌, ◌||◌, false≢true, and-eq-true_iff}
use mathlib.Core.Logic.Iff
use mathlib.Core.Logic.{◌↔◌, ◌⊎◌, inl, inr, ⊎_elim}
use mathlib.Core.List.{List, [], ◌∷◌}
use Prim.Native.Nat.{ℕ, ◌+◌, ◌*◌, ◌≤◌, ◌<◌}
use native.Mathlib.Omega.{arith}
use lib.ListN.{length}
use lib.Dec.{ltb, leb, eqb}
use borrow.Author.Tests.{ltb-true, lt-ltb, le-ltb}
use Rattle.std.proofs.Common.{None, Option, Result, Some}
use Rattle.zvt_rules.specs.declared.Refusal.{Refusal}
use Rattle.zvt_rules.specs.declared.Status.{Status}
use Rattle.basics.specs.Choice.{pick}
use Rattle.basics.specs.Lists.{part, among}
use Rattle.zvt_rules.specs.Reading.{Reading, got, refused, fault_at, unplaced}
use Rattle.zvt_rules.specs.Message.{Heading, header_size, start, end, whole_header, Body, bytes, listed, Message, layout_of, body_of, message_of, read_of}
use Rattle.zvt_rules.proofs.Readings.{got_same, got-not-refused, then-got}
use Rattle.zvt_rules.proofs.ObjectReading.{part_length}
use Rattle.zvt_rules.proofs.FieldReading.{header-in}
use Rattle.zvt_rules.proofs.RowMessages.{whole-got}
use Rattle.basics.specs.believed.Lists.{In}
use Rattle.zvt_rules.specs.Heard.{first_byte, told_in}
use Rattle.basics.proofs.Lists.{in-none, in-first, among-exactly}
use Rattle.basics.proofs.Tests.{by-test, true-false, pick-test, pick-alike, pick_under, leb-test, eqb-test, and-test, or-test, between, no-for, never}
use Rattle.desk_rules.specs.declared.Kind.{Kind}
use Rattle.desk_rules.specs.declared.Phase.{Phase}
use Rattle.desk_rules.specs.declared.Phase.TheVariants.{Idle, Waiting, Running}
use Rattle.desk_rules.specs.declared.Lane.{Lane}
use Rattle.desk_rules.specs.declared.Line.{Line}
use Rattle.desk_rules.specs.declared.Moved.{Moved}
use Rattle.desk_rules.specs.declared.Opening.{Opening}
use Rattle.desk_rules.specs.declared.Opening.TheVariants.{Sale as sale, Refund as refund, Reversal as reversal}
use Rattle.desk_rules.specs.Numbers.{lane_count, book_lines, most_asked, most_receipt, most_password}
use Rattle.desk_rules.specs.Kinds.{booked, is_idle}
use Rattle.desk_rules.specs.Lanes.{line_taken}
use Rattle.desk_rules.specs.Openings.{kind_of, within_limits, refers_to, last_line, sold, stands, missing_no, command_size}
use Rattle.desk_rules.specs.Course.{no_move, running_pairs, pair_is, heard_waiting, completed_by, aborted_by, reported_by, moved_by, after_body, heard_running, heard_by, after_header, heard, lost_by, answered, opened_by, Call, opening, message, lost, lane_of, needs_line, moves, writes}
use Rattle.desk_rules.specs.Desk.{State, lane_at, lines_taken, load, Decision, refuse, accept, unless_refused, decide}
use Rattle.desk_rules.specs.believed.LastSale.{Named}
use Rattle.desk_rules.specs.believed.Due.{Reads}
use Rattle.desk_rules.specs.believed.Table.{Given, GivesNumber, GivesAt, Refuses, phase_at, open_in, open_payments, Within, Stands, needs, opening_rows, while_running, Allowed, hearing_rows, losing_rows, Row}
use Rattle.desk_rules.proofs.Commands.{command-size}
use Rattle.desk_rules.proofs.NamedSale.{named-is, named-there}
use Rattle.desk_rules.proofs.Heard.{completed-cases}
use Rattle.desk_rules.proofs.Calls.{every-kind, plain-read}

-- ---- rows, one by one

-- a decision is the one that rows give, and no other is
unfoldable Agrees : Decision → List (Refusal → Type 0) → Type 0
Agrees x rows = (d : Decision) → (x ≡ d) ↔ Given rows d

none_left : Agrees accept []
unfolding Agrees Given
none_left d = (λ e. sym e, λ e. sym e)

-- a row that gives one refusal is the decision
row_gives : (Gives : Refusal → Type 0) (rows : List (Refusal → Type 0)) (r : Refusal) → Gives r → ((q : Refusal) → Gives q → r ≡ q)
    → Agrees (refuse r) (Gives ∷ rows)
unfolding Agrees Given
row_gives Gives rows r g one d = (
  λ e. inl (r, g, sym e),
  ⊎_elim (λ k. ap refuse (one k.0 k.1) ∙ sym k.2) (λ k. absurd (k.0 r g)),
)

-- one that gives none leaves it to those behind
row-silent : (Gives : Refusal → Type 0) (rows : List (Refusal → Type 0)) (x : Decision) → ((r : Refusal) → Gives r → ⊥) → Agrees x rows
    → Agrees x (Gives ∷ rows)
unfolding Agrees Given
row-silent Gives rows x none a d = (
  λ e. inr (none, (a d).0 e),
  ⊎_elim (λ k. absurd (none k.0 k.1)) (λ k. (a d).1 k.1),
)

-- a row by a test: where it holds, or where it fails
row-if : {P : Type 0} {t : Bool} (r : Refusal) (rows : List (Refusal → Type 0)) (x : Decision) → ((t ≡ true) ↔ P) → ((P → ⊥) → Agrees x rows)
    → Agrees (pick t (refuse r) x) ((λ q. P × (r ≡ q)) ∷ rows)
row-if {P} {t} r rows x test a = go t refl
  where
    go : (u : Bool) → t ≡ u → Agrees (pick u (refuse r) x) ((λ q. P × (r ≡ q)) ∷ rows)
    go true e = row_gives _ rows r (test.0 e, refl) (λ q k. k.1)
    go false e = let none : P → ⊥ = λ p. true-false (test.1 p) e in row-silent _ rows x (λ q k. none k.0) (a none)

row-unless : {P Q : Type 0} {t : Bool} (r : Refusal) (rows : List (Refusal → Type 0)) (x : Decision) → ((t ≡ true) ↔ P) → ((P → ⊥) ↔ Q)
    → (P → Agrees x rows) → Agrees (pick t x (refuse r)) ((λ q. Q × (r ≡ q)) ∷ rows)
row-unless {P} {Q} {t} r rows x test not a = go t refl
  where
    go : (u : Bool) → t ≡ u → Agrees (pick u x (refuse r)) ((λ q. Q × (r ≡ q)) ∷ rows)
    go true e = let p = test.0 e in row-silent _ rows x (λ q k. not.1 k.0 p) (a p)
    go false e = row_gives _ rows r (not.0 (λ p. true-false (test.1 p) e), refl) (λ q k. k.1)

-- a row by a reading
row-reading : {A : Type 0} (x : Reading A) (rows : List (Refusal → Type 0)) (say : Reading A → Decision)
    → ((r : Refusal) → say (refused r) ≡ refuse r) → ((a : A) → x ≡ got a → Agrees (say (got a)) rows)
    → Agrees (say x) (Refuses x ∷ rows)
row-reading {A} x rows say stop on = go x refl
  where
    go : (y : Reading A) → x ≡ y → Agrees (say y) (Refuses x ∷ rows)
    go (refused r) e = rw (stop r) (row_gives (Refuses x) rows r e λ q k. cc (sym e ∙ k))
    go (got a) e = row-silent (Refuses x) rows (say (got a)) (λ r k. got-not-refused (sym e ∙ k)) (on a e)

-- ---- tests and what they say
pub idle-test : (p : Phase) → (is_idle p ≡ true) ↔ (p ≡ Idle)
idle-test Idle = (λ e. refl, λ e. refl)
idle-test Waiting = (λ e. absurd (false≢true e), λ e. cc)
idle-test Running = (λ e. absurd (false≢true e), λ e. cc)

ltb-test : (m n : ℕ) → (ltb m n ≡ true) ↔ (m < n)
ltb-test m n = (ltb-true m n, lt-ltb m n)

is-not : {P : Type 0} → (P → ⊥) ↔ (P → ⊥)
is-not = (λ n. n, λ n. n)

-- ---- opening

pub within-test : (o : Opening) → (within_limits o ≡ true) ↔ Within o
within-test (sale amount) = between amount most_asked
within-test (refund password amount) = and-test (leb-test password most_password) (between amount most_asked)
within-test (reversal password receipt) = and-test (leb-test password most_password) (between receipt most_receipt)

line-open : (p : Phase) (k : Kind) → pick (is_idle p) 0 (pick (booked k) 1 0) ≡ open_in p
line-open Idle k = refl
line-open Waiting k = rw (every-kind k)
line-open Running k = rw (every-kind k)

-- P3: "An open payment takes the place of the line that it will write."
pub lines-open : (ls : List Lane) → lines_taken ls ≡ open_payments ls
unfolding lines_taken line_taken open_payments
lines-open [] = refl
lines-open (l ∷ ls) = rw (line-open l.phase l.kind, lines-open ls)

full-test : (s : State) (o : Opening) → (booked (kind_of o) && leb book_lines (load s) ≡ true) ↔ (64 ≤ length s.lines + open_payments s.lanes)
unfolding load
full-test s o = rw (every-kind (kind_of o), lines-open s.lanes) (leb-test _ _)

room-test : (o : Opening) (room : ℕ) → (ltb room (command_size o) ≡ true) ↔ (room < needs o)
room-test (sale amount) room = ltb-test _ _
room-test (refund password amount) room = ltb-test _ _
room-test (reversal password receipt) room = ltb-test _ _

module _ (s : State) (i : ℕ) (o : Opening) (room : ℕ) where
  few : Decision
  few = pick (booked (kind_of o) && leb book_lines (load s)) (refuse (unplaced 18)) (pick (ltb room (command_size o)) (refuse (unplaced 11)) accept)

  decide-opening : decide s (opening i o) room
      ≡ pick (leb lane_count i) (refuse (unplaced 12))
      (pick (is_idle (phase_at s i))
      (pick (within_limits o) (pick (stands (refers_to o) (last_line i (refers_to o) s.lines)) few (refuse (unplaced (missing_no (refers_to o))))) (refuse (unplaced 16)))
      (refuse (unplaced 13)))
  unfolding decide moves writes needs_line lane_of opened_by few unless_refused
  decide-opening = rw command-size (simp (pick_under (λ m. unless_refused m few)))

named-test : (i receipt : ℕ) (ls : List Line) → (sold (last_line i (Some receipt) ls) ≡ true) ↔ ((line : Line) × Named i receipt ls line)
named-test i receipt ls = (λ e. (_, named-there i receipt ls e), λ k. let n = named-is i receipt ls k.0 k.1 in rw n.0 n.1)

stands-agrees : (i : ℕ) (ls : List Line) (o : Opening) (rows : List (Refusal → Type 0)) (x : Decision) → Agrees x rows
    → Agrees (pick (stands (refers_to o) (last_line i (refers_to o) ls)) x (refuse (unplaced (missing_no (refers_to o))))) (GivesNumber 17 (Stands i ls o → ⊥) ∷ rows)
stands-agrees i ls (sale amount) rows x a = row-silent _ rows x (λ n k. k.0 tt) a
stands-agrees i ls (refund password amount) rows x a = row-silent _ rows x (λ n k. k.0 tt) a
stands-agrees i ls (reversal password receipt) rows x a = row-unless (unplaced 17) rows x (named-test i receipt ls) is-not (λ _. a)

opening-agrees : (s : State) (i : ℕ) (o : Opening) (room : ℕ) → Agrees (decide s (opening i o) room) (opening_rows s i o room)
unfolding few
opening-agrees s i o room =
    rw (decide-opening s i o room)
    (row-if (unplaced 12) _ _ (leb-test 8 i) λ _.
    row-unless (unplaced 13) _ _ (idle-test (phase_at s i)) is-not λ _.
    row-unless (unplaced 16) _ _ (within-test o) is-not λ _.
    stands-agrees i s.lines o _ _
    (row-if (unplaced 18) _ _ (full-test s o) λ _. row-if (unplaced 11) _ _ (room-test o room) λ _. none_left))

-- ---- a message from the terminal

-- all of a list are in another
unfoldable all_in : List ℕ → List ℕ → Bool
all_in [] js = true
all_in (k ∷ ks) js = among js k && all_in ks js

included : (ks js : List ℕ) (x : ℕ) → all_in ks js ≡ true → In x ks → In x js
unfolding all_in
included [] js x t o = in-none o
included (k ∷ ks) js x t o =
    let h = (and-eq-true_iff (among js k) (all_in ks js)).0 t in
    ⊎_elim (λ e. rw e ((among-exactly js k).0 h.0)) (included ks js x h.1) (in-first o)

-- the six pairs, in whatever order
pub pairs-test : (pair : ℕ) → (among running_pairs pair ≡ true) ↔ In pair while_running
unfolding all_in among
pairs-test pair = Iff.trans (among-exactly running_pairs pair) (included running_pairs while_running pair refl, included while_running running_pairs pair refl)

-- the tests of a pair in a phase that is not idle
unfoldable allowed_by : Phase → Heading → Bool
allowed_by Idle h = false
allowed_by Waiting h = eqb h.size 0 && (pair_is h.class h.instruction 0x80 0x00 || eqb h.class 0x84)
allowed_by Running h = among running_pairs (h.class * 256 + h.instruction)

allowed-test : (p : Phase) (h : Heading) → (allowed_by p h ≡ true) ↔ Allowed p h
unfolding allowed_by
allowed-test Idle h = (λ e. false≢true e, λ e. absurd e)
allowed-test Waiting h =
    and-test (eqb-test h.size 0) (or-test (and-test (eqb-test h.class 0x80) (eqb-test h.instruction 0x00)) (eqb-test h.class 0x84))
allowed-test Running h = pairs-test _

waiting-says : (l : Lane) (h : Heading) (x : Decision) → unless_refused (heard_waiting l h) x ≡ pick (allowed_by Waiting h) x (refuse (unplaced 15))
unfolding unless_refused heard_waiting allowed_by
waiting-says l h x = simp (pick_under (λ m. unless_refused m x)) (go (eqb h.size 0) (pair_is h.class h.instruction 0x80 0x00) (eqb h.class 0x84))
  where
    go : (a b c : Bool) → pick a (pick b x (pick c x (refuse (unplaced 15)))) (refuse (unplaced 15)) ≡ pick (a && (b || c)) x (refuse (unplaced 15))
    go true true c = refl
    go true false c = refl
    go false b c = refl

-- a move that is not refused
Goes : Result Moved Refusal → Type 0
Goes m = (x : Decision) → unless_refused m x ≡ x

completed-goes : (l : Lane) (code : Option ℕ) → Goes (completed_by l code)
unfolding Goes unless_refused
completed-goes l code = completed-cases Goes l (λ c x. refl) (λ a e x. refl) code

reported-goes : (l : Lane) (status : Status) (code : Option ℕ) → Goes (reported_by l status code)
unfolding Goes unless_refused reported_by
reported-goes l status None x = refl
reported-goes l status (Some c) x = refl

-- a body of 06 1E is plain bytes
plain-body : (at : ℕ) (w : List ℕ) (c i : ℕ) (b : Body) → body_of at w (layout_of c i) ≡ got b → c ≡ 0x06 → i ≡ 0x1E → bytes w ≡ b
unfolding body_of layout_of among
plain-body at w c i b e p q = got_same (rw (p, q) at e)

abort-plain : (b : List ℕ) (m : Message) → read_of b ≡ got m → m.class ≡ 0x06 → m.instruction ≡ 0x1E → (t : List ℕ) × (m.body ≡ bytes t)
unfolding read_of message_of
abort-plain b m e =
    let k = then-got (whole_header b) _ m e in
    let j = then-got (body_of _ _ (layout_of k.0.class k.0.instruction)) _ m k.2 in
    let P : Message → Type 0 = λ m. m.class ≡ 0x06 → m.instruction ≡ 0x1E → (t : List ℕ) × (m.body ≡ bytes t) in
    subst P (got_same j.2) (λ c i. (_, sym (plain-body _ _ k.0.class k.0.instruction j.0 j.1 c i)))

-- where it is empty the message ends where its body starts
abort-end : (b : List ℕ) (m : Message) → read_of b ≡ got m → m.class ≡ 0x06 → m.instruction ≡ 0x1E → m.body ≡ bytes []
    → header_size m.long ≡ length b
unfolding read_of message_of
abort-end b m e =
    let k = then-got (whole_header b) _ m e in
    let h = k.0 in
    let j = then-got (body_of (start h) (part (start h) (end h) b) (layout_of h.class h.instruction)) _ m k.2 in
    let w = whole-got b h k.1 in
    let size = part_length b (start h) (end h) (omega arith) (header-in b h w.0).1 in
    let P : Message → Type 0 = λ m. m.class ≡ 0x06 → m.instruction ≡ 0x1E → m.body ≡ bytes [] → header_size m.long ≡ length b in
    subst P (got_same j.2) λ c i f.
    let none : part (start h) (end h) b ≡ [] = cc (plain-body _ _ h.class h.instruction j.0 j.1 c i ∙ f) in
    omega (arith, ap length none, w.1, (header-in b h w.0).1)

unfoldable is_empty : Body → Bool
is_empty (bytes []) = true
is_empty (bytes (b ∷ s)) = false
is_empty (listed password fs) = false

empty-test : (b : Body) → (is_empty b ≡ true) ↔ (b ≡ bytes [])
unfolding is_empty
empty-test (bytes []) = (λ e. refl, λ e. refl)
empty-test (bytes (b ∷ s)) = (λ e. absurd (false≢true e), λ e. cc)
empty-test (listed password fs) = (λ e. absurd (false≢true e), λ e. cc)

abbrev empty_abort : Message → Bool
empty_abort m = pair_is m.class m.instruction 0x06 0x1E && is_empty m.body

pair-test : (class instruction c i : ℕ) → (pair_is class instruction c i ≡ true) ↔ ((class ≡ c) × (instruction ≡ i))
pair-test class instruction c i = and-test (eqb-test class c) (eqb-test instruction i)

abort-test : (m : Message) → (empty_abort m ≡ true) ↔ (((m.class ≡ 0x06) × (m.instruction ≡ 0x1E)) × (m.body ≡ bytes []))
abort-test m = and-test (pair-test m.class m.instruction 0x06 0x1E) (empty-test m.body)

aborted-says : (at : ℕ) (x : Decision) (y : Body) (t : List ℕ) → y ≡ bytes t
    → unless_refused (aborted_by at (first_byte y)) x ≡ pick (is_empty y) (refuse (fault_at 1 at)) x
unfolding unless_refused aborted_by first_byte is_empty
aborted-says at x y [] e = rw e
aborted-says at x y (b ∷ t) e = rw e

moved-says : (b : List ℕ) (l : Lane) (m : Message) (x : Decision) → read_of b ≡ got m
    → unless_refused (moved_by l m.class m.instruction (header_size m.long) (told_in m)) x ≡ pick (empty_abort m) (refuse (fault_at 1 (length b))) x
unfolding unless_refused moved_by Goes told_in
moved-says b l m x e =
    let P : Result Moved Refusal → Type 0 = λ y. unless_refused y x ≡ pick (empty_abort m) (refuse (fault_at 1 (length b))) x in
    let class = m.class in
    let instruction = m.instruction in
    pick-test P (pair_is class instruction 0x06 0x0F)
    (λ q.
    let k = (pair-test class instruction 0x06 0x0F).0 q in
    let other : empty_abort m ≡ false = no-for (abort-test m) (λ a. omega (arith, k.1, a.0.1)) in
    completed-goes l l.status.code x ∙ rw other)
    (λ q.
    pick-test P (pair_is class instruction 0x06 0x1E)
    (λ a.
    let k = (pair-test class instruction 0x06 0x1E).0 a in
    let t = abort-plain b m e k.0 k.1 in
    let end : (is_empty m.body ≡ true) → header_size m.long ≡ length b = λ n. abort-end b m e k.0 k.1 ((empty-test m.body).0 n) in
    aborted-says _ x m.body t.0 t.1
    ∙ rw a (pick-alike (is_empty m.body) (λ n. ap (λ (p : ℕ). refuse (fault_at 1 p)) (end n)) (λ _. refl)))
    (λ a. pick-test P (pair_is class instruction 0x04 0x0F) (λ r. reported-goes l _ _ x ∙ rw a) (λ r. rw a)))

-- bytes that are read as m are an abort without a code, by what m is
abort-reads : (b : List ℕ) (m : Message) → read_of b ≡ got m → (empty_abort m ≡ true) ↔ Reads b 0x06 0x1E (bytes [])
abort-reads b m r = (
  λ t. let k = (abort-test m).0 t in record { long = m.long; whole = r ∙ rw (k.0.0, k.0.1, k.1) },
  λ k.
      let e = got_same (sym r ∙ k.whole) in
      (abort-test m).1 ((ap (λ (x : Message). x.class) e, ap (λ (x : Message). x.instruction) e), ap (λ (x : Message). x.body) e),
)

-- what is decided where the lane does not refuse
replied : Phase → ℕ → Decision
replied p room = pick (ltb room (length (answered p))) (refuse (unplaced 11)) accept

module _ (p : Phase) (l : Lane) (b : List ℕ) (room : ℕ) where
  -- the rows behind the header's
  body_rows : List (Refusal → Type 0)
  body_rows = Refuses (read_of b) ∷ GivesAt 1 (length b) (Reads b 0x06 0x1E (bytes [])) ∷ GivesNumber 11 ((p ≡ Running) × (room < 3)) ∷ []

  further : Phase → Decision
  further Idle = accept
  further Waiting = accept
  further Running = unless_refused (after_body l (read_of b)) (replied Running room)

  -- what is made of a header, by the phase
  hears : Phase → Heading → Result Moved Refusal
  hears Idle h = no_move 14
  hears Waiting h = heard_waiting l h
  hears Running h = heard_running l b h

  allowed-says : (h : Heading) → (p ≡ Idle → ⊥) → unless_refused (hears p h) (replied p room) ≡ pick (allowed_by p h) (further p) (refuse (unplaced 15))
  unfolding unless_refused hears heard_running allowed_by replied answered further
  allowed-says h n = go p n
    where
      go : (q : Phase) → (q ≡ Idle → ⊥) → unless_refused (hears q h) (replied q room) ≡ pick (allowed_by q h) (further q) (refuse (unplaced 15))
      go Idle n = absurd (n refl)
      go Waiting n = waiting-says l h _ ∙ rw (le-ltb room 0 (omega arith))
      go Running n = pick_under (λ m. unless_refused m (replied Running room)) (allowed_by Running h) _ _

  running-agrees : p ≡ Running → Agrees (further Running) body_rows
  unfolding further body_rows after_body unless_refused replied answered
  running-agrees e =
      row-reading (read_of b) _ (λ r. unless_refused (after_body l r) (replied Running room)) (λ f. refl) λ m r.
      rw (moved-says b l m (replied Running room) r)
      (row-if (fault_at 1 (length b)) _ _ (abort-reads b m r) λ _. row-if (unplaced 11) _ _ (λ t. (e, (ltb-test room 3).0 t), λ k. (ltb-test room 3).1 k.1) λ _. none_left)

  -- what a waiting lane allows is read: its body is plain
  waiting-agrees : (h : Heading) → p ≡ Waiting → whole_header b ≡ got h → Allowed Waiting h → Agrees accept body_rows
  unfolding body_rows
  waiting-agrees h e w a =
      let r = plain-read b h w (either a.1) in
      row-silent _ _ _ (λ n k. got-not-refused (sym r ∙ k))
      (row-silent _ _ _ (λ n k. not-6 (either a.1) (ap (λ (x : Message). x.class) (got_same (sym r ∙ k.0.whole))))
      (row-silent _ _ _ (λ n k. waiting-runs (sym e ∙ k.0.0)) none_left))
    where
      either : ((h.class ≡ 0x80) × (h.instruction ≡ 0x00)) ⊎ (h.class ≡ 0x84) → 0x80 ≤ h.class
      either (inl k) = omega (arith, k.0)
      either (inr k) = omega arith

      not-6 : 0x80 ≤ h.class → h.class ≡ 0x06 → ⊥
      not-6 l e = omega arith

      waiting-runs : Waiting ≡ Running → ⊥
      waiting-runs e = never cc

  allowed-agrees : (h : Heading) → whole_header b ≡ got h → (q : Phase) → p ≡ q → Allowed q h → Agrees (further q) body_rows
  unfolding further
  allowed-agrees h w Idle e a = absurd a
  allowed-agrees h w Waiting e a = waiting-agrees h e w a
  allowed-agrees h w Running e a = running-agrees e

  header-agrees : (h : Heading) → (p ≡ Idle → ⊥) → whole_header b ≡ got h
      → Agrees (unless_refused (hears p h) (replied p room)) (GivesNumber 15 ((h : Heading) × (whole_header b ≡ got h) × (Allowed p h → ⊥)) ∷ body_rows)
  header-agrees h n w =
      rw (allowed-says h n)
      (row-unless (unplaced 15) body_rows _ (allowed-test p h)
      (λ k. (h, w, k), λ k a. k.2 (subst (Allowed p) (got_same (sym w ∙ k.1)) a))
      (allowed-agrees h w p refl))

phase-first : (l : Lane) (b : List ℕ) (room : ℕ) (p : Phase)
    → heard_by p l b ≡ pick (is_idle p) (no_move 14) (after_header (hears p l b room p) (whole_header b))
unfolding heard_by hears
phase-first l b room Idle = refl
phase-first l b room Waiting = refl
phase-first l b room Running = refl

hearing-agrees : (s : State) (i : ℕ) (b : List ℕ) (room : ℕ) → Agrees (decide s (message i b) room) (hearing_rows s i b room)
unfolding decide moves writes needs_line lane_of heard unless_refused after_header replied body_rows
hearing-agrees s i b room =
    let l = lane_at s.lanes i in
    row-if (unplaced 12) _ _ (leb-test 8 i) λ _.
    rw (phase-first l b room l.phase, pick_under (λ m. unless_refused m (replied l.phase room)) (is_idle l.phase))
    (row-if (unplaced 14) _ _ (idle-test l.phase) λ n.
    row-reading (whole_header b) _ (λ r. unless_refused (after_header (hears l.phase l b room l.phase) r) (replied l.phase room)) (λ f. refl) λ h w.
    header-agrees l.phase l b room h n w)

-- ---- a lost link
losing-agrees : (s : State) (i room : ℕ) → Agrees (decide s (lost i) room) (losing_rows s i)
unfolding decide moves writes needs_line lane_of lost_by unless_refused
losing-agrees s i room =
    let p = (lane_at s.lanes i).phase in
    row-if (unplaced 12) _ _ (leb-test 8 i) λ _.
    rw (pick_under (λ m. unless_refused m (pick (ltb room 0) (refuse (unplaced 11)) accept)) (is_idle p), le-ltb room 0 (omega arith))
    (row-if (unplaced 14) _ _ (idle-test p) λ _. none_left)

-- ---- R30: "one is given exactly where its row holds and none before it there does"
pub table : (s : State) (c : Call) (room : ℕ) (d : Decision) → (decide s c room ≡ d) ↔ Row s c room d
unfolding Agrees
table s (opening i o) room = opening-agrees s i o room
table s (message i b) room = hearing-agrees s i b room
table s (lost i) room = losing-agrees s i room

-- no two of its rows give a call an answer
pub one-row : (s : State) (c : Call) (room : ℕ) (d e : Decision) → Row s c room d → Row s c room e → d ≡ e
one-row s c room d e h k = sym ((table s c room d).1 h) ∙ (table s c room e).1 k

-- ---- what is accepted

pub past : (Gives : Refusal → Type 0) (rows : List (Refusal → Type 0)) → Given (Gives ∷ rows) accept
    → ((r : Refusal) → Gives r → ⊥) × Given rows accept
unfolding Given
past Gives rows = ⊎_elim (λ k. never (cc k.2)) (λ k. k)

was-got : {A : Type 0} (x : Reading A) → ((r : Refusal) → Refuses x r → ⊥) → (a : A) × (x ≡ got a)
was-got (got a) h = (a, refl)
was-got (refused r) h = absurd (h r refl)

-- an opening has its numbers within their limits
pub accepted-within : (s : State) (i : ℕ) (o : Opening) (room : ℕ) → decide s (opening i o) room ≡ accept → within_limits o ≡ true
accepted-within s i o room e =
    let row = (past _ _ (past _ _ (past _ _ ((table s (opening i o) room accept).0 e)).1).1).0 in
    by-test (within_limits o) (λ t. t) (λ f. absurd (row (unplaced 16) ((λ w. true-false ((within-test o).1 w) f), refl)))

-- an accepted message has a header and reads as a message
pub accepted-reads : (s : State) (i : ℕ) (b : List ℕ) (room : ℕ) → decide s (message i b) room ≡ accept
    → ((h : Heading) × (whole_header b ≡ got h)) × ((m : Message) × (read_of b ≡ got m))
accepted-reads s i b room e =
    let header = past _ _ (past _ _ (past _ _ ((table s (message i b) room accept).0 e)).1).1 in
    (was-got (whole_header b) header.0, was-got (read_of b) (past _ _ (past _ _ header.1).1).0)
