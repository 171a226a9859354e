-- What opening writes is a message, and reads back as what was asked. Assumes nothing.
use mathlib.Core.Path.{◌≡◌, refl, sym, ◌∙◌}
use mathlib.Core.Bool.{true, and-eq-true_iff}
use mathlib.Core.Logic.{◌↔◌}
use mathlib.Core.List.{List, [], ◌∷◌, ◌++◌, append-nil}
use Prim.Native.Nat.{ℕ, zero, suc, ◌/◌, ◌%◌, ◌≤◌}
use native.Mathlib.Omega.{arith}
use lib.ListN.{length}
use lib.Dec.{ltb}
use borrow.Author.Tests.{leb-true, ltb-true, lt-ltb}
use Rattle.zvt_rules.specs.declared.Format.TheVariants.{Fixed}
use Rattle.basics.specs.Lists.{among}
use Rattle.zvt_rules.specs.Reading.{got}
use Rattle.zvt_rules.specs.Fields.{plain, decimal, format_of, field_id, count_field, count_fields}
use Rattle.zvt_rules.specs.Message.{Message, layout_of, read_of}
use Rattle.zvt_rules.specs.believed.Writing.{field_bytes, length_in, list_bytes, body_bytes, length_bytes, message_bytes}
use Rattle.basics.specs.believed.Lists.{Bytes}
use Rattle.zvt_rules.specs.believed.Grammar.{Decimals, SizeOk, FieldOk, ListOk, FieldsOk, LayoutOk, LengthOk, MessageOk}
use Rattle.zvt_rules.specs.Digits.{digit_bytes_of, decimal_from, number_of}
use Rattle.zvt_rules.proofs.DigitLaws.{digits-size, digits_decimal, number_same}
use Rattle.zvt_rules.proofs.MessageBytes.{read-sound, read-complete}
use Rattle.basics.proofs.Tests.{leb-test, and-test, between}
use Rattle.desk_rules.specs.declared.Opening.{Opening}
use Rattle.desk_rules.specs.declared.Opening.TheVariants.{Sale as sale, Refund as refund, Reversal as reversal}
use Rattle.desk_rules.specs.declared.Phase.{Phase}
use Rattle.desk_rules.specs.declared.Phase.TheVariants.{Idle, Waiting, Running}
use Rattle.desk_rules.specs.declared.Lane.{Lane}
use Rattle.desk_rules.specs.Numbers.{amount_ok, receipt_ok, password_ok, most_asked, most_receipt, most_password}
use Rattle.desk_rules.specs.Openings.{within_limits, money, command_of, command_bytes, command_size, most_command}
use Rattle.desk_rules.specs.Course.{Call, opening, message, lost, answered, writes}
use Rattle.desk_rules.specs.believed.Table.{Commands}

-- ---- the bytes

-- a row for each kind
unfoldable pub spelled : Opening → List ℕ
spelled (sale amount) = 0x06 ∷ (0x01 ∷ (0x0A ∷ (0x04 ∷ (digit_bytes_of 6 amount ++ (0x49 ∷ (0x09 ∷ (0x78 ∷ [])))))))
spelled (refund password amount) =
    0x06 ∷ (0x31 ∷ (0x0D ∷ (digit_bytes_of 3 password ++ (0x04 ∷ (digit_bytes_of 6 amount ++ (0x49 ∷ (0x09 ∷ (0x78 ∷ []))))))))
spelled (reversal password receipt) = 0x06 ∷ (0x30 ∷ (0x06 ∷ (digit_bytes_of 3 password ++ (0x87 ∷ digit_bytes_of 2 receipt))))

pub command-bytes : (o : Opening) → command_bytes o ≡ spelled o
unfolding spelled command_bytes command_of message_bytes body_bytes list_bytes field_bytes length_in format_of among length_bytes digit_bytes_of
command-bytes (sale amount) = refl
command-bytes (refund password amount) = refl
command-bytes (reversal password receipt) = refl

pub command-size : (o : Opening) → length (command_bytes o) ≡ command_size o
unfolding spelled digit_bytes_of
command-size (sale amount) = rw (command-bytes (sale amount))
command-size (refund password amount) = rw (command-bytes (refund password amount))
command-size (reversal password receipt) = rw (command-bytes (reversal password receipt))

pub size-most : (o : Opening) → command_size o ≤ most_command
size-most (sale amount) = omega arith
size-most (refund password amount) = omega arith
size-most (reversal password receipt) = omega arith

answered-short : (p : Phase) → length (answered p) ≤ most_command
unfolding answered
answered-short Idle = omega arith
answered-short Waiting = omega arith
answered-short Running = omega arith

-- no call writes more than the longest command
pub writes_short : (l : Lane) (c : Call) → length (writes l c) ≤ most_command
unfolding writes
writes_short l (opening i o) = omega (arith, command-size o, size-most o)
writes_short l (message i s) = answered-short l.phase
writes_short l (lost i) = omega arith

decimal-halves : (b : ℕ) → decimal b ≡ true → (b / 16 ≤ 9) × (b % 16 ≤ 9)
decimal-halves b = (and-test (leb-test (b / 16) 9) (leb-test (b % 16) 9)).0

-- ---- a message of the grammar
digits-ok : (id k n : ℕ) → format_of id ≡ Fixed k → FieldOk (plain id (digit_bytes_of k n))
unfolding FieldOk SizeOk
digits-ok id k n e = (rw e (digits-size k n), λ h. digits_decimal k n)

money-ok : (amount : ℕ) → FieldsOk (money amount)
unfolding FieldsOk ListOk FieldOk SizeOk Decimals format_of among field_id count_fields count_field
money-ok amount = ((digits-ok 0x04 6 amount refl, refl, ((refl, λ h. (refl, (refl, tt))), refl, tt)), omega arith)

receipt-ok : (receipt : ℕ) → FieldsOk (plain 0x87 (digit_bytes_of 2 receipt) ∷ [])
unfolding FieldsOk ListOk format_of among field_id count_fields count_field
receipt-ok receipt = ((digits-ok 0x87 2 receipt refl, refl, tt), omega arith)

pub command-ok : (o : Opening) → MessageOk (command_of o)
unfolding command_of MessageOk LayoutOk LengthOk layout_of among body_bytes list_bytes field_bytes length_in format_of digit_bytes_of
command-ok (sale amount) = ((refl, money-ok amount), omega arith)
command-ok (refund password amount) = ((digits-size 3 password, digits_decimal 3 password, money-ok amount), omega arith)
command-ok (reversal password receipt) = ((digits-size 3 password, digits_decimal 3 password, receipt-ok receipt), omega arith)

-- ---- read back
pub command-reads : (o : Opening) → read_of (command_bytes o) ≡ got (command_of o)
unfolding command_bytes
command-reads o = read-complete (command_of o) (command-ok o)

-- with the numbers that were given
password-same : (password : ℕ) → password_ok password ≡ true → number_of (digit_bytes_of 3 password) ≡ password
password-same password h = number_same 3 password (omega (arith, leb-true password most_password h))

pub amount-same : (amount : ℕ) → amount_ok amount ≡ true → number_of (digit_bytes_of 6 amount) ≡ amount
amount-same amount h = number_same 6 amount (omega (arith, (between amount most_asked).0 h))

pub receipt-same : (receipt : ℕ) → receipt_ok receipt ≡ true → number_of (digit_bytes_of 2 receipt) ≡ receipt
receipt-same receipt h = number_same 2 receipt (omega (arith, (between receipt most_receipt).0 h))

command-says : (o : Opening) → within_limits o ≡ true → Commands o (command_of o)
unfolding command_of
command-says (sale amount) h = (digit_bytes_of 6 amount, amount-same amount h, refl)
command-says (refund password amount) h =
    let w = (and-eq-true_iff (password_ok password) (amount_ok amount)).0 h in
    (digit_bytes_of 3 password, digit_bytes_of 6 amount, password-same password w.0, amount-same amount w.1, refl)
command-says (reversal password receipt) h =
    let w = (and-eq-true_iff (password_ok password) (receipt_ok receipt)).0 h in
    (digit_bytes_of 3 password, digit_bytes_of 2 receipt, password-same password w.0, receipt-same receipt w.1, refl)

-- what an opening writes reads back as that opening's command
pub opening-reads-back : (o : Opening) → within_limits o ≡ true → (m : Message) × (read_of (command_bytes o) ≡ got m) × Commands o m
opening-reads-back o h = (command_of o, command-reads o, command-says o h)

-- ---- no other bytes do

-- as many digits are known by their number
digits-one : (v w : List ℕ) (a b : ℕ) → length v ≡ length w → Decimals v → Decimals w → decimal_from a v ≡ decimal_from b w → (a ≡ b) × (v ≡ w)
unfolding decimal_from Decimals
digits-one [] [] a b l p q e = (e, refl)
digits-one [] (y ∷ w) a b l p q e = absurd (omega arith)
digits-one (x ∷ v) [] a b l p q e = absurd (omega arith)
digits-one (x ∷ v) (y ∷ w) a b l p q e =
    let k = digits-one v w _ _ (omega arith) p.1 q.1 e in
    let d = decimal-halves x p.0 in
    let f = decimal-halves y q.0 in
    let same : x ≡ y = omega (arith, k.0) in
    (omega (arith, k.0), rw (same, k.1))

digits_are : (k n : ℕ) (v : List ℕ) → number_of (digit_bytes_of k n) ≡ n → length v ≡ k → Decimals v → number_of v ≡ n → v ≡ digit_bytes_of k n
unfolding number_of
digits_are k n v h l d e = (digits-one v (digit_bytes_of k n) 0 0 (l ∙ sym (digits-size k n)) d (digits_decimal k n) (e ∙ sym h)).1

command-one : (o : Opening) (m : Message) → within_limits o ≡ true → MessageOk m → Commands o m → m ≡ command_of o
unfolding command_of MessageOk LayoutOk layout_of among FieldsOk ListOk FieldOk SizeOk format_of
command-one (sale amount) m h ok (a, n, e) =
    let f = (rw e at ok).0.1.0.0 in
    e ∙ rw (digits_are 6 amount a (amount-same amount h) f.0 (f.1 refl) n)
command-one (refund password amount) m h ok (w, a, k, n, e) =
    let l = (and-eq-true_iff (password_ok password) (amount_ok amount)).0 h in
    let f = (rw e at ok).0 in
    let g = f.2.0.0 in
    e ∙ rw (digits_are 3 password w (password-same password l.0) f.0 f.1 k, digits_are 6 amount a (amount-same amount l.1) g.0 (g.1 refl) n)
command-one (reversal password receipt) m h ok (w, r, k, n, e) =
    let l = (and-eq-true_iff (password_ok password) (receipt_ok receipt)).0 h in
    let f = (rw e at ok).0 in
    let g = f.2.0.0 in
    e ∙ rw (digits_are 3 password w (password-same password l.0) f.0 f.1 k, digits_are 2 receipt r (receipt-same receipt l.1) g.0 (g.1 refl) n)

-- ---- a command is of bytes
no_bytes : Bytes []
unfolding Bytes
no_bytes i = omega arith

bytes-more : (b : ℕ) (s : List ℕ) → ltb b 256 ≡ true → Bytes s → Bytes (b ∷ s)
unfolding Bytes
bytes-more b s l h zero = ltb-true b 256 l
bytes-more b s l h (suc i) = h i

digits-bytes : (v s : List ℕ) → Decimals v → Bytes s → Bytes (v ++ s)
unfolding Decimals
digits-bytes [] s d h = h
digits-bytes (b ∷ v) s d h = let k = decimal-halves b d.0 in bytes-more b _ (lt-ltb b 256 (omega arith)) (digits-bytes v s d.1 h)

command-is-bytes : (o : Opening) → Bytes (command_bytes o)
unfolding spelled
command-is-bytes o = rw command-bytes (go o)
  where
    then : (k n : ℕ) (s : List ℕ) → Bytes s → Bytes (digit_bytes_of k n ++ s)
    then k n s h = digits-bytes (digit_bytes_of k n) s (digits_decimal k n) h

    last : (k n : ℕ) → Bytes (digit_bytes_of k n)
    last k n = rw append-nil at (then k n [] no_bytes)

    go : (o : Opening) → Bytes (spelled o)
    go (sale amount) = search (bytes-more, then, no_bytes) depth 12
    go (refund password amount) = search (bytes-more, then, no_bytes) depth 12
    go (reversal password receipt) = search (bytes-more, then, last) depth 12

-- an opening writes the bytes that read as its command, and no others
pub command-exactly : (o : Opening) (w : List ℕ) → within_limits o ≡ true
    → (w ≡ command_bytes o) ↔ (Bytes w × ((m : Message) × (read_of w ≡ got m) × Commands o m))
unfolding command_bytes
command-exactly o w h = (
  λ e. rw e (command-is-bytes o, opening-reads-back o h),
  λ (b, (m, r, c)). let k = read-sound w m b r in sym k.0 ∙ rw (command-one o m h k.1 c),
)
