-- How long the text of an answer is at most, by the widths of its numbers. Assumes nothing.
use mathlib.Core.List.{List, [], ◌∷◌, ◌++◌}
use Prim.Native.Nat.{ℕ, zero, suc, ◌+◌, ◌-◌, ◌*◌, ◌/◌, ◌^◌, ◌≤◌, ◌<◌}
use native.Mathlib.Omega.{arith}
use lib.ListN.{length, take, drop, length-append, length-take, length-drop}
use Rattle.std.proofs.Common.{Err, None, Ok, Option, Some}
use Rattle.basics.specs.Text.{hex_text, decimal_text}
use Rattle.basics.proofs.Text.{decimal-long, bytes-long}
use Rattle.zvt_rules.specs.declared.Refusal.{Refusal}
use Rattle.desk_rules.specs.declared.Kind.{Kind}
use Rattle.desk_rules.specs.declared.Kind.TheVariants.{Sale, Refund, Reversal}
use Rattle.desk_rules.specs.declared.Outcome.{Outcome}
use Rattle.desk_rules.specs.declared.Outcome.TheVariants.{Unclear, Declined, Approved}
use Rattle.desk_rules.specs.declared.Lane.{Lane}
use Rattle.desk_rules.specs.declared.Phase.TheVariants.{Idle, Waiting, Running}
use Rattle.desk_rules.specs.declared.Line.{Line}
use Rattle.zvt_rules.specs.declared.Status.{Status}
use Rattle.basics.specs.Lists.{part}
use Rattle.basics.specs.believed.Lists.{Bytes}
use Rattle.basics.specs.believed.Text.{ascii}
use Rattle.zvt_rules.specs.Message.{first_of}
use Rattle.zvt_rules.specs.Listing.{size_text, ids_of}
use Rattle.zvt_rules.specs.declared.Header.{Header}
use Rattle.zvt_rules.specs.declared.Outline.{Outline}
use Rattle.zvt_rules.specs.declared.Span.{Span}
use Rattle.zvt_rules.proofs.Listing.{form-long, ids-long}
use Rattle.printing.specs.Messages.{outline_text, header_by, read_by, first_by, field_by}
use Rattle.printing.specs.Answers.{refused_at, not_understood, bytes_line, ok_text, counted_text}
use Rattle.printing.specs.Desks.{kind_text, outcome_text, line_text, last_text, book_room, code_text, number_or_none, status_text, remembered}
use Rattle.printing.specs.Desks.{payment_text, phase_text, blocks_text, tape_text}

-- ---- numbers of 64, 16 and 8 bits
pub number-long : (n : ℕ) → n < 2 ^ 64 → length (decimal_text n) ≤ 20
number-long n h = decimal-long 19 n (omega arith)

pub short-long : (n : ℕ) → n < 2 ^ 16 → length (decimal_text n) ≤ 5
short-long n h = decimal-long 4 n (omega arith)

pub byte-long : (n : ℕ) → n < 2 ^ 8 → length (decimal_text n) ≤ 3
byte-long n h = decimal-long 2 n (omega arith)

-- ---- answers
pub refused-long : (n : ℕ) → n < 2 ^ 8 → length (refused_at n None) ≤ 64
refused-long n h = simp length-append (omega (arith, byte-long n h))

pub refused-at-long : (n p : ℕ) → n < 2 ^ 8 → p < 2 ^ 64 → length (refused_at n (Some p)) ≤ 64
refused-at-long n p h k = simp length-append (omega (arith, byte-long n h, number-long p k))

pub not-understood-long : (n : ℕ) → n < 2 ^ 64 → length (not_understood n) ≤ 64
unfolding not_understood
not-understood-long n h = simp length-append (omega (arith, number-long n h))

pub bytes-line-long : (v : List ℕ) → length (bytes_line v) ≤ 64 + 2 * length v
unfolding bytes_line
bytes-line-long v = simp length-append (omega (arith, bytes-long v))

pub ok-long : (n : ℕ) (lent : List ℕ) → length (ok_text (take n lent)) ≤ 64 + 2 * length lent
unfolding ok_text
ok-long n lent = go (take n lent) (omega (arith, length-take n lent))
  where
    go : (v : List ℕ) → length v ≤ length lent → length (ok_text v) ≤ 64 + 2 * length lent
    go [] h = omega arith
    go (b ∷ v) h = simp length-append (omega (arith, bytes-long (b ∷ v)))

-- ---- the book
kind-long : (k : Kind) → length (kind_text k) ≤ 8
kind-long Sale = omega arith
kind-long Refund = omega arith
kind-long Reversal = omega arith

outcome-long : (o : Outcome) → length (outcome_text o) ≤ 8
outcome-long Unclear = omega arith
outcome-long Declined = omega arith
outcome-long Approved = omega arith

pub line-long : (number : ℕ) (l : Line) → number < 100 → l.lane < 2 ^ 8 → l.asked < 2 ^ 64 → l.settled < 2 ^ 64 → l.receipt < 2 ^ 16
    → length (line_text number l) ≤ 76
unfolding line_text hex_text
line-long number l a b c d e =
    simp length-append
    (omega (
      arith,
      decimal-long 1 number a,
      byte-long l.lane b,
      kind-long l.kind,
      number-long l.asked c,
      number-long l.settled d,
      short-long l.receipt e,
      outcome-long l.outcome,
    ))

-- the lines, and the last line behind them
module _ (lines : List ℕ) (n : ℕ) (h : length lines ≤ 64 * 76) (k : n < 2 ^ 64) where
  pub book-long : length (lines ++ counted_text (ascii "end") n) ≤ book_room
  book-long = simp length-append (omega (arith, number-long n k))

  pub whole_long : length (lines ++ last_text n (Ok tt)) ≤ book_room
  whole_long = simp length-append (omega (arith, number-long n k))

pub stopped-long : (lines : List ℕ) (n : ℕ) (r : Refusal) → length lines ≤ 64 * 76 → n < 2 ^ 64 → r.number < 2 ^ 8
    → length (lines ++ last_text n (Err r)) ≤ book_room
stopped-long lines n r h k f = simp length-append (omega (arith, number-long n k, byte-long r.number f))

-- ---- the lanes
code-long : (c : Option ℕ) → length (code_text c) ≤ 2
unfolding hex_text
code-long None = omega arith
code-long (Some b) = omega arith

pub status-long : (s : Status) → length (number_or_none s.amount) ≤ 20 → length (number_or_none s.receipt) ≤ 5 → length (status_text s) ≤ 30
unfolding status_text
status-long s a b = simp length-append (omega (arith, code-long s.code))

pub payment-long : (l : Lane) → l.asked < 2 ^ 64 → l.named < 2 ^ 16 → length (payment_text l) ≤ 36
payment-long l a b = simp length-append (omega (arith, kind-long l.kind, number-long l.asked a, short-long l.named b))

module _ (i : ℕ) (l : Lane) (h : i < 8) where
  pub idle-long : length (phase_text i l Idle) ≤ 76
  idle-long = simp length-append (omega (arith, decimal-long 0 i (omega arith)))

  pub waiting-long : length (payment_text l) ≤ 36 → length (phase_text i l Waiting) ≤ 76
  waiting-long p = let q = simp length-append at p in simp length-append (omega (arith, decimal-long 0 i (omega arith)))

  pub running-long : length (payment_text l) ≤ 36 → length (status_text (remembered l.status)) ≤ 30 → length (phase_text i l Running) ≤ 76
  unfolding status_text
  running-long p s =
      let q = simp length-append at p in
      let r = simp length-append at s in
      simp length-append (omega (arith, decimal-long 0 i (omega arith)))

-- ---- a tape
block-long : (s : List ℕ) → length (bytes_line (take 512 s)) ≤ 1026
unfolding bytes_line
block-long s = simp length-append (omega (arith, bytes-long (take 512 s), length-take 512 s))

blocks-long : (n : ℕ) (s : List ℕ) → length (blocks_text n s) ≤ 1026 * n
unfolding blocks_text
blocks-long zero s = omega arith
blocks-long (suc n) s =
    omega (arith, length-append (bytes_line (take 512 s)) (blocks_text n (drop 512 s)), block-long s, blocks-long n (drop 512 s))

pub tape-long : (s : List ℕ) → length s < 2 ^ 64 → length (tape_text s) ≤ 64 + 3 * length s
unfolding tape_text
tape-long s h = simp length-append (omega (arith, blocks-long (length s / 512) s, number-long (length s / 512) (omega arith)))

-- ---- messages
pub header-long : (h : Header) → h.start < 2 ^ 64 → h.length < 2 ^ 64 → length (header_by (Ok h)) ≤ 64
unfolding header_by hex_text
header-long h a b = simp length-append (omega (arith, number-long h.start a, number-long h.length b))

pub outline-long : (m : Outline) (s : List ℕ) → Bytes s → m.length < 2 ^ 64 → m.objects < 2 ^ 8
    → length (outline_text m (ids_of (first_of s))) ≤ 35 + 3 * length s
unfolding outline_text size_text hex_text
outline-long m s bytes a b =
    simp length-append (omega (arith, ids-long s bytes, number-long m.length a, byte-long m.objects b, form-long m.shortest))

module _ (m : Outline) (s : List ℕ) (long : length (outline_text m (ids_of (first_of s))) ≤ 35 + 3 * length s) where
  pub read-long : length (read_by (ids_of (first_of s)) (Ok m)) ≤ 64 + 3 * length s
  unfolding read_by
  read-long = simp length-append (omega (arith, long))

  pub first-long : (next : ℕ) → m.start < 2 ^ 64 → next < 2 ^ 64 → length (first_by (ids_of (first_of s)) (Ok (m, next))) ≤ 128 + 3 * length s
  unfolding first_by
  first-long next c d = simp length-append (omega (arith, long, number-long m.start c, number-long next d))

pub value-long : (s : List ℕ) (p : Span) → p.from < 2 ^ 64 → length (field_by s (Ok (Some p))) ≤ 64 + 2 * length s
unfolding field_by
value-long s p h =
    let v = part p.from p.to s in
    simp length-append
    (omega (arith, number-long p.from h, bytes-long v, length-take (p.to - p.from) (drop p.from s), length-drop p.from s))
