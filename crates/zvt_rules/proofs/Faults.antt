-- A refusal of a body names a wrong byte of the message or, for 1, a place in it or directly behind it; one of a header names none.
-- Assumes nothing.
use mathlib.Core.Path.{◌≡◌, refl, subst}
use mathlib.Core.List.{List, [], ◌∷◌, ◌++◌, append_assoc, append-nil}
use Prim.Native.Nat.{ℕ, ◌+◌, ◌<◌, ◌≤◌}
use native.Mathlib.Omega.{arith}
use lib.ListN.{length, get_or, length-append, get_or-append}
use lib.Seq.{get_or-append_seam, get_or-append-add}
use Rattle.std.proofs.Common.{None}
use Rattle.zvt_rules.specs.declared.Refusal.{Refusal}
use Rattle.zvt_rules.specs.declared.Layout.{Layout}
use Rattle.zvt_rules.specs.declared.Layout.TheVariants.{Plain, List as FieldList, Secured}
use Rattle.zvt_rules.specs.Reading.{fault_at}
use Rattle.zvt_rules.specs.Fields.{format_of}
use Rattle.zvt_rules.specs.Message.{layout_of}
use Rattle.zvt_rules.specs.believed.Writing.{len_bytes, sized, obj_bytes, length_in, field_bytes, length_bytes}
use Rattle.zvt_rules.specs.believed.Rows.{SizedNo, RunNo, ListNo, SecuredNo, BodyNo, HeaderNo, WholeNo, FramedNo, framed, short, wrong, too_many, too_deep, tag_short, tag_wrong, sized_in, inside, behind, no_field, twice, no_digit, undecimal, too_long, header, left_over}
use Rattle.zvt_rules.specs.believed.Faults as fault
use Rattle.zvt_rules.specs.believed.Faults.{WrongByte, Names}
use Rattle.zvt_rules.proofs.RowReadings.{placed}

-- ---- the place lies in bytes that begin at a place of the message, or directly behind them
data Within (at : ℕ) (s : List ℕ) : Refusal → Type 0 where
  byte : {n : ℕ} (i : ℕ) → i < length s → WrongByte (get_or s i 0) n → Within at s (fault_at n (at + i))
  edge : (i : ℕ) → i ≤ length s → Within at s (fault_at 1 (at + i))

-- at their first byte, at one behind others, and at their end
first : {at n : ℕ} {s : List ℕ} → 0 < length s → WrongByte (get_or s 0 0) n → Within at s (fault_at n at)
first {at} {n} {s} l w = let z : at + 0 ≡ at = omega arith in placed (Within at s) n z (byte 0 l w)

later : {at n : ℕ} (front : List ℕ) (b : ℕ) (s : List ℕ) → WrongByte b n → Within at (front ++ (b ∷ s)) (fault_at n (at + length front))
later {n = n} front b s w = byte {n = n} (length front) (omega (arith, length-append front (b ∷ s))) (rw (get_or-append_seam front b s 0) w)

ends : {at : ℕ} (s : List ℕ) → Within at s (fault_at 1 (at + length s))
ends s = edge (length s) (omega arith)

-- also where other bytes stand before them, or behind
after : {at : ℕ} {s : List ℕ} (front : List ℕ) {r : Refusal} → Within (at + length front) s r → Within at (front ++ s) r
after {at} {s} front (byte {n = n} i l w) =
    let z : at + (length front + i) ≡ at + length front + i = omega arith in
    placed (Within at (front ++ s)) n z (byte (length front + i) (omega (arith, length-append front s)) (rw (get_or-append-add front s i 0) w))
after {at} {s} front (edge i l) =
    let z : at + (length front + i) ≡ at + length front + i = omega arith in
    placed (Within at (front ++ s)) 1 z (edge (length front + i) (omega (arith, length-append front s)))

before : {at : ℕ} {s : List ℕ} {r : Refusal} (back : List ℕ) → Within at s r → Within at (s ++ back) r
before {s = s} back (byte {n = n} i l w) = byte {n = n} i (omega (arith, length-append s back)) (rw (get_or-append s back 0 i l) w)
before {s = s} back (edge i l) = edge i (omega (arith, length-append s back))

-- ---- row by row
sized-within : {at : ℕ} {s : List ℕ} {r : Refusal} → SizedNo at s r → Within at s r
sized-within {s = s} (short form value ok c) = ends s
sized-within (wrong e) = first (omega arith) (fault.no_length e)

run-within : {left n at : ℕ} {s : List ℕ} {r : Refusal} → RunNo left n at s r → Within at s r
unfolding sized
run-within (too_many l h) = first l fault.too_many
run-within (too_deep l h z) = first l fault.too_deep
run-within {s = s} (tag_short tag run room l ok c) = ends s
run-within (tag_wrong {b = b} {c = c} {s = s} room e f) = later (b ∷ []) c s (fault.top_bit f)
run-within (sized_in tag run room ok h) = after tag (sized-within h)
run-within (inside tag form value s room ok fits h) =
    let lead = len_bytes form (length value) in
    before s (rw (append_assoc tag lead value) at (after (tag ++ lead) (run-within h)))
run-within (behind o ok few h) = after (obj_bytes o) (run-within h)

list-within : {seen : List ℕ} {n at : ℕ} {s : List ℕ} {r : Refusal} → ListNo seen n at s r → Within at s r
unfolding sized field_bytes
list-within (no_field e) = first (omega arith) (fault.no_field e)
list-within (twice known e) = first (omega arith) (fault.twice known)
list-within {s = s} (short value new ok c) = ends s
list-within (no_digit {id = id} front v b s new e l h f) = later (id ∷ front) b s (fault.no_digit f)
list-within {at = at} (undecimal id front b back s new ok e ds f) =
    let lead = length_in (format_of id) (length (front ++ (b ∷ back))) in
    before s (rw (append_assoc lead front (b ∷ back)) at (later {at = at} (id ∷ (lead ++ front)) b back (fault.undecimal f)))
list-within (sized_in new h) = after (0x06 ∷ []) (sized-within h)
list-within {at = at} {r = r} (inside form value s new fits h) =
    let lead = len_bytes form (length value) in
    let z : at + 1 + length lead ≡ at + length (0x06 ∷ lead) = omega arith in
    before s (after (0x06 ∷ lead) (subst (λ (p : ℕ). Within p value r) z (run-within h)))
list-within (behind f ok new few h) = after (field_bytes f) (list-within h)

secured-within : {at : ℕ} {s : List ℕ} {r : Refusal} → SecuredNo at s r → Within at s r
secured-within {s = s} (short l) = ends s
secured-within (undecimal front b back s size ds f) = before s (later front b back (fault.undecimal f))
secured-within (behind password size ds h) = after password (list-within h)

body-within : {at : ℕ} {s : List ℕ} {r : Refusal} (l : Layout) → BodyNo l at s r → Within at s r
unfolding BodyNo
body-within Plain h = absurd h
body-within FieldList h = list-within h
body-within Secured h = secured-within h

-- ---- a message: its body's refusal names such a place, its header's none
names : {s : List ℕ} {r : Refusal} → Within 0 s r → Names s r
names {s} (byte {n = n} i l w) = let z : i ≡ 0 + i = omega arith in placed (Names s) n z (fault.byte l w)
names {s} (edge i l) = let z : i ≡ 0 + i = omega arith in placed (Names s) 1 z (fault.behind l)

pub framed-names : (s rest : List ℕ) (r : Refusal) → FramedNo s rest r → (front : List ℕ) × (front ++ rest ≡ s) × Names front r
unfolding FramedNo
framed-names s rest r (class, instruction, long, body, bytes, fits, row) =
    let lead = class ∷ (instruction ∷ length_bytes long (length body)) in
    let z : 2 + length (length_bytes long (length body)) ≡ 0 + length lead = omega arith in (
      framed class instruction long body,
      bytes,
      names (after lead (subst (λ (p : ℕ). Within p body r) z (body-within (layout_of class instruction) row))),
    )

pub whole-names : (s : List ℕ) (r : Refusal) → FramedNo s [] r → Names s r
whole-names s r h = let f = framed-names s [] r h in subst (λ (x : List ℕ). Names x r) (rw (append-nil) at f.1) f.2

pub header-unplaced : {s : List ℕ} {r : Refusal} → HeaderNo s r → r.place ≡ None
header-unplaced (short class instruction long body ok c) = refl
header-unplaced (too_long h) = refl

pub whole-unplaced : {s : List ℕ} {r : Refusal} → WholeNo s r → r.place ≡ None
whole-unplaced (header h) = header-unplaced h
whole-unplaced (left_over class instruction long body s ok l) = refl
