-- Which bytes are refused as a message, with which number and at which place. R40: "A body is read from left to right, a length byte
-- by byte; the first refusal is the answer.": in each row, what stands before the fault is well formed (Grammar), the fault follows,
-- and what stands behind it plays no part. The bytes of a row go up to the end of their body, container or run, and at is the place of the
-- first of them in the message; `no 5 at` is number 5 at that place. R48: the place of 1 is, in every row of a body, that of the first byte
-- behind them, "the first byte behind the nearest body, container or run that ended too soon". Definitions only.
use Rattle.std.specs.Prelude.{◌≡◌, Bool, true, ◌⊎◌, List, [], ◌∷◌, ◌++◌, ℕ, ◌+◌, ◌-◌, ◌*◌, ◌/◌, ◌%◌, ◌<◌, ◌≤◌, length}
use Rattle.zvt_rules.specs.declared.Refusal.{Refusal}
use Rattle.zvt_rules.specs.declared.Format.TheVariants.{Unknown, Digits}
use Rattle.zvt_rules.specs.declared.Layout.{Layout}
use Rattle.zvt_rules.specs.declared.Layout.TheVariants.{Plain, List as FieldList, Secured}
use Rattle.zvt_rules.specs.Reading.{fault_at, unplaced}
use Rattle.zvt_rules.specs.Objects.{Form, Obj, count_obj}
use Rattle.zvt_rules.specs.Fields.{format_of, holds_digits, Field, plain, field_id, count_field}
use Rattle.zvt_rules.specs.Message.{layout_of}
use Rattle.zvt_rules.specs.believed.Writing.{len_bytes, sized, obj_bytes, length_in, field_bytes, length_bytes}
use Rattle.zvt_rules.specs.believed.Grammar.{TagOk, FormOk, ObjOk, Decimals, SizeOk, FieldOk, LengthOk}
use Rattle.zvt_rules.specs.believed.Digits.{Says}
use Rattle.basics.specs.believed.Lists.{In}
use Rattle.zvt_rules.specs.believed.Shortest.{Shortens}

-- R1: "the bytes end before a thing that they began": s is the front of that thing, and something of it is missing
pub record Cut (s whole : List ℕ) : Type 0 where
  pub missing : List ℕ
  pub some : 0 < length missing
  pub joined : s ++ missing ≡ whole

-- the length and the value of a container, behind its id, or of an object, behind its tag. R42, R43: "1 or 22", "value 1"; the value may be
-- cut by the end of a run or container around it, R44: "also where more bytes follow that". R22: "the first length byte of a container or
-- data object is 80 or 83 to FF (O8)". R47: "the wrong byte itself"
pub data SizedNo : ℕ → List ℕ → Refusal → Type 0 where
  short : {at : ℕ} {s : List ℕ} (form : Form) (value : List ℕ) → FormOk form (length value) → Cut s (sized form value)
      → SizedNo at s (fault_at 1 (at + length s))
  wrong : {at b : ℕ} {s : List ℕ} → (b ≡ 0x80) ⊎ (0x83 ≤ b) → SizedNo at (b ∷ s) (fault_at 22 at)

-- O10: "A message has at most 64 objects", n of them before this one. O9: "down to depth 4", left levels with this one's
abbrev pub ObjectFits : ℕ → ℕ → Type 0
ObjectFits left n = (n < 64) × (0 < left)

-- R43: "An object: 10, 9, tag 1, 8, length 1 or 22, value 1, then its inside. One byte of it is enough for 10 and 9." R47: "the first byte
-- of the tag for 9 and 10, and the wrong byte itself for .. 8"
pub data RunNo : ℕ → ℕ → ℕ → List ℕ → Refusal → Type 0 where
  too_many : {left n at : ℕ} {s : List ℕ} → 0 < length s → 64 ≤ n → RunNo left n at s (fault_at 10 at)
  too_deep : {left n at : ℕ} {s : List ℕ} → 0 < length s → n < 64 → left ≡ 0 → RunNo left n at s (fault_at 9 at)
  tag_short : {left n at : ℕ} {s : List ℕ} (tag : List ℕ) (run : Bool) → ObjectFits left n → 0 < length s → TagOk tag run → Cut s tag
      → RunNo left n at s (fault_at 1 (at + length s))
  -- O3: "where the low five bits of its first byte are ones". O4: "A second tag byte with its top bit set is refused (8)."
  tag_wrong : {left n at b c : ℕ} {s : List ℕ} → ObjectFits left n → b % 32 ≡ 31 → 0x80 ≤ c → RunNo left n at (b ∷ (c ∷ s)) (fault_at 8 (at + 1))
  sized_in : {left n at : ℕ} {s : List ℕ} {r : Refusal} (tag : List ℕ) (run : Bool) → ObjectFits left n → TagOk tag run
      → SizedNo (at + length tag) s r → RunNo left n at (tag ++ s) r
  inside : {left n at : ℕ} {r : Refusal} (tag : List ℕ) (form : Form) (value s : List ℕ) → ObjectFits left n → TagOk tag true
      → FormOk form (length value) → RunNo (left - 1) (n + 1) (at + length (tag ++ len_bytes form (length value))) value r
      → RunNo left n at ((tag ++ sized form value) ++ s) r
  -- R40: "from left to right"
  behind : {left n at : ℕ} {s : List ℕ} {r : Refusal} (o : Obj) → ObjOk o left → n + count_obj o ≤ 64
      → RunNo left (n + count_obj o) (at + length (obj_bytes o)) s r → RunNo left n at (obj_bytes o ++ s) r

-- R7: "a field id stands a second time"; seen are the ids of the fields before
abbrev pub New : List ℕ → ℕ → Type 0
New seen id = In id seen → ⊥

-- R6: "a half of a byte is no decimal digit"
abbrev pub Undecimal : ℕ → Type 0
Undecimal b = (9 < b / 16) ⊎ (9 < b % 16)

-- R42: "A field: 5, 7, length 1 or 4 (of a container 1 or 22), value 1, digits 6, then the inside of a container." R47: "the id of the field
-- for 5 and 7 .., and the wrong byte itself for 4, 6"
pub data ListNo : List ℕ → ℕ → ℕ → List ℕ → Refusal → Type 0 where
  no_field : {seen : List ℕ} {n at id : ℕ} {s : List ℕ} → format_of id ≡ Unknown → ListNo seen n at (id ∷ s) (fault_at 5 at)
  twice : {seen : List ℕ} {n at id : ℕ} {s : List ℕ} → (format_of id ≡ Unknown → ⊥) → In id seen → ListNo seen n at (id ∷ s) (fault_at 7 at)
  short : {seen : List ℕ} {n at id : ℕ} {s : List ℕ} (value : List ℕ) → New seen id → SizeOk (format_of id) (length value)
      → Cut s (length_in (format_of id) (length value) ++ value) → ListNo seen n at (id ∷ s) (fault_at 1 (at + length (id ∷ s)))
  -- R4: "a byte that is no length digit stands where one is due (F3)"; the digits before it say some length
  no_digit : {seen : List ℕ} {n at id d : ℕ} (front : List ℕ) (v b : ℕ) (s : List ℕ) → New seen id → format_of id ≡ Digits d
      → length front < d → Says front v → (b < 0xF0) ⊎ (0xF9 < b) → ListNo seen n at (id ∷ (front ++ (b ∷ s))) (fault_at 4 (at + length (id ∷ front)))
  undecimal : {seen : List ℕ} {n at : ℕ} (id : ℕ) (front : List ℕ) (b : ℕ) (back s : List ℕ) → New seen id
      → SizeOk (format_of id) (length (front ++ (b ∷ back))) → holds_digits id ≡ true → Decimals front → Undecimal b
      → ListNo seen n at (field_bytes (plain id (front ++ (b ∷ back))) ++ s)
      (fault_at 6 (at + length (id ∷ (length_in (format_of id) (length (front ++ (b ∷ back))) ++ front))))
  sized_in : {seen : List ℕ} {n at : ℕ} {s : List ℕ} {r : Refusal} → New seen 0x06 → SizedNo (at + 1) s r → ListNo seen n at (0x06 ∷ s) r
  -- O9: "Objects of the container itself are at depth 1 .. down to depth 4."
  inside : {seen : List ℕ} {n at : ℕ} {r : Refusal} (form : Form) (value s : List ℕ) → New seen 0x06 → FormOk form (length value)
      → RunNo 4 n (at + 1 + length (len_bytes form (length value))) value r → ListNo seen n at (0x06 ∷ (sized form value ++ s)) r
  -- R40: "from left to right"
  behind : {seen : List ℕ} {n at : ℕ} {s : List ℕ} {r : Refusal} (f : Field) → FieldOk f → New seen (field_id f) → n + count_field f ≤ 64
      → ListNo (field_id f ∷ seen) (n + count_field f) (at + length (field_bytes f)) s r → ListNo seen n at (field_bytes f ++ s) r

-- R41: "A password: 1 where three bytes are not there, then 6.", and the list behind it
pub data SecuredNo : ℕ → List ℕ → Refusal → Type 0 where
  short : {at : ℕ} {s : List ℕ} → length s < 3 → SecuredNo at s (fault_at 1 (at + length s))
  undecimal : {at : ℕ} (front : List ℕ) (b : ℕ) (back s : List ℕ) → length (front ++ (b ∷ back)) ≡ 3 → Decimals front → Undecimal b
      → SecuredNo at ((front ++ (b ∷ back)) ++ s) (fault_at 6 (at + length front))
  behind : {at : ℕ} {s : List ℕ} {r : Refusal} (password : List ℕ) → length password ≡ 3 → Decimals password
      → ListNo [] 0 (at + length password) s r → SecuredNo at (password ++ s) r

-- M5: "a field list". M6: "a password of three bytes, then a field list". M7: "plain: bytes that the reader never looks into"
unfoldable pub BodyNo : Layout → ℕ → List ℕ → Refusal → Type 0
BodyNo Plain at s r = ⊥
BodyNo FieldList at s r = ListNo [] 0 at s r
BodyNo Secured at s r = SecuredNo at s r

-- M1: "A message is a class byte, an instruction byte, a length and a body of that many bytes."
abbrev pub framed : ℕ → ℕ → Bool → List ℕ → List ℕ
framed class instruction long body = class ∷ (instruction ∷ (length_bytes long (length body) ++ body))

-- the header that s begins with. R39: "A header: 1 for a missing byte of pair or length, 2, 1 for a body cut short"; a header's refusal
-- names no place
pub data HeaderNo : List ℕ → Refusal → Type 0 where
  short : {s : List ℕ} (class instruction : ℕ) (long : Bool) (body : List ℕ) → LengthOk long (length body)
      → Cut s (framed class instruction long body) → HeaderNo s (unplaced 1)
  too_long : {class instruction low high : ℕ} {s : List ℕ} → 4_096 < high * 256 + low
      → HeaderNo (class ∷ (instruction ∷ (0xFF ∷ (low ∷ (high ∷ s))))) (unplaced 2)

-- the header of the message that s is. R3: "bytes are left over behind the one message"
pub data WholeNo : List ℕ → Refusal → Type 0 where
  header : {s : List ℕ} {r : Refusal} → HeaderNo s r → WholeNo s r
  left_over : (class instruction : ℕ) (long : Bool) (body s : List ℕ) → LengthOk long (length body) → 0 < length s
      → WholeNo (framed class instruction long body ++ s) (unplaced 3)

-- s begins with a message whose body is refused, and rest stands behind it
unfoldable pub FramedNo : List ℕ → List ℕ → Refusal → Type 0
FramedNo s rest r = (class : ℕ) × (instruction : ℕ) × (long : Bool) × (body : List ℕ) × (framed class instruction long body ++ rest ≡ s)
    × LengthOk long (length body) × BodyNo (layout_of class instruction) (2 + length (length_bytes long (length body))) body r

-- R37: "Reading: header, body." M8: "Reading takes all the bytes as one message."
abbrev pub ReadNo : List ℕ → Refusal → Type 0
ReadNo s r = WholeNo s r ⊎ FramedNo s [] r

-- the same of the first of several, M16: "each directly behind the one before, so that 3 does not arise"
abbrev pub FirstNo : List ℕ → Refusal → Type 0
FirstNo s r = HeaderNo s r ⊎ ((rest : List ℕ) × FramedNo s rest r)

-- R37: "Shortening: header, body, 11." R38: "shortening needs as many as it writes"; there is room for so many bytes
pub data ShortNo (room : ℕ) : List ℕ → Refusal → Type 0 where
  unread : {s : List ℕ} {r : Refusal} → ReadNo s r → ShortNo room s r
  tight : {s : List ℕ} (w : List ℕ) → Shortens s w → room < length w → ShortNo room s (unplaced 11)
