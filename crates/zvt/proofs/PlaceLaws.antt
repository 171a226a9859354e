-- Where the list of a message lies, and which fields are in it. Assumes nothing.
use mathlib.Core.Path.{◌≡◌, refl, sym, ap, ◌∙◌}
use mathlib.Core.Bool.{Bool, true, false}
use mathlib.Core.List.{List, [], ◌∷◌, ◌++◌}
use Prim.Native.Nat.{ℕ, ◌+◌, ◌-◌, ◌≤◌}
use native.Mathlib.Nat.{add-zero}
use native.Mathlib.Omega.{arith}
use lib.ListN.{length, take, drop, length-append, length-take}
use lib.Seq.{drop-append_seam, drop-drop}
use Rattle.std.proofs.Common.{Ok, Err}
use Rattle.basics.proofs.Tests.{never}
use Rattle.zvt_rules.specs.declared.Refusal.{Refusal}
use Rattle.zvt_rules.specs.declared.Layout.{Layout}
use Rattle.zvt_rules.specs.declared.Layout.TheVariants.{Plain, List as FieldList, Secured}
use Rattle.basics.specs.Lists.{part}
use Rattle.zvt_rules.specs.Reading.{Reading, got, refused}
use Rattle.zvt_rules.specs.Fields.{Field, list_of}
use Rattle.basics.specs.Buffers.{Whole}
use Rattle.zvt_rules.specs.Message.{header_size, layout_of, Body, bytes, listed, Message, read_of, first_of}
use Rattle.zvt_rules.specs.believed.Writing.{list_bytes, body_bytes, length_bytes, message_bytes}
use Rattle.basics.specs.believed.Lists.{Bytes}
use Rattle.zvt_rules.specs.believed.Grammar.{FieldsOk, LayoutOk, MessageOk}
use Rattle.zvt_rules.proofs.ObjectReading.{tail}
use Rattle.zvt_rules.proofs.ObjectBytes.{bytes-part}
use Rattle.zvt_rules.proofs.FieldBytes.{list-complete}
use Rattle.zvt_rules.proofs.FieldReading.{header-most, list-none}
use Rattle.zvt_rules.proofs.AnswerLaws.{first-refused-exactly}
use Rattle.zvt_rules.proofs.MessageBytes.{first-sound, read-sound, read-complete, message-size, length_most}
use Rattle.zvt_rules.proofs.MessageShort.{fields-ok}
use Rattle.zvt_rules.specs.declared.Outline.{Outline}
use Rattle.zvt_rules.specs.declared.Span.{Span}
use Rattle.zvt_rules.specs.Answers.{outline_of, as_read_answer, read_answer, first_answer, as_first_answer}
use Rattle.zvt_rules.specs.Listed.{listed_from, listed_body, listed_message, ids_listed, first_ids}
use Rattle.zvt.specs.ListSteps.{list_fields, fields_between, listed_in, ListIn, ListOf, Was}
use Rattle.zvt.specs.WritingSteps.{ListReads}
use Rattle.zvt.proofs.ListedLaws.{list-empty}

-- ---- the list of a message that is read
-- it stands behind header and password
pub behind : (long : Bool) (c i v : ℕ) (w : List ℕ) (k : ℕ) → drop (header_size long + k) (c ∷ (i ∷ (length_bytes long v ++ w))) ≡ drop k w
unfolding length_bytes
behind false c i v w k = sym (drop-drop k 3 (c ∷ (i ∷ (v ∷ w))))
behind true c i v w k = sym (drop-drop k 5 _)

module _ (s : List ℕ) (m : Message) (b : Bytes s) (e : read_of s ≡ got m) where
  in-message : (password : List ℕ) (fs : List Field) → m.body ≡ listed password fs
      → ListIn (header_size m.long + length password) (length s) s × (fs ≡ fields_between (header_size m.long + length password) (length s) s)
  unfolding message_bytes body_bytes MessageOk FieldsOk ListReads fields_between list_fields
  in-message password fs q =
      let k = read-sound s m b e in
      let a = header_size m.long + length password in
      let ok = fields-ok (layout_of m.class m.instruction) password fs (rw q at k.1.0) in
      let short = length_most m.long (length (body_bytes m.body)) k.1.1 in
      let size : length (body_bytes m.body) ≡ length password + length (list_bytes fs) = rw q (length-append password (list_bytes fs)) in
      let long = ap length (sym k.0) ∙ message-size m in
      let w : part a (length s) s ≡ list_bytes fs =
      tail a s ∙ ap (drop a) (sym k.0) ∙ behind m.long m.class m.instruction _ (body_bytes m.body) (length password)
      ∙ rw q (drop-append_seam password (list_bytes fs)) in
      let back = list-complete fs [] 0 0 ok.0 (omega (arith, ok.1)) in
      (record { order = omega arith; inside = omega arith; short = omega arith; reads = (_, ap (list_of [] 0 0) w ∙ back) }, rw (w, back))

-- no bytes are a list without fields
pub no-list : (s : List ℕ) → ListIn 0 0 s × (listed_in 0 0 s ≡ [])
unfolding ListReads
no-list s = (record { order = omega arith; inside = omega arith; short = omega arith; reads = (_, list-none [] 0 0 [] refl) }, list-empty 0 0 s refl)

-- ---- the message behind the reader's answer
pub accepted : (s : List ℕ) (x : Outline) → read_answer s ≡ Ok x → (m : Message) × (read_of s ≡ got m) × (outline_of m ≡ x)
unfolding read_answer as_read_answer
accepted s x h = go (read_of s) refl h
  where
    go : (y : Reading Message) → read_of s ≡ y → as_read_answer y ≡ Ok x → (m : Message) × (read_of s ≡ got m) × (outline_of m ≡ x)
    go (got m) q g = (m, q, cc)
    go (refused f) q g = never cc

-- ---- where the list lies, by the layout of the body
unfoldable pub list_by : ℕ → ℕ → Layout → Span
list_by at end Plain = record { from = 0; to = 0 }
list_by at end FieldList = record { from = at; to = end }
list_by at end Secured = record { from = at + 3; to = end }

empty-list : (s : List ℕ) → listed_message (read_of s) ≡ [] → ListOf (record { from = 0; to = 0 }) s
empty-list s e = let none = no-list s in record { within = none.0; fields = e ∙ sym none.1 }

module _ (s : List ℕ) (m : Message) (b : Bytes s) (e : read_of s ≡ got m) where
  list-placed : (from : ℕ) (password : List ℕ) (fs : List Field) → m.body ≡ listed password fs → header_size m.long + length password ≡ from
      → ListOf (record { from = from; to = length s }) s
  unfolding listed_message listed_body listed_in
  list-placed from password fs q a =
      let k = in-message s m b e password fs q in
      record { within = rw a at k.0; fields = rw (e, q, a) (ap (listed_from from) (rw a at k.1)) }

  list-lies : (l : Layout) (x : Body) → LayoutOk l x → m.body ≡ x → ListOf (list_by (header_size m.long) (length s) l) s
  unfolding list_by LayoutOk listed_message listed_body
  list-lies Plain (bytes w) ok q = empty-list s (rw (e, q))
  list-lies Plain (listed password fs) ok q = absurd ok
  list-lies FieldList (bytes w) ok q = absurd ok
  list-lies FieldList (listed password fs) ok q = list-placed _ password fs q (rw ok.0 (add-zero (header_size m.long)))
  list-lies Secured (bytes w) ok q = absurd ok
  list-lies Secured (listed password fs) ok q = list-placed _ password fs q (rw ok.0)

module _ (s : List ℕ) (x : Outline) (w : Was s x) where
  pub start_small : x.start ≤ 5
  unfolding outline_of
  start_small = rw (← (accepted s x w.1).2) (header-most (accepted s x w.1).0.long)

  pub list-is : (l : Layout) → layout_of x.class x.instruction ≡ l → ListOf (list_by x.start (length s) l) s
  unfolding outline_of MessageOk
  list-is l h =
      let k = accepted s x w.1 in
      let ok = (read-sound s k.0 w.0 k.1).1.0 in
      rw (← h, ← k.2) (list-lies s k.0 w.0 k.1 (layout_of k.0.class k.0.instruction) k.0.body ok refl)

-- ---- the message that s begins with is the one that its own bytes are
module _ (s : List ℕ) (m : Message) (n : ℕ) (b : Bytes s) (e : first_of s ≡ got m) (size : length (message_bytes m) ≡ n) where
  own_read : read_of (take n s) ≡ got m
  own_read = let k = first-sound s m b e in rw (← size, ← k.0) (read-complete m k.1)

  pub own-within : n ≤ length s
  own-within = omega (arith, size, ap length (first-sound s m b e).0, length-take (length (message_bytes m)) s)

  pub own-was : (o : Outline) → outline_of m ≡ o → Was (take n s) o
  unfolding read_answer as_read_answer
  own-was o same = let k : n - 0 ≡ n = omega arith in (rw k at (bytes-part 0 n s b), rw (own_read, same))

  pub own-ids : first_ids s ≡ ids_listed (listed_message (read_of (take n s)))
  unfolding first_ids
  own-ids = rw (e, own_read)

-- and has none where it is refused

pub refused-ids : (s : List ℕ) (r : Refusal) (out : List ℕ) → first_answer s ≡ Err r → Whole (first_ids s) 0 out out
unfolding first_ids ids_listed listed_message
refused-ids s r out e = rw ((first-refused-exactly s r).0 e) (refl, refl)

-- the message that was read first
pub first-got : (s : List ℕ) (o : Outline) (next : ℕ) → first_answer s ≡ Ok (o, next)
    → (m : Message) × (first_of s ≡ got m) × (outline_of m ≡ o) × (length (message_bytes m) ≡ next)
unfolding first_answer as_first_answer
first-got s o next e = go (first_of s) refl e
  where
    go : (x : Reading Message) → first_of s ≡ x → as_first_answer x ≡ Ok (o, next)
        → (m : Message) × (first_of s ≡ got m) × (outline_of m ≡ o) × (length (message_bytes m) ≡ next)
    go (got m) q k =
        let both : (outline_of m, length (message_bytes m)) ≡ (o, next) = cc in
        (m, q, ap (λ (x : Outline × ℕ). x.0) both, ap (λ (x : Outline × ℕ). x.1) both)
    go (refused r) q k = never cc
