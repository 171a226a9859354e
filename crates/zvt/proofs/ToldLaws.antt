-- What a message tells, by its outline and its bytes. Assumes nothing.
use mathlib.Core.Path.{◌≡◌, refl, sym, ap, ◌∙◌}
use mathlib.Core.List.{List, []}
use Prim.Native.Nat.{ℕ, ◌+◌, ◌<◌, ◌≤◌}
use native.Mathlib.Nat.{add-zero}
use lib.ListN.{length, get_or, drop, drop_of_length-le}
use lib.Seq.{drop-cons}
use Rattle.std.proofs.Common.{Err, None, Ok, Option, Some}
use Rattle.zvt_rules.specs.declared.Layout.{Layout}
use Rattle.zvt_rules.specs.declared.Layout.TheVariants.{Plain, List as FieldList, Secured}
use Rattle.zvt_rules.specs.declared.Refusal.{Refusal}
use Rattle.zvt_rules.specs.declared.Header.{Header}
use Rattle.zvt_rules.specs.declared.Outline.{Outline}
use Rattle.zvt_rules.specs.declared.Status.{Status}
use Rattle.zvt_rules.specs.Reading.{got}
use Rattle.zvt_rules.specs.Message.{header_size, layout_of, Body, bytes, listed, Message, whole_header, read_of}
use Rattle.zvt_rules.specs.believed.Writing.{body_bytes, message_bytes}
use Rattle.basics.specs.believed.Lists.{Bytes}
use Rattle.zvt_rules.specs.believed.Grammar.{LayoutOk, MessageOk}
use Rattle.zvt_rules.specs.Answers.{header_in, outline_of}
use Rattle.zvt_rules.specs.Values.{status_of}
use Rattle.zvt_rules.specs.Heard.{first_byte, told_in, told_answer, as_hear_answer, hear_answer}
use Rattle.zvt_rules.proofs.MessageBytes.{read-sound}
use Rattle.zvt.specs.HeaderSteps.{whole_answer}
use Rattle.zvt.specs.ListSteps.{Was}
use Rattle.zvt.specs.ToldSteps.{HeaderOf, Tells, first_in}
use Rattle.zvt.proofs.HeaderLaws.{as-got, as-stopped}
use Rattle.zvt.proofs.PlaceLaws.{behind, accepted}

-- ---- the first byte of a body, by its layout
unfoldable first_by : Layout → List ℕ → Option ℕ
first_by Plain w = first_byte (bytes w)
first_by FieldList w = None
first_by Secured w = None

body-first : (l : Layout) (x : Body) → LayoutOk l x → first_by l (body_bytes x) ≡ first_byte x
unfolding first_by first_byte LayoutOk body_bytes
body-first Plain (bytes w) ok = refl
body-first Plain (listed password fs) ok = absurd ok
body-first FieldList (bytes w) ok = absurd ok
body-first FieldList (listed password fs) ok = refl
body-first Secured (bytes w) ok = absurd ok
body-first Secured (listed password fs) ok = refl

no-first : (l : Layout) → first_by l [] ≡ None
unfolding first_by first_byte
no-first Plain = refl
no-first FieldList = refl
no-first Secured = refl

module _ (s : List ℕ) (m : Message) (b : Bytes s) (e : read_of s ≡ got m) where
  body-behind : body_bytes m.body ≡ drop (header_size m.long) s
  unfolding message_bytes
  body-behind =
      let w = body_bytes m.body in
      let at = header_size m.long in
      sym (behind m.long m.class m.instruction (length w) w 0) ∙ ap (drop (at + 0)) (read-sound s m b e).0 ∙ rw (add-zero at)

  message-first : first_by (layout_of m.class m.instruction) (drop (header_size m.long) s) ≡ first_byte m.body
  unfolding MessageOk
  message-first = rw (← body-behind) (body-first (layout_of m.class m.instruction) m.body (read-sound s m b e).1.0)

module _ (s : List ℕ) (x : Outline) (w : Was s x) where
  first-by : first_by (layout_of x.class x.instruction) (drop x.start s) ≡ first_in (read_of s)
  unfolding outline_of first_in
  first-by = let k = accepted s x w.1 in rw (← k.2, k.1) (message-first s k.0 w.0 k.1)

  pub first-none : length s ≤ x.start → None ≡ first_in (read_of s)
  first-none h = sym (no-first _) ∙ rw (drop_of_length-le s h) at first-by

  pub first_plain : layout_of x.class x.instruction ≡ Plain → x.start < length s → Some (get_or s x.start 0) ≡ first_in (read_of s)
  unfolding first_by first_byte
  first_plain l h = rw (l, drop-cons s x.start 0 h) at first-by

  pub first-list : layout_of x.class x.instruction ≡ FieldList → None ≡ first_in (read_of s)
  unfolding first_by
  first-list l = rw l at first-by

  pub first-secured : layout_of x.class x.instruction ≡ Secured → None ≡ first_in (read_of s)
  unfolding first_by
  first-secured l = rw l at first-by

  pub told_is : (first : Option ℕ) (status : Status) → first ≡ first_in (read_of s) → status ≡ status_of s
      → Tells (record { first = first; status = status }) s
  unfolding first_in told_answer told_in status_of
  told_is first status e f = let k = accepted s x w.1 in rw (e, f, k.1)

-- ---- the public answer
pub unheard : (s : List ℕ) (r : Refusal) → whole_answer s ≡ Err r → hear_answer s ≡ Err r
unfolding hear_answer as_hear_answer
unheard s r e = ap (as_hear_answer (read_of s)) (as-stopped (whole_header s) r e)

pub heard-is : (s : List ℕ) (h : Header) → HeaderOf h s
    → hear_answer s ≡ Ok (record { class = h.class; instruction = h.instruction; start = h.start; length = h.length; told = told_answer (read_of s) })
unfolding hear_answer as_hear_answer header_in
heard-is s h e = let g = as-got (whole_header s) h e in rw (← g.2) (ap (as_hear_answer (read_of s)) g.1)
