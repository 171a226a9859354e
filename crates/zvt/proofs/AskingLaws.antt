-- A message asked for fields: what is found by places is the answer. Assumes nothing.
use mathlib.Core.Path.{◌≡◌, refl, sym, ap, ◌∙◌}
use mathlib.Core.List.{List, ◌∷◌}
use Prim.Native.Nat.{ℕ, ◌+◌, ◌≤◌}
use lib.ListN.{length, get_or}
use Rattle.std.proofs.Common.{Err, None, Ok, Option, Result, Some}
use Rattle.zvt_rules.specs.declared.Refusal.{Refusal}
use Rattle.zvt_rules.specs.declared.Span.{Span}
use Rattle.zvt_rules.specs.declared.Places.{Places}
use Rattle.zvt_rules.specs.declared.Outline.{Outline}
use Rattle.basics.specs.Lists.{part}
use Rattle.zvt_rules.specs.Reading.{got, refused, Reading}
use Rattle.zvt_rules.specs.Message.{Message, read_of}
use Rattle.zvt_rules.specs.Answers.{outline_of, as_read_answer, read_answer}
use Rattle.zvt_rules.specs.Listed.{field_answer, handed_bytes, handed_place, span_of, spans_of, places_answer}
use Rattle.basics.specs.believed.Lists.{Bytes}
use Rattle.zvt_rules.specs.believed.Found.{Stands, StandsBy}
use Rattle.zvt_rules.proofs.Readings.{got-not-refused}
use Rattle.zvt_rules.proofs.Found.{value-exactly, refused-exactly, in_body}
use Rattle.zvt.specs.AskingSteps.{as_found, message_found}
use Rattle.zvt.proofs.MessageLaws.{places_by}
use Rattle.zvt.proofs.PlaceLaws.{accepted}
use Rattle.zvt.specs.declared.asking.MessageFound.{MessageFound}
use Rattle.basics.proofs.Tests.{never}

-- ---- the message that was read
module _ (ids s : List ℕ) where
  pub refused-found : (r : Refusal) → read_of s ≡ refused r → Err r ≡ message_found ids s
  unfolding message_found as_found
  refused-found r e = rw e

  pub message-found : (m : Message) (o : Outline) (places : Places) → read_of s ≡ got m → o ≡ outline_of m → places ≡ places_by ids (got m)
      → Ok (record { outline = o; places = places }) ≡ message_found ids s
  unfolding message_found as_found
  message-found m o places e f g = rw (e, f, g)

  -- what it says of the message, and of what was asked for
  pub found-read : (f : MessageFound) → message_found ids s ≡ Ok f → (read_answer s ≡ Ok f.outline) × (places_answer ids s ≡ f.places)
  unfolding message_found as_found read_answer as_read_answer places_answer
  found-read f e = go (read_of s) refl e
    where
      go : (x : Reading Message) → read_of s ≡ x → as_found ids x ≡ Ok f → (read_answer s ≡ Ok f.outline) × (places_answer ids s ≡ f.places)
      go (got m) q k =
          let same : record { outline = outline_of m; places = places_by ids (got m) } ≡ f = cc in
          rw q (ap (λ (x : MessageFound). Ok x.outline) same, ap (λ (x : MessageFound). x.places) same)
      go (refused r) q k = never cc

  pub found-refused : (r : Refusal) → message_found ids s ≡ Err r → read_of s ≡ refused r
  unfolding message_found as_found
  found-refused r e = go (read_of s) refl e
    where
      go : (x : Reading Message) → read_of s ≡ x → as_found ids x ≡ Err r → read_of s ≡ refused r
      go (got m) q k = never cc
      go (refused f) q k = q ∙ cc

-- ---- one field of it
module _ (s : List ℕ) (b : Bytes s) (id : ℕ) where
  -- a part lies in the message
  pub value-lies : (p : Span) → field_answer id s ≡ Ok (Some p) → (p.from ≤ p.to) × (p.to ≤ length s)
  unfolding StandsBy Stands
  value-lies p e =
      let st = (value-exactly s b id p).0 e in
      let k = in_body s b st.2.0 id p st.2.4 st in
      (k.1, k.2)

  pub answer-placed : (o : Outline) → read_answer s ≡ Ok o → (rest : List ℕ)
      → Ok (get_or (places_answer (id ∷ rest) s).fields 0 None) ≡ field_answer id s
  unfolding places_answer spans_of span_of field_answer
  answer-placed o a rest = go (field_answer id s) refl
    where
      go : (x : Result (Option Span) Refusal) → field_answer id s ≡ x → Ok (span_of (field_answer id s)) ≡ field_answer id s
      go (Ok place) e = rw e
      go (Err r) e =
          absurd (got-not-refused (sym (accepted s o a).1 ∙ (refused-exactly s b id r).0 e))

-- ---- its bytes
module _ (s other : List ℕ) (p q : ℕ × ℕ) where
  pub handed-part : (x : Result (Option Span) Refusal) (l : Span) → x ≡ Ok (Some l) → (part l.from l.to s ≡ handed_bytes s other x) × ((p.0, l.from + p.1) ≡ handed_place p q x)
  unfolding handed_bytes handed_place
  handed-part x l e = rw e (refl, refl)

  pub handed-absent : (x : Result (Option Span) Refusal) → x ≡ Ok None → (other ≡ handed_bytes s other x) × (q ≡ handed_place p q x)
  unfolding handed_bytes handed_place
  handed-absent x e = rw e (refl, refl)

  pub handed-refused : (x : Result (Option Span) Refusal) (r : Refusal) → x ≡ Err r → (other ≡ handed_bytes s other x) × (q ≡ handed_place p q x)
  unfolding handed_bytes handed_place
  handed-refused x r e = rw e (refl, refl)
