-- A message asked for one of its fields: where its value lies, and its bytes (F6 to F11). Assumes nothing.
use mathlib.Core.Path.{◌≡◌, refl, ap, ◌∙◌}
use mathlib.Core.Logic.{◌↔◌, ◌⊎◌}
use mathlib.Core.List.{List, [], ◌++◌}
use Prim.Native.Nat.{ℕ, ◌+◌, ◌<◌, ◌≤◌}
use native.Mathlib.Omega.{arith}
use lib.ListN.{length, get_or, length-append}
use Rattle.std.specs.Prelude.{Err, Ok}
use Rattle.std.proofs.Common.{None, Some}
use Rattle.zvt_rules.specs.declared.Refusal.{Refusal}
use Rattle.zvt_rules.specs.declared.Outline.{Outline}
use Rattle.zvt_rules.specs.declared.Span.{Span}
use Rattle.basics.specs.Lists.{part}
use Rattle.zvt_rules.specs.Objects.{Form, Objs}
use Rattle.zvt_rules.specs.Fields.{Field, plain, container, field_id}
use Rattle.zvt_rules.specs.Message.{header_size, bytes, listed, Message}
use Rattle.zvt_rules.specs.Answers.{outline_of, read_answer}
use Rattle.zvt_rules.specs.Listed.{field_answer, handed_bytes, handed_place, first_ids, span_of, places_answer}
use Rattle.zvt_rules.specs.Values.{body_fields}
use Rattle.zvt_rules.specs.believed.Writing.{run_bytes, field_value}
use Rattle.basics.specs.believed.Lists.{Bytes}
use Rattle.zvt_rules.specs.believed.Values.{Is, Tells}
use Rattle.zvt_rules.specs.believed.Found.{Stands, Follows, StandsBy, Lacks, Handed}
use Rattle.basics.proofs.Lists.{in-none}
use Rattle.zvt_rules.proofs.MessageBytes.{message-size}
use Rattle.zvt_rules.proofs.Found as found
use Rattle.zvt_rules.proofs.HeardLaws as heard
use Rattle.promises.specs.Answers.{At}
use Rattle.zvt_rules.proofs.AnswerLaws.{read-refused-exactly}
use Rattle.promises.proofs.Answers.{read-gives}
use Rattle.promises.proofs.Asked.{id-found}

module _ (s : List ℕ) (b : Bytes s) where
  -- ---- "the part of the message that holds the value, without its length, or absent"

  -- A part is answered exactly where the field with that id stands, as that field's value lies in the message.
  pub field-exactly : (id : ℕ) (p : Span) → (field_answer id s ≡ Ok (Some p)) ↔ StandsBy s id p
  field-exactly = found.value-exactly s b

  -- "Absent exactly when no field of the list has that id."
  pub absent-exactly : (id : ℕ) → (field_answer id s ≡ Ok None) ↔ Lacks s id
  absent-exactly = found.absent-exactly s b

  -- "Refusals: as for reading the message.": the same number and place, whatever id is asked for, and no other.
  pub refused-as-read : (id : ℕ) (r : Refusal) → (field_answer id s ≡ Err r) ↔ (read_answer s ≡ Err r)
  refused-as-read id r =
      let read = read-refused-exactly s r in
      let field = found.refused-exactly s b id r in
      (λ e. read.1 (field.0 e), λ e. field.1 (read.0 e))

  -- The part from .. to is the field's value in the tree,
  pub part-is-value : (k : ℕ) (f : Field) (p : Span) → Stands s k f p → part p.from p.to s ≡ field_value f
  part-is-value k f p st = found.found_part s b k f p st

  -- that of a container "the run of its objects",
  pub container-part : (k : ℕ) (form : Form) (os : Objs) (p : Span) → Stands s k (container form os) p → part p.from p.to s ≡ run_bytes os
  unfolding field_value
  container-part k form os p st = part-is-value k (container form os) p st

  -- "without its length": directly before it stand the field's id and, where the id's format has one, the length, which says how many bytes
  -- the value has.
  pub length-left-out : (k : ℕ) (f : Field) (p : Span) → Stands s k f p → Follows s f p
  length-left-out k f p st = found.follows s b k f p st

  -- What a desk is told of a status information (P20) are such parts.
  pub told-is-asked : (id : ℕ) (value : List ℕ) → Tells s id value
      → (p : Span) × (field_answer id s ≡ Ok (Some p)) × (part p.from p.to s ≡ value)
  unfolding StandsBy field_id field_value
  told-is-asked id value t =
      let (k, p, st) = found.told-stands s b id value t in
      (p, (field-exactly id p).1 (k, plain id value, st, refl), part-is-value k (plain id value) p st)

  -- "an empty value is told apart from an absent one": it is a part, which ends where it begins.
  pub empty-is-found : (k : ℕ) (f : Field) (p : Span) → Stands s k f p → field_value f ≡ []
      → (field_answer (field_id f) s ≡ Ok (Some p)) × (p.from ≡ p.to)
  unfolding StandsBy Stands
  empty-is-found k f p st e =
      let (m, before, behind, front, is, q, n, w, from, to) = st in
      ((field-exactly (field_id f) p).1 (k, f, st, refl), omega (arith, length-append front (field_value f), ap length e))

  -- "For plain bodies every id is absent."
  pub plain-has-none : (m : Message) (w : List ℕ) → Is s m → m.body ≡ bytes w → (id : ℕ) → field_answer id s ≡ Ok None
  unfolding Lacks body_fields
  plain-has-none m w is q id = (absent-exactly id).1 (m, is, λ f k. in-none (rw q at k))

  -- ---- where a part lies

  module _ (id : ℕ) (p : Span) (e : field_answer id s ≡ Ok (Some p)) where
    stands : StandsBy s id p
    stands = (field-exactly id p).0 e

    -- It lies within the body, behind an id at least.
    pub inside-body : (t : Outline) → read_answer s ≡ Ok t → (t.start < p.from) × (p.from ≤ p.to) × (p.to ≤ t.start + t.length)
    unfolding outline_of
    inside-body t h =
        let (m, read, outline) = (read-gives s t).0 h in
        let is = (found.stands_read s b m).1 read in
        let k = found.in_body s b m id p is stands in
        rw (← outline) (k.0, k.1, omega (arith, k.2, message-size m, ap length is.0))

    -- The password is no field: it lies before every part, and no part is at the message's start.
    pub behind-password : (ids : List ℕ) → (0 < p.from) × ((q : Span) → (places_answer ids s).password ≡ Some q → q.to < p.from)
    unfolding places_answer
    behind-password ids = found.behind-password s b id p stands

    -- Two questions about one message give parts that do not overlap: an id stands between them at least.
    pub parts-apart : (other : ℕ) (q : Span) → (id ≡ other → ⊥) → field_answer other s ≡ Ok (Some q)
        → (p.to < q.from) ⊎ (q.to < p.from)
    parts-apart other q n h = found.apart s b id other p q n stands ((field-exactly other q).0 h)

    -- One who walked the list by hand "took bytes from inside a container": no part lies there but the container's own.
    pub never-inside-container : (c : Span) → (id ≡ 0x06 → ⊥) → field_answer 0x06 s ≡ Ok (Some c)
        → (p.to < c.from) ⊎ (c.to < p.from)
    never-inside-container c n h = parts-apart 0x06 c n h

  -- ---- the bytes themselves

  -- What is handed back is that part of the message; where the field is absent or the message refused, the bytes lent for that case. It is a
  -- part of the one or all of the other, and lies there.
  pub handed-back : (id : ℕ) (other value : List ℕ) (p q r : ℕ × ℕ)
      → Handed s p other q id value r ↔ ((value ≡ handed_bytes s other (field_answer id s)) × (r ≡ handed_place p q (field_answer id s)))
  handed-back = found.handed-exactly s b

  -- ---- several at once

  -- Each of them is placed where it stands,
  module _ (ids : List ℕ) (j : ℕ) (h : j < length ids) where
    pub place_found : (p : Span) → StandsBy s (get_or ids j 0) p → get_or (places_answer ids s).fields j None ≡ Some p
    unfolding span_of
    place_found p st = heard.place-named ids s j h ∙ ap span_of ((found.value-exactly s b (get_or ids j 0) p).1 st)

    -- and has no place exactly where none stands.
    pub no-place-found : (get_or (places_answer ids s).fields j None ≡ None) ↔ ((p : Span) → StandsBy s (get_or ids j 0) p → ⊥)
    no-place-found = rw (heard.place-named ids s j h) (heard.nowhere-exactly (get_or ids j 0) s b)

  -- The password is placed where it lies, at the start of the body, and has no place if it is empty,
  pub password-found : (ids : List ℕ) (m : Message) (password : List ℕ) (fs : List Field) → Is s m → m.body ≡ listed password fs
      → (password ≡ [] → (places_answer ids s).password ≡ None)
      × ((password ≡ [] → ⊥)
      → (p : Span) × ((places_answer ids s).password ≡ Some p) × (part p.from p.to s ≡ password) × (p.from ≡ header_size m.long))
  password-found ids m password fs is q = heard.password-place ids s m password fs b is q

  -- and has no place exactly where the message has none.
  pub no-password-found : (ids : List ℕ)
      → ((places_answer ids s).password ≡ None)
      ↔ ((m : Message) (password : List ℕ) (fs : List Field) → Is s m → m.body ≡ listed password fs → password ≡ [])
  no-password-found ids = heard.no-password-exactly ids s b

  -- The ids that a lister asks for: number k is that of field number k of the message that s begins with.
  pub ids-found : (k id : ℕ)
      → At (first_ids s) k id ↔ ((front : List ℕ) × (rest : List ℕ) × (s ≡ front ++ rest) × (f : Field) × (p : Span) × Stands front k f p × (field_id f ≡ id))
  ids-found = id-found s b
