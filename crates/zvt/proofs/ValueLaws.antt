-- The values of a status information, each by where it lies: as many bytes as its field has, and digits where digits must be. Assumes
-- nothing.
use mathlib.Core.Path.{◌≡◌, refl, sym, ap, ◌∙◌}
use mathlib.Core.Bool.{Bool, true, false}
use mathlib.Core.List.{List, [], ◌∷◌}
use Prim.Native.Nat.{ℕ, ◌+◌, ◌<◌}
use native.Mathlib.Omega.{arith}
use lib.ListN.{length}
use lib.Dec.{eqb}
use Rattle.std.proofs.Common.{Err, None, Ok, Option, Result, Some}
use Rattle.std.specs.List.{starts_with}
use Rattle.zvt_rules.specs.declared.Format.TheVariants.{Fixed, Container}
use Rattle.zvt_rules.specs.declared.Span.{Span}
use Rattle.zvt_rules.specs.declared.Refusal.{Refusal}
use Rattle.basics.specs.Lists.{part, among}
use Rattle.zvt_rules.specs.Reading.{Reading, got, refused}
use Rattle.zvt_rules.specs.Fields.{format_of, holds_digits, Field, plain, container, field_id}
use Rattle.zvt_rules.specs.Message.{layout_of, Body, bytes, listed, Message, read_of}
use Rattle.zvt_rules.specs.Listed.{field_answer, span_of}
use Rattle.zvt_rules.specs.Values.{Found, missing, found, value_in, code_of, amount_of, receipt_of, code_in, amount_in, receipt_in, status_in, is_status, body_fields, status_fields, status_of}
use Rattle.zvt_rules.specs.believed.Writing.{message_bytes, field_value}
use Rattle.basics.specs.believed.Lists.{Bytes, In}
use Rattle.zvt_rules.specs.believed.Grammar.{Decimals, SizeOk, FieldOk, ListOk, FieldsOk, LayoutOk, MessageOk}
use Rattle.zvt_rules.specs.believed.Found.{Stands, StandsBy, Lacks}
use Rattle.basics.proofs.Tests.{never}
use Rattle.zvt_rules.proofs.Readings.{got_same, got-not-refused}
use Rattle.zvt_rules.proofs.ObjectReading.{part_length}
use Rattle.zvt_rules.proofs.MessageBytes.{read-sound}
use Rattle.zvt_rules.proofs.MessageShort.{fields-ok}
use Rattle.zvt_rules.proofs.StatusLaws.{missing-exactly, field_in, value-in}
use Rattle.zvt_rules.proofs.Found.{stands_read, value-exactly, absent-exactly, refused-exactly, found_part}
use Rattle.zvt.specs.ValueSteps.{Sized, value_at, status_pair}
use Rattle.zvt.proofs.AskingLaws.{value-lies}

-- ---- a value by its place
-- of a field of a fixed size
abbrev pub Placed : ℕ → Option Span → List ℕ → Found → Bool → Type 0
Placed k place s v digits =
    Sized k place s × (value_at place s ≡ v) × (digits ≡ true → (p : Span) → place ≡ Some p → Decimals (part p.from p.to s))

-- a field of bytes in a fixed number is no container
fixed_plain : (id k : ℕ) → format_of id ≡ Fixed k → id ≡ 0x06 → ⊥
unfolding format_of among
fixed_plain id k f e = let q : Container ≡ Fixed k = rw e at f in never cc

holds : (f : Field) (id k : ℕ) → format_of id ≡ Fixed k → FieldOk f → field_id f ≡ id → (length (field_value f) ≡ k) × (holds_digits id ≡ true → Decimals (field_value f))
unfolding FieldOk SizeOk field_id field_value
holds (plain i value) id k e ok q = let h = rw (q, e) at ok.0 in (h, rw q at ok.1)
holds (container form os) id k e ok q = absurd (fixed_plain id k e (sym q))

-- the fields of an accepted message keep the limits
fields_fit : (m : Message) → MessageOk m → ListOk [] (body_fields m.body)
unfolding MessageOk FieldsOk ListOk body_fields
fields_fit m ok = go m.body ok.0
  where
    go : (x : Body) → LayoutOk (layout_of m.class m.instruction) x → ListOk [] (body_fields x)
    go (bytes w) l = tt
    go (listed password fs) l = (fields-ok (layout_of m.class m.instruction) password fs l).0

-- nothing lies where there is no such field
nowhere-at : (k : ℕ) (s : List ℕ) (v : Found) (digits : Bool) → v ≡ missing → Placed k None s v digits
nowhere-at k s v digits e = (λ p q. never cc, sym e, λ t p q. never cc)

value-at : (s : List ℕ) (m : Message) → Bytes s → read_of s ≡ got m → (id k : ℕ) → format_of id ≡ Fixed k → 0 < k
    → Placed k (span_of (field_answer id s)) s (value_in id (body_fields m.body)) (holds_digits id)
unfolding span_of Lacks StandsBy Stands
value-at s m b e id k f n = go (field_answer id s) refl
  where
    same : (x : Message) → read_of s ≡ got x → body_fields x.body ≡ body_fields m.body
    same x q = ap (λ (y : Message). body_fields y.body) (got_same (sym q ∙ e))

    go : (x : Result (Option Span) Refusal) → field_answer id s ≡ x → Placed k (span_of x) s (value_in id (body_fields m.body)) (holds_digits id)
    go (Ok None) q =
        let (x, is, none) = (absent-exactly s b id).0 q in
        nowhere-at k s _ _ ((missing-exactly id (body_fields m.body)).1 (rw (same x ((stands_read s b x).0 is)) at none))
    go (Err r) q = absurd (got-not-refused (sym e ∙ (refused-exactly s b id r).0 q))
    go (Ok (Some p)) q =
        let (j, g, st, i) = (value-exactly s b id p).0 q in
        let fs = body_fields m.body in
        let there : In g fs = (st.1, st.2, sym (same st.0 ((stands_read s b st.0).0 st.4)) ∙ st.5) in
        let ok = fields_fit m (read-sound s m b e).1 in
        let h = holds g id k f (field_in [] fs g ok there) i in
        let value = found_part s b j g p st in
        let w = value-lies s b id p q in
        let size : p.to ≡ p.from + k = omega (arith, w.0, part_length s p.from p.to w.0 w.1, ap length value, h.0) in (
          λ q e. let same : p ≡ q = cc in rw (← same) (w.1, size),
          ap found value ∙ sym (rw i at (value-in [] fs g ok there)),
          λ t q e. let same : p ≡ q = cc in rw (← same, value) (h.1 t),
        )

-- ---- of a status information
-- its pair stands at the start of the message
pub pair-starts : (s : List ℕ) → starts_with eqb s (0x04 ∷ (0x0F ∷ [])) ≡ status_pair s
unfolding status_pair
pair-starts [] = refl
pair-starts (b ∷ []) = grind arith
pair-starts (b ∷ (c ∷ s)) = grind arith

pub pair-is : (s : List ℕ) (m : Message) → Bytes s → read_of s ≡ got m → is_status m ≡ status_pair s
unfolding status_pair message_bytes
pair-is s m b e = rw (← (read-sound s m b e).0)

module _ (s : List ℕ) (b : Bytes s) where
  pub told_at : status_pair s ≡ true → (id k : ℕ) → format_of id ≡ Fixed k → 0 < k
      → Placed k (span_of (field_answer id s)) s (value_in id (status_fields (read_of s))) (holds_digits id)
  unfolding status_fields value_in span_of
  told_at t id k f n = go (read_of s) refl
    where
      go : (x : Reading Message) → read_of s ≡ x → Placed k (span_of (field_answer id s)) s (value_in id (status_fields x)) (holds_digits id)
      go (got m) e = rw (pair-is s m b e ∙ t) (value-at s m b e id k f n)
      go (refused r) e = rw ((refused-exactly s b id r).1 e) (nowhere-at k s missing _ refl)

  -- of anything else nothing is told
  pub nothing-told : status_pair s ≡ false → record { code = None; amount = None; receipt = None } ≡ status_of s
  unfolding status_of status_fields status_in code_in amount_in receipt_in value_in code_of amount_of receipt_of
  nothing-told t = go (read_of s) refl
    where
      go : (x : Reading Message) → read_of s ≡ x → record { code = None; amount = None; receipt = None } ≡ status_in (status_fields x)
      go (got m) e = rw (pair-is s m b e ∙ t)
      go (refused r) e = refl
