-- The card name: the definition and the second writing agree. Assumes nothing.
use mathlib.Core.Path.{◌≡◌, refl, sym, ap, ap₂, ◌∙◌}
use mathlib.Core.Bool.{true}
use mathlib.Core.Logic.{◌↔◌, ◌⊎◌, inl, inr, ⊎_elim}
use mathlib.Core.List.{List, [], ◌∷◌, ◌++◌, append-nil, append_assoc}
use Prim.Native.Nat.{ℕ, zero, suc, ◌+◌, ◌-◌, ◌<◌}
use native.Mathlib.Omega.{arith}
use lib.ListN.{length, get_or}
use lib.Seq.{take-append_seam, drop-append_seam}
use lib.Dec.{eqb}
use borrow.Author.Tests.{eqb-true, eqb-false, ne_eqb}
use Rattle.std.proofs.Common.{Err, None, Ok, Option, Result, Some}
use Rattle.zvt_rules.specs.declared.Span.{Span}
use Rattle.zvt_rules.specs.declared.Refusal.{Refusal}
use Rattle.basics.specs.Lists.{part}
use Rattle.zvt_rules.specs.Reading.{Reading, got, refused}
use Rattle.zvt_rules.specs.Fields.{Field, field_id}
use Rattle.zvt_rules.specs.Message.{Message, read_of}
use Rattle.zvt_rules.specs.believed.Writing.{list_bytes, body_bytes, length_bytes, message_bytes, field_value}
use Rattle.basics.specs.believed.Lists.{Bytes}
use Rattle.zvt_rules.specs.Values.{is_status}
use Rattle.zvt_rules.specs.Listed.{asked_of, field_answer}
use Rattle.zvt_rules.specs.Name.{up_to_zero, NameAt, own, between, sized_name, name_in, name_of, name_at, name_bytes, card_name, name_place}
use Rattle.zvt_rules.specs.believed.Found.{Stands, StandsBy}
use Rattle.zvt_rules.specs.believed.Names.{UpToZero, Holds, Shown}
use Rattle.basics.proofs.Tests.{by-test, pick-test, eqb-test, and-test, never}
use Rattle.zvt_rules.proofs.Found.{value-exactly, found_part, stands_read}

-- ---- up to a zero byte
abbrev NoZero : List ℕ → Type 0
NoZero w = (i : ℕ) → i < length w → get_or w i 0 ≡ 0 → ⊥

stops : (w rest : List ℕ) → NoZero w → up_to_zero (w ++ (0 ∷ rest)) ≡ w
unfolding up_to_zero
stops [] rest n = refl
stops (b ∷ w) rest n = rw (ne_eqb b 0 (n 0 (omega arith))) (ap (λ (u : List ℕ). b ∷ u) (stops w rest (λ i h. n (suc i) (omega arith))))

goes : (w : List ℕ) → NoZero w → up_to_zero w ≡ w
unfolding up_to_zero
goes [] n = refl
goes (b ∷ w) n = rw (ne_eqb b 0 (n 0 (omega arith))) (ap (λ (u : List ℕ). b ∷ u) (goes w (λ i h. n (suc i) (omega arith))))

no-zero-cons : (b : ℕ) (w : List ℕ) → (b ≡ 0 → ⊥) → NoZero w → NoZero (b ∷ w)
no-zero-cons b w h n zero l = h
no-zero-cons b w h n (suc i) l = n i (omega arith)

up_to : (v : List ℕ) → UpToZero v (up_to_zero v)
unfolding UpToZero up_to_zero
up_to [] = (λ i h. absurd (omega arith), inl refl)
up_to (b ∷ v) =
    let (n, w) = up_to v in
    pick-test (UpToZero (b ∷ v)) (eqb b 0) (λ t. (λ i h. absurd (omega arith), inr (v, ap (λ (x : ℕ). x ∷ v) (eqb-true b 0 t))))
    (λ t. (
      no-zero-cons b (up_to_zero v) (eqb-false b 0 t) n,
      ⊎_elim (λ e. inl (ap (λ (u : List ℕ). b ∷ u) e)) (λ (rest, e). inr (rest, ap (λ (u : List ℕ). b ∷ u) e)) w,
    ))

pub up-to-exactly : (v w : List ℕ) → UpToZero v w ↔ (w ≡ up_to_zero v)
unfolding UpToZero
up-to-exactly v w = (
  λ (n, k). ⊎_elim (λ e. rw e (sym (goes w n))) (λ (rest, e). rw e (sym (stops w rest n))) k,
  λ e. rw e (up_to v),
)

-- ---- where a card name begins that a message holds
-- a name stands in the message as it is
name-stands : (front value behind name : List ℕ) → UpToZero value name
    → part (length front) (length front + length name) (front ++ (value ++ behind)) ≡ name
unfolding UpToZero
name-stands front value behind name (n, k) =
    let (tail, e) = split k in
    let size : length front + length name - length front ≡ length name = omega arith in
    rw (size, drop-append_seam front (value ++ behind), e, append_assoc name tail behind) (take-append_seam name (tail ++ behind))
  where
    split : (value ≡ name) ⊎ ((rest : List ℕ) × (value ≡ name ++ (0 ∷ rest))) → (tail : List ℕ) × (value ≡ name ++ tail)
    split (inl e) = ([], e ∙ sym (append-nil name))
    split (inr (rest, e)) = (0 ∷ rest, e)

sized-at : (x k a e : ℕ) → sized_name x k ≡ between a e → (0 < k) × (x ≡ a) × (x + k ≡ e)
unfolding sized_name
sized-at x k a e h =
    by-test (eqb k 0) (λ t. never (cc (rw t at h)))
    (λ t. let n = eqb-false k 0 t in (omega arith, cc (rw t at h), cc (rw t at h)))

not_own : {a e : ℕ} → own ≡ between a e → ⊥
not_own h = never cc

module _ (s : List ℕ) (b : Bytes s) where
  holds_at : (name : List ℕ) (from : ℕ) → Holds s name from
      → (name_at s ≡ between from (from + length name)) × (part from (from + length name) s ≡ name)
  unfolding Holds Stands StandsBy message_bytes name_at name_of name_in sized_name field_answer
  holds_at name from (rest, k, f, l, pair, st, i, a, up, some) =
      let (m, before, behind, front, is, q, n, w, x, y) = st in
      let read = (stands_read s b m).0 is in
      let class : m.class ≡ 0x04 = cc (is.0, pair) in
      let instruction : m.instruction ≡ 0x0F = cc (is.0, pair) in
      let found = rw read at ((value-exactly s b 0x8B l).1 (k, f, st, i)) in
      let u = (up-to-exactly (field_value f) name).0 up in
      let begins : length front ≡ from = sym x ∙ a in (
        rw (read, found, class, instruction, found_part s b k f l st, ← u, ne_eqb (length name) 0 (λ e. omega arith), a),
        rw (w, ← begins) (name-stands front (field_value f) (list_bytes behind) name up),
      )

  holds-found : (m : Message) (a e : ℕ) → read_of s ≡ got m → is_status m ≡ true → (x : Result (Option Span) Refusal) → asked_of 0x8B (got m) ≡ x
      → name_in s x ≡ between a e → (name : List ℕ) × Holds s name a × (a + length name ≡ e)
  unfolding name_in Holds StandsBy message_bytes field_answer
  holds-found m a e r t (Ok None) q h = absurd (not_own h)
  holds-found m a e r t (Err f) q h = absurd (not_own h)
  holds-found m a e r t (Ok (Some l)) q h =
      let (k, f, st, i) = (value-exactly s b 0x8B l).0 (rw r q) in
      let name = up_to_zero (field_value f) in
      let (some, from, to) = sized-at l.from (length name) a e (rw (found_part s b k f l st) at h) in
      let is = (stands_read s b m).1 r in
      let (class, instruction) = (and-test (eqb-test m.class 0x04) (eqb-test m.instruction 0x0F)).0 t in
      let rest = length_bytes m.long (length (body_bytes m.body)) ++ body_bytes m.body in
      (name, (rest, k, f, l, sym is.0 ∙ ap₂ (λ (c i : ℕ). c ∷ (i ∷ rest)) class instruction, st, i, from, up_to (field_value f), some), rw (← from) to)

  at-holds : (a e : ℕ) → name_at s ≡ between a e → (name : List ℕ) × Holds s name a × (a + length name ≡ e)
  unfolding name_at name_of
  at-holds a e h = by-reading (read_of s) refl h
    where
      by-reading : (x : Reading Message) → read_of s ≡ x → name_of s x ≡ between a e → (name : List ℕ) × Holds s name a × (a + length name ≡ e)
      by-reading (refused f) r h = never cc
      by-reading (got m) r h =
          by-test (is_status m) (λ t. holds-found m a e r t (asked_of 0x8B (got m)) refl (rw t at h))
          (λ t. never (cc (rw t at h)))

  -- The name that is answered, and where it lies, are what is shown, and nothing else is: M13 to M15.
  pub shown-exactly : (till name : List ℕ) (p q r : ℕ × ℕ)
      → Shown s p till q name r ↔ ((name ≡ card_name s till) × (r ≡ name_place p q (name_at s)))
  unfolding Shown card_name name_bytes name_place
  shown-exactly till name p q r = (⊎_elim held (λ (n, e, d). free n e d (name_at s) refl), λ (e, d). shown (name_at s) refl e d)
    where
      held : ((from : ℕ) × Holds s name from × (r ≡ (p.0, from + p.1))) → (name ≡ card_name s till) × (r ≡ name_place p q (name_at s))
      held (from, h, e) = let (at, stands) = holds_at name from h in rw at (sym stands, e)

      free : ((n : List ℕ) (from : ℕ) → Holds s n from → ⊥) → name ≡ till → r ≡ q → (x : NameAt) → name_at s ≡ x
          → (name ≡ card_name s till) × (r ≡ name_place p q (name_at s))
      free n e d own at = rw at (e, d)
      free n e d (between a z) at = let (w, h, x) = at-holds a z at in absurd (n w a h)

      shown : (x : NameAt) → name_at s ≡ x → name ≡ name_bytes s till (name_at s) → r ≡ name_place p q (name_at s) → Shown s p till q name r
      shown own at e d = inr (λ n from h. not_own (sym at ∙ (holds_at n from h).0), rw at at e, rw at at d)
      shown (between a z) at e d =
          let (w, h, x) = at-holds a z at in
          let same : name ≡ w = (rw at at e) ∙ ap (λ (y : ℕ). part a y s) (sym x) ∙ (holds_at w a h).1 in
          inl (a, rw same h, rw at at d)

  -- Where the name is a part of the message, it is not empty.
  pub part-not-empty : (a e : ℕ) → name_at s ≡ between a e → a < e
  unfolding Holds
  part-not-empty a e h = let (name, k, x) = at-holds a e h in omega (arith, k.9)

  -- Where field 8B has an empty name, the answer is the till's own.
  pub empty-own : (k : ℕ) (f : Field) (l : Span) → Stands s k f l → field_id f ≡ 0x8B → UpToZero (field_value f) [] → name_at s ≡ own
  unfolding Holds StandsBy
  empty-own k f l st i empty = go (name_at s) refl
    where
      go : (x : NameAt) → name_at s ≡ x → name_at s ≡ own
      go own e = e
      go (between a z) e =
          let (name, (rest, k', f', l', pair, st', i', from, up, some), x) = at-holds a z e in
          let same : l ≡ l' = cc ((value-exactly s b 0x8B l).1 (k, f, st, i), (value-exactly s b 0x8B l').1 (k', f', st', i')) in
          let value : field_value f ≡ field_value f' = sym (found_part s b k f l st) ∙ ap (λ (y : Span). part y.from y.to s) same ∙ found_part s b k' f' l' st' in
          let none : [] ≡ name = (up-to-exactly (field_value f) []).0 empty ∙ ap up_to_zero value ∙ sym ((up-to-exactly (field_value f') name).0 up) in
          absurd (omega (arith, ap length none))
