-- What a desk and a tape ask of a message, by the answers that are stated already and by the bytes. Assumes nothing.
use mathlib.Core.Path.{◌≡◌, refl, sym, ap, ◌∙◌}
use mathlib.Core.Bool.{Bool, true, false}
use mathlib.Core.Logic.{◌↔◌}
use mathlib.Core.List.{List, [], ◌∷◌, ◌++◌}
use Prim.Native.Nat.{ℕ, zero, suc, ◌+◌, ◌-◌, ◌<◌}
use native.Mathlib.Omega.{arith}
use lib.ListN.{length, get_or, drop}
use lib.Seq.{take-append_seam}
use Rattle.std.proofs.Common.{Err, None, Ok, Option, Result, Some}
use Rattle.basics.proofs.Tests.{never}
use Rattle.zvt_rules.specs.declared.Refusal.{Refusal}
use Rattle.zvt_rules.specs.declared.Span.{Span}
use Rattle.zvt_rules.specs.declared.ToldBody.{ToldBody}
use Rattle.zvt_rules.specs.declared.Header.{Header}
use Rattle.zvt_rules.specs.declared.Heard.{Heard}
use Rattle.basics.specs.Lists.{part}
use Rattle.zvt_rules.specs.Reading.{Reading, got, refused}
use Rattle.zvt_rules.specs.Fields.{Field}
use Rattle.zvt_rules.specs.Message.{Heading, header_size, whole_header, Body, bytes, listed, Message, read_of}
use Rattle.zvt_rules.specs.believed.Writing.{list_bytes, body_bytes, length_bytes, message_bytes}
use Rattle.basics.specs.believed.Lists.{Bytes}
use Rattle.zvt_rules.specs.believed.Values.{Is}
use Rattle.zvt_rules.specs.Values.{status_in, status_fields, status_of}
use Rattle.zvt_rules.specs.Answers.{header_in, as_header_answer, header_answer, as_read_answer, read_answer}
use Rattle.zvt_rules.specs.Listed.{asked_of, field_answer, span_of, spans_of, password_in, password_span, places_answer}
use Rattle.zvt_rules.specs.Heard.{first_byte, told_in, told_answer, as_hear_answer, hear_answer}
use Rattle.zvt_rules.proofs.Readings.{got_same, got-not-refused}
use Rattle.zvt_rules.specs.believed.Found.{StandsBy}
use Rattle.zvt_rules.proofs.Found.{stands_read, value-exactly}

-- ---- what a desk asks: the header as it is answered alone
unfoldable pub heard_by : Result ToldBody Refusal → Result Header Refusal → Result Heard Refusal
heard_by told (Ok h) = Ok (record { class = h.class; instruction = h.instruction; start = h.start; length = h.length; told = told })
heard_by told (Err r) = Err r

pub header-heard : (s : List ℕ) → hear_answer s ≡ heard_by (told_answer (read_of s)) (header_answer s)
unfolding hear_answer as_hear_answer heard_by header_answer as_header_answer header_in
header-heard s = go (whole_header s)
  where
    go : (x : Reading Heading) → as_hear_answer (read_of s) x ≡ heard_by (told_answer (read_of s)) (as_header_answer x)
    go (got h) = refl
    go (refused f) = refl

-- and of the body its refusal, its status, and the first byte of plain bytes
pub body-refused-exactly : (s : List ℕ) (r : Refusal) → (told_answer (read_of s) ≡ Err r) ↔ (read_answer s ≡ Err r)
unfolding told_answer read_answer as_read_answer
body-refused-exactly s r = go (read_of s)
  where
    go : (x : Reading Message) → (told_answer x ≡ Err r) ↔ (as_read_answer x ≡ Err r)
    go (got m) = (λ e. never cc, λ e. never cc)
    go (refused f) = (λ e. cc, λ e. cc)

told-by : (s : List ℕ) (t : ToldBody) → told_answer (read_of s) ≡ Ok t → (m : Message) × (read_of s ≡ got m) × (told_in m ≡ t)
unfolding told_answer
told-by s t e = go (read_of s) refl e
  where
    go : (x : Reading Message) → read_of s ≡ x → told_answer x ≡ Ok t → (m : Message) × (read_of s ≡ got m) × (told_in m ≡ t)
    go (got m) q h = (m, q, cc)
    go (refused f) q h = never cc

begins : (x : Body) (c : ℕ) → first_byte x ≡ Some c → (w : List ℕ) × (x ≡ bytes (c ∷ w))
unfolding first_byte
begins (bytes []) c e = never cc
begins (bytes (b ∷ w)) c e = (w, cc)
begins (listed password fs) c e = never cc

module _ (s : List ℕ) (t : ToldBody) (e : told_answer (read_of s) ≡ Ok t) where
  pub status-heard : t.status ≡ status_of s
  unfolding told_in status_of
  status-heard =
      let (m, q, k) = told-by s t e in
      sym (ap (λ (x : ToldBody). x.status) k) ∙ ap (λ (x : Reading Message). status_in (status_fields x)) (sym q)

  pub first-heard : Bytes s → (c : ℕ) → (t.first ≡ Some c) ↔ ((m : Message) × (w : List ℕ) × Is s m × (m.body ≡ bytes (c ∷ w)))
  unfolding told_in first_byte told_answer
  first-heard b c = (
    λ h.
        let (m, q, k) = told-by s t e in
        let (w, f) = begins m.body c (ap (λ (x : ToldBody). x.first) k ∙ h) in
        (m, w, (stands_read s b m).1 q, f),
    λ (m, w, is, f).
        let k : told_in m ≡ t = cc (ap told_answer ((stands_read s b m).0 is), e) in
        sym (ap (λ (x : ToldBody). x.first) k) ∙ ap first_byte f,
  )

-- ---- what a tape asks: each place is that of the field with its id, and the password lies at its own
named-spans : (r : Reading Message) (ids : List ℕ) (j : ℕ) → j < length ids → get_or (spans_of r ids) j None ≡ span_of (asked_of (get_or ids j 0) r)
unfolding spans_of
named-spans r [] j h = absurd (omega arith)
named-spans r (id ∷ ids) zero h = refl
named-spans r (id ∷ ids) (suc j) h = named-spans r ids j (omega arith)

pub place-named : (ids s : List ℕ) (j : ℕ) → j < length ids → get_or (places_answer ids s).fields j None ≡ span_of (field_answer (get_or ids j 0) s)
unfolding places_answer field_answer
place-named ids s = named-spans (read_of s) ids

-- a field has no place exactly where there is no such field
pub nowhere-exactly : (id : ℕ) (s : List ℕ) → Bytes s → (span_of (field_answer id s) ≡ None) ↔ ((p : Span) → StandsBy s id p → ⊥)
unfolding span_of
nowhere-exactly id s b = (
  λ e p st. let there = ap span_of ((value-exactly s b id p).1 st) in never cc,
  λ n. go (field_answer id s) refl n,
)
  where
    go : (x : Result (Option Span) Refusal) → field_answer id s ≡ x → ((p : Span) → StandsBy s id p → ⊥) → span_of (field_answer id s) ≡ None
    go (Ok None) e n = ap span_of e
    go (Ok (Some p)) e n = absurd (n p ((value-exactly s b id p).0 e))
    go (Err r) e n = ap span_of e

password-none : (at : ℕ) (x : Body)
    → (password_in at x ≡ None) ↔ ((password : List ℕ) (fs : List Field) → x ≡ listed password fs → password ≡ [])
unfolding password_in
password-none at (bytes s) = (λ e w fs q. never cc, λ h. refl)
password-none at (listed [] fs) = (λ e w gs q. cc, λ h. refl)
password-none at (listed (b ∷ w) fs) = (
  λ e. never cc,
  λ h. absurd (let q = h (b ∷ w) fs refl in never cc),
)

pub no-password-exactly : (ids s : List ℕ) → Bytes s
    → ((places_answer ids s).password ≡ None)
    ↔ ((m : Message) (password : List ℕ) (fs : List Field) → Is s m → m.body ≡ listed password fs → password ≡ [])
unfolding places_answer password_span
no-password-exactly ids s b = go (read_of s) refl
  where
    go : (x : Reading Message) → read_of s ≡ x
        → (password_span x ≡ None)
        ↔ ((m : Message) (password : List ℕ) (fs : List Field) → Is s m → m.body ≡ listed password fs → password ≡ [])
    go (got m) e = (
      λ q n w fs is f.
          let same : m ≡ n = got_same (sym e ∙ (stands_read s b n).0 is) in
          (password-none (header_size m.long) m.body).0 q w fs (ap (λ (x : Message). x.body) same ∙ f),
      λ h. (password-none (header_size m.long) m.body).1 (λ w fs f. h m w fs ((stands_read s b m).1 e) f),
    )
    go (refused r) e = (λ q n w fs is f. absurd (got-not-refused (sym ((stands_read s b n).0 is) ∙ e)), λ h. refl)

behind : (long : Bool) (c i v : ℕ) (w : List ℕ) → drop (header_size long) (c ∷ (i ∷ (length_bytes long v ++ w))) ≡ w
unfolding length_bytes
behind false c i v w = refl
behind true c i v w = refl

part-there : (at : ℕ) (password rest s : List ℕ) → drop at s ≡ password ++ rest → part at (at + length password) s ≡ password
part-there at password rest s e =
    let size : at + length password - at ≡ length password = omega arith in
    rw (size, e) (take-append_seam password rest)

-- a password lies at the start of the body, and an empty one has no place
pub password-place : (ids s : List ℕ) (m : Message) (password : List ℕ) (fs : List Field) → Bytes s → Is s m → m.body ≡ listed password fs
    → (password ≡ [] → (places_answer ids s).password ≡ None)
    × ((password ≡ [] → ⊥)
    → (p : Span) × ((places_answer ids s).password ≡ Some p) × (part p.from p.to s ≡ password) × (p.from ≡ header_size m.long))
unfolding places_answer password_span password_in message_bytes body_bytes
password-place ids s m [] fs b is q = (λ e. rw ((stands_read s b m).0 is, q) refl, λ n. absurd (n refl))
password-place ids s m (d ∷ password) fs b is q =
    let at = header_size m.long in
    let w : drop at s ≡ (d ∷ password) ++ list_bytes fs = rw (← is.0, q) (behind m.long m.class m.instruction _ ((d ∷ password) ++ list_bytes fs)) in (
      λ e. never cc,
      λ n. (
        record { from = at; to = at + length (d ∷ password) },
        rw ((stands_read s b m).0 is, q),
        part-there at (d ∷ password) (list_bytes fs) s w,
        refl,
      ),
    )
