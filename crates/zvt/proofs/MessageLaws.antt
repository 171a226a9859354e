-- What is read of a message, by the header and the tally of the body. Assumes nothing.
use mathlib.Core.Path.{◌≡◌, refl, sym, ap, ◌∙◌}
use mathlib.Core.Bool.{Bool, true, false, not, ◌||◌, and_comm}
use mathlib.Core.List.{List, [], ◌∷◌}
use Prim.Native.Nat.{ℕ, ◌+◌}
use native.Mathlib.Omega.{arith}
use lib.ListN.{length, replicate}
use lib.Dec.{leb, eqb}
use borrow.Author.Tests.{eq-eqb, ne_eqb}
use Rattle.std.proofs.Common.{Err, Ok, None}
use Rattle.basics.proofs.Tests.{never}
use Rattle.zvt_rules.specs.declared.Refusal.{Refusal}
use Rattle.zvt_rules.specs.declared.Layout.{Layout}
use Rattle.basics.specs.Lists.{part}
use Rattle.zvt_rules.specs.Reading.{Reading, got, refused, and_then}
use Rattle.zvt_rules.specs.Message.{Heading, header_size, start, end, layout_of, Body, body_of, Message, message_of, header_of, count_of}
use Rattle.zvt_rules.specs.believed.Writing.{body_bytes, message_bytes}
use Rattle.zvt_rules.specs.Shortest.{is_short_body, is_short}
use Rattle.basics.specs.believed.Lists.{Bytes}
use Rattle.zvt_rules.specs.believed.Grammar.{LayoutOk}
use Rattle.zvt_rules.proofs.Readings.{then-on, then-stop}
use Rattle.zvt_rules.proofs.ObjectReading.{part_length}
use Rattle.zvt_rules.proofs.ObjectBytes.{bytes-part}
use Rattle.zvt_rules.proofs.FieldReading.{header-in}
use Rattle.zvt_rules.proofs.MessageBytes.{body-sound, message-size}
use Rattle.zvt_rules.proofs.MessageShort.{body-shorter, body-exactly}
use Rattle.zvt_rules.specs.declared.Places.{Places}
use Rattle.zvt_rules.specs.Listed.{listed_message, named_listed, asked_of, span_of, spans_of, password_in, password_span}
use Rattle.zvt_rules.specs.declared.Header.{Header}
use Rattle.zvt.specs.declared.objects.Tally.{Tally}
use Rattle.zvt_rules.specs.Answers.{header_in, outline_of}
use Rattle.zvt.specs.HeaderSteps.{in_code}
use Rattle.zvt.proofs.BodyLaws.{BodyLies}
use Rattle.zvt.specs.FieldSteps.{spans_in}
use Rattle.zvt.specs.BodySteps.{spare_body, body_tally, body_answer, body_in, described, no_places, places_in}
use Rattle.zvt.proofs.HeaderLaws.{as-got, as-stopped}
use Rattle.zvt.proofs.RunLaws.{part-got, part-stopped}

-- ---- whether every length was shortest
-- a body takes no byte fewer exactly where it is shortest
spare-short : (l : Layout) (b : Body) → LayoutOk l b → eqb (spare_body b) 0 ≡ is_short_body b
unfolding spare_body
spare-short l b ok = go (is_short_body b) refl
  where
    go : (t : Bool) → is_short_body b ≡ t → eqb (spare_body b) 0 ≡ t
    go true f = eq-eqb (spare_body b) 0 (omega (arith, (body-exactly l b ok).1 f))
    go false f =
        ne_eqb (spare_body b) 0 λ n.
        let s : is_short_body b ≡ true = (body-exactly l b ok).0 (omega (arith, body-shorter l b ok)) in
        never cc

starts-at : (long : Bool) → eqb (header_size long) 3 ≡ not long
starts-at true = refl
starts-at false = refl

-- ---- where password and fields lie, by what is read
abbrev pub places_by : List ℕ → Reading Message → Places
places_by ids x = record { password = password_span x; fields = spans_of x ids }

spans-asked : (m : Message) (ids : List ℕ) → spans_in (listed_message (got m)) ids ≡ spans_of (got m) ids
unfolding spans_in spans_of asked_of span_of
spans-asked m [] = refl
spans-asked m (id ∷ ids) = ap (λ xs. named_listed id (listed_message (got m)) ∷ xs) (spans-asked m ids)

none-asked : (ids : List ℕ) (r : Refusal) → spans_of (refused r) ids ≡ replicate (length ids) None
unfolding spans_of asked_of span_of
none-asked [] r = refl
none-asked (id ∷ ids) r = ap (λ xs. None ∷ xs) (none-asked ids r)

pub no-places : (ids : List ℕ) (r : Refusal) → length ids ≡ 4 → places_by ids (refused r) ≡ no_places
unfolding password_span
no-places ids r h = rw (none-asked ids r, h)

-- ---- the message of a header
module _ (s : List ℕ) (m : Heading) where
  abbrev inside : List ℕ
  inside = part (start m) (end m) s

  abbrev layout : Layout
  layout = layout_of m.class m.instruction

  message-stopped : (r : Refusal) → body_in (header_in m) s ≡ Err r → message_of s m ≡ refused r
  unfolding body_in header_in body_answer message_of
  message-stopped r e = then-stop _ r (part-stopped (body_tally inside) (body_of (start m) inside layout) r e)

  -- where password and fields were found in the body, they lie in the message
  abbrev Lies : Message → Type 0
  Lies w = (ids : List ℕ) (places : Places) → BodyLies ids (header_in m) s places → places ≡ places_by ids (got w)

  abbrev Described : Tally → Type 0
  Described t =
      (w : Message) × (message_of s m ≡ got w) × (outline_of w ≡ described (header_in m) t) × (length (message_bytes w) ≡ end m) × Lies w

  module _ (bs : Bytes s) (e : header_of s ≡ got m) where
    body-described : (b : Body) → body_of (start m) inside layout ≡ got b → Described (body_tally inside b)
    unfolding message_of outline_of described header_in body_tally count_of is_short places_in password_span listed_message
    body-described b f =
        let w : Message = record { class = m.class; instruction = m.instruction; long = m.long; body = b } in
        let g = body-sound (start m) inside layout b (bytes-part (start m) (end m) s bs) f in
        let there = part_length s (start m) (end m) (omega arith) (header-in s m e).1 in
        let size : length (body_bytes b) ≡ m.size = omega (arith, ap length g.0) in
        let short = spare-short layout b g.1 in
        let at = starts-at m.long in
        let swap = and_comm (not m.long || leb 255 m.size) (is_short_body b) in (
          w,
          then-on _ b f,
          rw (size, short, at, swap),
          omega (arith, message-size w),
          λ ids places reads.
              reads b f ∙ ap (λ xs. record { password = password_in (start m) b; fields = xs }) (spans-asked w ids),
        )

    message-read : (t : Tally) → body_in (header_in m) s ≡ Ok t → Described t
    unfolding body_in header_in body_answer
    message-read t f = part-got (body_tally inside) (body_of (start m) inside layout) Described body-described t f

-- ---- the message behind a header that x reads: the one that s is, or the one that s begins with
module _ (s : List ℕ) (x : Reading Heading) where
  abbrev behind : Reading Message
  behind = and_then x λ m. message_of s m

  pub no_header : (r : Refusal) → in_code x ≡ Err r → behind ≡ refused r
  no_header r e = then-stop _ r (as-stopped x r e)

  module _ (h : Header) (e : in_code x ≡ Ok h) where
    pub no_body : (r : Refusal) → body_in h s ≡ Err r → behind ≡ refused r
    no_body r f = let g = as-got x h e in then-on _ g.0 g.1 ∙ message-stopped s g.0 r (rw g.2 f)

    pub accepted : ((m : Heading) → x ≡ got m → header_of s ≡ got m) → Bytes s → (t : Tally) → body_in h s ≡ Ok t
        → (w : Message) × (behind ≡ got w) × (outline_of w ≡ described h t) × (length (message_bytes w) ≡ h.start + h.length)
        × ((ids : List ℕ) (places : Places) → BodyLies ids h s places → places ≡ places_by ids (got w))
    unfolding header_in
    accepted first bs t f =
        let g = as-got x h e in
        let d = message-read s g.0 bs (first g.0 g.1) t (rw g.2 f) in (
          d.0,
          then-on _ g.0 g.1 ∙ d.1,
          d.2 ∙ ap (λ (k : Header). described k t) g.2,
          d.3 ∙ ap (λ (k : Header). k.start + k.length) g.2,
          λ ids places b. d.4 ids places (rw (sym g.2) at b),
        )
