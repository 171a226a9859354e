-- What the readers of a body answer, case by case. Assumes nothing.
use mathlib.Core.Path.{◌≡◌, refl, sym, ap, ◌∙◌}
use mathlib.Core.List.{List, [], ◌∷◌}
use Prim.Native.Nat.{ℕ, ◌+◌, ◌-◌, ◌<◌, ◌≤◌}
use native.Mathlib.Nat.{add-zero}
use native.Mathlib.Omega.{arith}
use lib.ListN.{length, take, drop, replicate, length-append}
use lib.Seq.{length-take-le}
use borrow.Author.Tests.{lt-ltb, le-ltb}
use Rattle.std.proofs.Common.{Err, Ok, Result, None, Option, Some}
use Rattle.zvt_rules.specs.declared.Refusal.{Refusal}
use Rattle.zvt_rules.specs.declared.Span.{Span}
use Rattle.zvt_rules.specs.declared.Places.{Places}
use Rattle.zvt_rules.specs.declared.Layout.{Layout}
use Rattle.zvt_rules.specs.declared.Layout.TheVariants.{Plain, List as FieldList, Secured}
use Rattle.basics.specs.Lists.{part}
use Rattle.zvt_rules.specs.Reading.{Reading, got, refused, fault_at, unless, and_then}
use Rattle.zvt_rules.specs.Fields.{unless_undecimal, Field, count_fields, ListRead, list_of}
use Rattle.zvt_rules.specs.Message.{listed, layout_of, body_of, secured_of, count_body, Body}
use Rattle.zvt_rules.specs.declared.Header.{Header}
use Rattle.zvt_rules.specs.believed.Writing.{list_bytes, body_bytes}
use Rattle.zvt_rules.specs.Shortest.{short_list, short_body}
use Rattle.basics.specs.believed.Lists.{Bytes}
use Rattle.zvt_rules.specs.Listed.{listed_body, named_listed, password_in}
use Rattle.zvt_rules.proofs.Readings.{got_same, unless-on, then-got, then-on, then-stop}
use Rattle.zvt_rules.proofs.ObjectBytes.{bytes_drop}
use Rattle.zvt_rules.proofs.FieldBytes.{list-sound}
use Rattle.zvt.specs.declared.objects.Tally.{Tally}
use Rattle.zvt.specs.ObjectSteps.{as_part}
use Rattle.zvt.specs.FieldSteps.{decimals_answer, spare_list, list_tally, list_answer, spans_in, list_located}
use Rattle.zvt_rules.specs.declared.Places.{Places}
use Rattle.zvt.specs.declared.objects.Located.{Located}
use Rattle.zvt.proofs.Located.{LiesIn, located-stopped, located-got, got-located, stopped-located}
use Rattle.zvt.proofs.WalkLaws.{list-read, list-refused}
use Rattle.zvt.specs.BodySteps.{spare_body, body_tally, secured_answer, body_answer, no_places, places_in, body_in, body_located, body_found}
use Rattle.zvt.proofs.FieldLaws.{decimals-then, decimals-got, decimals-stopped}

-- ---- fields behind a password, or behind nothing
-- a list that was read behind a password, as a body of that size
abbrev as_body : ℕ → Result Tally Refusal → Result Tally Refusal
as_body size (Ok t) = Ok (record { size = size; objects = t.objects; spare = t.spare })
as_body size (Err r) = Err r

abbrev sized_tally : ℕ → ListRead → Tally
sized_tally size r = record { size = size; objects = r.count; spare = spare_list r.fields }

behind : (password s t : List ℕ) (at : ℕ) (r : ListRead) → Bytes t → list_of [] 0 at t ≡ got r
    → body_tally s (listed password r.fields) ≡ sized_tally (length s) r
unfolding body_tally spare_body spare_list count_body body_bytes short_body
behind password s t at r b e =
    let whole = length-append password (list_bytes r.fields) in
    let short = length-append password (list_bytes (short_list r.fields)) in
    let spare : spare_body (listed password r.fields) ≡ spare_list r.fields = omega arith in
    let count : count_fields r.fields ≡ r.count = omega (arith, (list-sound [] 0 at t r b e).2) in
    cc

fields-part : (password s t : List ℕ) (at : ℕ) → Bytes t
    → as_part (body_tally s) (and_then (list_of [] 0 at t) λ l. got (listed password l.fields))
    ≡ as_part (sized_tally (length s)) (list_of [] 0 at t)
unfolding as_part and_then
fields-part password s t at b = go (list_of [] 0 at t) refl
  where
    go : (x : Reading ListRead) → list_of [] 0 at t ≡ x
        → as_part (body_tally s) (and_then x λ l. got (listed password l.fields)) ≡ as_part (sized_tally (length s)) x
    go (got r) e = ap Ok (behind password s t at r b e)
    go (refused r) e = refl

pub secured-cut : (at : ℕ) (s : List ℕ) → length s < 3 → secured_answer at s ≡ Err (fault_at 1 (at + length s))
unfolding secured_answer as_part secured_of unless
secured-cut at s h = rw (lt-ltb (length s) 3 h)

module _ (at : ℕ) (s : List ℕ) (h : 3 ≤ length s) where
  past-cut : secured_of at s
      ≡ unless_undecimal at (take 3 s) (and_then (list_of [] 0 (at + 3) (drop 3 s)) λ l. got (listed (take 3 s) l.fields))
  unfolding secured_of
  past-cut = unless-on _ _ (le-ltb (length s) 3 h)

  pub secured-undecimal : (r : Refusal) → decimals_answer at (take 3 s) ≡ Err r → secured_answer at s ≡ Err r
  unfolding secured_answer as_part decimals_answer
  secured-undecimal r e =
      ap (as_part (body_tally s)) (past-cut ∙ decimals-then at (take 3 s) (take 3 s) _ ∙ then-stop _ r (decimals-stopped _ r e))

  module _ (bs : Bytes s) (e : decimals_answer at (take 3 s) ≡ Ok tt) where
    abbrev rest : Reading ListRead
    rest = list_of [] 0 (at + 3) (drop 3 s)

    secured-on : secured_answer at s ≡ as_part (sized_tally (length s)) rest
    unfolding secured_answer decimals_answer
    secured-on =
        let g = decimals-got _ e in
        ap (as_part (body_tally s)) (past-cut ∙ decimals-then at (take 3 s) (take 3 s) _ ∙ then-on _ g.0 g.1)
        ∙ fields-part (take 3 s) s (drop 3 s) (at + 3) (bytes_drop 3 s bs)

    part-sized : (x : Reading ListRead) → as_body (length s) (as_part (list_tally (drop 3 s)) x) ≡ as_part (sized_tally (length s)) x
    unfolding as_part list_tally
    part-sized (got r) = refl
    part-sized (refused r) = refl

    pub secured-read : as_body (length s) (list_answer (at + 3) (drop 3 s)) ≡ secured_answer at s
    unfolding list_answer
    secured-read = part-sized rest ∙ sym secured-on

pub plain-body : (at : ℕ) (s : List ℕ) → body_answer at s Plain ≡ Ok (record { size = length s; objects = 0; spare = 0 })
unfolding body_answer body_of as_part body_tally spare_body count_body body_bytes short_body
plain-body at s = let none : length s - length s ≡ 0 = omega arith in rw none

pub list-body : (at : ℕ) (s : List ℕ) → Bytes s → body_answer at s FieldList ≡ list_answer at s
unfolding body_answer body_of list_answer list_tally
list-body at s b = fields-part [] s s at b

pub secured-body : (at : ℕ) (s : List ℕ) → body_answer at s Secured ≡ secured_answer at s
unfolding body_answer body_of secured_answer
secured-body at s = refl

-- ---- where the password and the fields lie
-- in a body that is refused, nowhere
pub body-stopped : (ids : List ℕ) (at : ℕ) (s : List ℕ) (layout : Layout) (r : Refusal) → body_answer at s layout ≡ Err r
    → Err r ≡ body_located ids at s layout
unfolding body_answer body_located
body-stopped ids at s layout r e = sym (located-stopped (body_tally s) (places_in ids at) (body_of at s layout) r e)

located-body : (ids : List ℕ) (at : ℕ) (s : List ℕ) (layout : Layout) (t : Tally) (places : Places) → body_answer at s layout ≡ Ok t
    → LiesIn (body_tally s) (places_in ids at) (body_of at s layout) places
    → Ok (record { tally = t; lies = places }) ≡ body_located ids at s layout
unfolding body_answer body_located
located-body ids at s layout t places e l = sym (located-got (body_tally s) (places_in ids at) (body_of at s layout) t places e l)

none_in : (ids : List ℕ) → spans_in [] ids ≡ replicate (length ids) None
unfolding spans_in named_listed
none_in [] = refl
none_in (id ∷ ids) = ap (λ xs. None ∷ xs) (none_in ids)

pub plain-located : (ids : List ℕ) (at : ℕ) (s : List ℕ) → length ids ≡ 4
    → Ok (record { tally = record { size = length s; objects = 0; spare = 0 }; lies = no_places }) ≡ body_located ids at s Plain
unfolding body_of places_in password_in listed_body
plain-located ids at s h = located-body ids at s Plain _ no_places (plain-body at s) (λ b e. rw (← (got_same e)) (rw (none_in ids, h)))

pub listed-located : (ids : List ℕ) (at : ℕ) (s : List ℕ) (r : Located (List (Option Span))) → Bytes s → list_located ids at s ≡ Ok r
    → Ok (record { tally = r.tally; lies = record { password = None; fields = r.lies } }) ≡ body_located ids at s FieldList
unfolding body_of places_in password_in listed_body
listed-located ids at s r b e =
    let (read, finds) = list-read ids at s r e in
    located-body ids at s FieldList r.tally _ (list-body at s b ∙ read) λ x q.
    let (l, is, same) = then-got (list_of [] 0 at s) _ x q in
    rw (← (got_same same), add-zero at) (ap (λ xs. record { password = None; fields = xs }) (finds l is))

pub listed-stopped : (ids : List ℕ) (at : ℕ) (s : List ℕ) (r : Refusal) → Bytes s → list_located ids at s ≡ Err r
    → Err r ≡ body_located ids at s FieldList
listed-stopped ids at s r b e = body-stopped ids at s FieldList r (list-body at s b ∙ list-refused ids at s r e)

password-in : (at : ℕ) (s : List ℕ) (fs : List Field) → 3 ≤ length s → password_in at (listed (take 3 s) fs) ≡ Some (record { from = at; to = at + 3 })
unfolding password_in
password-in at [] fs h = absurd (omega arith)
password-in at (a ∷ []) fs h = absurd (omega arith)
password-in at (a ∷ (b ∷ [])) fs h = absurd (omega arith)
password-in at (a ∷ (b ∷ (c ∷ s))) fs h = refl

-- behind a password
module _ (ids : List ℕ) (at : ℕ) (s : List ℕ) (h : 3 ≤ length s) (b : Bytes s) (d : decimals_answer at (take 3 s) ≡ Ok tt) where
  pub secured-located : (r : Located (List (Option Span))) → list_located ids (at + 3) (drop 3 s) ≡ Ok r
      → Ok (record {
        tally = record { size = length s; objects = r.tally.objects; spare = r.tally.spare };
        lies = record { password = Some (record { from = at; to = at + 3 }); fields = r.lies };
      })
      ≡ body_located ids at s Secured
  unfolding body_of places_in listed_body decimals_answer
  secured-located r e =
      let (read, finds) = list-read ids (at + 3) (drop 3 s) r e in
      let body = secured-body at s ∙ sym (secured-read at s h b d) ∙ ap (as_body (length s)) read in
      located-body ids at s Secured _ _ body λ x q.
      let g = decimals-got _ d in
      let y : and_then (list_of [] 0 (at + 3) (drop 3 s)) (λ l. got (listed (take 3 s) l.fields)) ≡ got x =
      sym (then-on _ g.0 g.1) ∙ sym (decimals-then at (take 3 s) (take 3 s) _) ∙ sym (past-cut at s h) ∙ q in
      let (l, is, same) = then-got (list_of [] 0 (at + 3) (drop 3 s)) _ x y in
      let size : length (take 3 s) ≡ 3 = length-take-le 3 s h in
      rw (← (got_same same), size, password-in at s l.fields h)
      (ap (λ xs. record { password = Some (record { from = at; to = at + 3 }); fields = xs }) (finds l is))

  pub secured-stopped : (r : Refusal) → list_located ids (at + 3) (drop 3 s) ≡ Err r → Err r ≡ body_located ids at s Secured
  secured-stopped r e =
      let read = list-refused ids (at + 3) (drop 3 s) r e in
      body-stopped ids at s Secured r (secured-body at s ∙ sym (secured-read at s h b d) ∙ ap (as_body (length s)) read)

-- ---- the body that a header announces
abbrev pub BodyLies : List ℕ → Header → List ℕ → Places → Type 0
BodyLies ids h s places =
    (b : Body) → body_of h.start (part h.start (h.start + h.length) s) (layout_of h.class h.instruction) ≡ got b → places ≡ places_in ids h.start b

module _ (ids : List ℕ) (h : Header) (s : List ℕ) where
  pub body-read : (r : Located Places) → body_found ids h s ≡ Ok r → (body_in h s ≡ Ok r.tally) × BodyLies ids h s r.lies
  unfolding body_found body_located body_in body_answer
  body-read r e = got-located _ _ _ r e

  pub body-refused : (r : Refusal) → body_found ids h s ≡ Err r → body_in h s ≡ Err r
  unfolding body_found body_located body_in body_answer
  body-refused r e = stopped-located _ _ _ r e

  pub announced : (layout : Layout) → layout ≡ layout_of h.class h.instruction
      → body_located ids h.start (part h.start (h.start + h.length) s) layout ≡ body_found ids h s
  unfolding body_found
  announced layout e = rw e
