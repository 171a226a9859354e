-- Fields found: the answers are where values stand in the message, and there is no other answer. Assumes nothing.
use mathlib.Core.Path.{◌≡◌, refl, sym, ap, ◌∙◌}
use mathlib.Core.Logic.{◌↔◌, ◌⊎◌, inl, inr, ⊎_elim}
use mathlib.Core.List.{List, [], ◌∷◌, ◌++◌, append_assoc}
use Prim.Native.Nat.{ℕ, zero, suc, ◌+◌, ◌-◌, ◌<◌, ◌≤◌}
use native.Mathlib.Nat.{eq-or-lt_of_le}
use native.Mathlib.Omega.{arith}
use lib.ListN.{length, get_or, length-append}
use lib.Seq.{take-append_seam, drop-append_seam}
use lib.Dec.{leb, eqb}
use borrow.Author.Tests.{leb-true, leb-false, eqb-true, eqb-false, eq-eqb, ne_eqb}
use Rattle.std.proofs.Common.{Err, None, Ok, Option, Result, Some}
use Rattle.zvt_rules.specs.declared.Refusal.{Refusal}
use Rattle.zvt_rules.specs.declared.Span.{Span}
use Rattle.basics.specs.Lists.{part, among}
use Rattle.zvt_rules.specs.Reading.{Reading, got, refused}
use Rattle.zvt_rules.specs.Fields.{format_of, Field, plain, container, field_id}
use Rattle.zvt_rules.specs.Message.{header_size, layout_of, Body, bytes, listed, Message, read_of, first_of}
use Rattle.zvt_rules.specs.believed.Writing.{sized, len_bytes, run_bytes, length_in, field_bytes, list_bytes, body_bytes, length_bytes, message_bytes, field_value}
use Rattle.basics.specs.believed.Lists.{Bytes, In}
use Rattle.zvt_rules.specs.believed.Grammar.{ListOk, FieldsOk, MessageOk}
use Rattle.zvt_rules.specs.Values.{body_fields}
use Rattle.zvt_rules.specs.Listed.{listed_at, next_at, listed_from, list_at, listed_body, body_at, listed_message, named_listed, asked_of, field_answer, handed_bytes, handed_place, ids_listed, first_ids, password_in, password_span}
use Rattle.zvt_rules.specs.believed.Found.{Stands, Follows, StandsBy, Lacks, Handed}
use Rattle.zvt_rules.specs.believed.Values.{Is, Tells}
use Rattle.basics.proofs.Tests.{by-test, pick_true, pick-false, pick-test, neither, never}
use Rattle.zvt_rules.proofs.Readings.{got_same}
use Rattle.basics.proofs.Lists.{in-none, in-first, in-more}
use Rattle.zvt_rules.proofs.MessageBytes.{first-exactly, read-complete, read-exactly, length_bytes-size}
use Rattle.zvt_rules.proofs.ObjectBytes.{bytes-part}
use Rattle.zvt_rules.proofs.MessageShort.{fields-ok}
use Rattle.zvt_rules.proofs.StatusLaws.{value-behind, not_seen, field_in}

-- ---- the bytes of a list, taken apart
list-append : (fs gs : List Field) → list_bytes (fs ++ gs) ≡ list_bytes fs ++ list_bytes gs
unfolding list_bytes
list-append [] gs = refl
list-append (f ∷ fs) gs = ap (λ (w : List ℕ). field_bytes f ++ w) (list-append fs gs) ∙ sym (append_assoc (field_bytes f) (list_bytes fs) (list_bytes gs))

-- a field ends with its value
value-ends : (f : Field) → (head : List ℕ) × (field_bytes f ≡ head ++ field_value f)
unfolding field_bytes field_value sized
value-ends (plain id value) = (id ∷ length_in _ (length value), refl)
value-ends (container form os) = (0x06 ∷ len_bytes form _, refl)

-- a message ends with its list
pub list-ends : (m : Message) (password : List ℕ) (fs : List Field) → m.body ≡ listed password fs
    → (front : List ℕ) × (message_bytes m ≡ front ++ list_bytes fs) × (length front ≡ header_size m.long + length password)
unfolding message_bytes body_bytes
list-ends m password fs e =
    let v = length (password ++ list_bytes fs) in
    let long = length_bytes m.long v in
    let start = m.class ∷ (m.instruction ∷ (long ++ password)) in (
      start,
      rw e (ap (λ (w : List ℕ). m.class ∷ (m.instruction ∷ w)) (sym (append_assoc long password (list_bytes fs)))),
      omega (arith, length-append long password, length_bytes-size m.long v),
    )

-- so the value of any of its fields stands before the fields behind it
record Placed (m : Message) (at : ℕ) (f : Field) (behind : List Field) : Type 0 where
  front : List ℕ
  whole : message_bytes m ≡ front ++ (field_value f ++ list_bytes behind)
  from : (listed_at at f).from ≡ length front
  to : (listed_at at f).to ≡ length (front ++ field_value f)

placed : (m : Message) (password : List ℕ) (before : List Field) (f : Field) (behind : List Field) → m.body ≡ listed password (before ++ (f ∷ behind))
    → Placed m (list_at (body_at m) password + length (list_bytes before)) f behind
unfolding list_bytes listed_at
placed m password before f behind e =
    let (start, whole, size) = list-ends m password _ e in
    let (head, own) = value-ends f in
    let value = field_value f in
    let front = start ++ (list_bytes before ++ head) in
    let ahead = length-append start (list_bytes before ++ head) in
    record {
      front = front;
      whole = whole ∙ rw (list-append before (f ∷ behind), own) (simp append_assoc);
      from = omega (arith, ahead, length-append (list_bytes before) head, ap length own, length-append head value);
      to = omega (arith, ahead, length-append (list_bytes before) head, ap length own, length-append head value, length-append front value);
    }

-- ---- the fields of a list, by their id
-- where the value of a field that begins at place at lies
abbrev span_at : ℕ → Field → Span
span_at at f = record { from = (listed_at at f).from; to = (listed_at at f).to }

-- the field that an answer is of
abbrev Split : ℕ → ℕ → List Field → Span → Type 0
Split id at fs p =
    (before : List Field) × (f : Field) × (behind : List Field) × (fs ≡ before ++ (f ∷ behind)) × (field_id f ≡ id)
    × (span_at (at + length (list_bytes before)) f ≡ p)

-- behind one field more
split-more : (id at : ℕ) (f : Field) (fs : List Field) (p : Span) → Split id (next_at at f) fs p → Split id at (f ∷ fs) p
unfolding list_bytes
split-more id at f fs p (before, g, behind, q, i, same) =
    let z : at + length (field_bytes f ++ list_bytes before) ≡ next_at at f + length (list_bytes before) =
    omega (arith, length-append (field_bytes f) (list_bytes before)) in
    (f ∷ before, g, behind, ap (λ (gs : List Field). f ∷ gs) q, i, rw z same)

named-split : (id : ℕ) (fs : List Field) (at : ℕ) (p : Span) → named_listed id (listed_from at fs) ≡ Some p → Split id at fs p
unfolding named_listed listed_from listed_at list_bytes
named-split id [] at p e = never cc
named-split id (f ∷ fs) at p e =
    pick-test (λ (x : Option Span). x ≡ Some p → Split id at (f ∷ fs) p) (eqb (field_id f) id)
    (λ t q. let z : at + 0 ≡ at = omega arith in ([], f, fs, refl, eqb-true (field_id f) id t, let p-is : span_at at f ≡ p = cc in rw z p-is))
    (λ t q. split-more id at f fs p (named-split id fs (next_at at f) p q)) e

-- F4: "No id stands twice in a list.": a field that stands there is the one that is found
named_here : (before : List Field) (f : Field) (behind : List Field) (seen : List ℕ) (at : ℕ) → ListOk seen (before ++ (f ∷ behind))
    → named_listed (field_id f) (listed_from at (before ++ (f ∷ behind))) ≡ Some (span_at (at + length (list_bytes before)) f)
unfolding named_listed listed_from listed_at list_bytes ListOk among
named_here [] f behind seen at ok =
    let z : at + 0 ≡ at = omega arith in rw z (pick_true _ _ (eq-eqb (field_id f) (field_id f) refl))
named_here (g ∷ before) f behind seen at ok =
    let fresh = not_seen (field_id g ∷ seen) (before ++ (f ∷ behind)) f ok.2 (before, behind, refl) in
    let z : at + length (field_bytes g ++ list_bytes before) ≡ next_at at g + length (list_bytes before) =
    omega (arith, length-append (field_bytes g) (list_bytes before)) in
    rw z (pick-false _ _ (neither (eqb (field_id g) (field_id f)) (among seen (field_id f)) fresh).0
    ∙ named_here before f behind (field_id g ∷ seen) (next_at at g) ok.2)

-- F9: "the answer is absent where no field of the list has the id, and only there"
named_none : (id : ℕ) (fs : List Field) (at : ℕ) → (named_listed id (listed_from at fs) ≡ None) ↔ ((f : Field) → In f fs → field_id f ≡ id → ⊥)
unfolding named_listed listed_from listed_at
named_none id [] at = (λ e f k. in-none k, λ h. refl)
named_none id (g ∷ fs) at =
    let later = named_none id fs (next_at at g) in (
      pick-test (λ (x : Option Span). x ≡ None → (f : Field) → In f (g ∷ fs) → field_id f ≡ id → ⊥) (eqb (field_id g) id)
          (λ t e. never cc)
          (λ t e f k. ⊎_elim (λ q. rw q (eqb-false (field_id g) id t)) (later.0 e f) (in-first k)),
      λ h. pick-false _ _ (ne_eqb (field_id g) id (h g (in-more (inl refl)))) ∙ later.1 (λ f k. h f (in-more (inr k))),
    )

-- ---- of a message
-- nothing is not a list with a field in it
no_field : (before : List Field) (f : Field) (behind : List Field) → [] ≡ before ++ (f ∷ behind) → ⊥
no_field [] f behind e = never cc
no_field (g ∷ before) f behind e = never cc

-- the value's place is fixed by what stands behind it
same_place : (m : Message) (at : ℕ) (f : Field) (behind : List Field) (s front : List ℕ) (p : Span) → Placed m at f behind → s ≡ message_bytes m
    → s ≡ front ++ (field_value f ++ list_bytes behind) → p.from ≡ length front → p.to ≡ length (front ++ field_value f)
    → span_at at f ≡ p
same_place m at f behind s front p k e w x y =
    let value = field_value f in
    let size : length front ≡ length k.front =
    omega (arith, ap length (sym w ∙ e ∙ k.whole), length-append front (value ++ list_bytes behind), length-append k.front (value ++ list_bytes behind)) in
    let from : (span_at at f).from ≡ p.from = omega (arith, k.from) in
    let to : (span_at at f).to ≡ p.to = omega (arith, k.to, length-append front value, length-append k.front value) in
    rw (from, to)

module _ (s : List ℕ) (b : Bytes s) where
  pub stands_read : (m : Message) → Is s m ↔ (read_of s ≡ got m)
  stands_read m = ((read-exactly s m b).1, (read-exactly s m b).0)

  -- a field of the message that s is stands in it
  stands-split : (m : Message) → read_of s ≡ got m → (password : List ℕ) (fs before : List Field) (f : Field) (behind : List Field) (k : ℕ) (p : Span)
      → m.body ≡ listed password fs → fs ≡ before ++ (f ∷ behind) → length before ≡ k
      → span_at (list_at (body_at m) password + length (list_bytes before)) f ≡ p → Stands s k f p
  unfolding Stands body_fields
  stands-split m r password fs before f behind k p q split n same =
      let w = placed m password before f behind (rw split at q) in
      let is = (stands_read m).1 r in (
        m,
        before,
        behind,
        w.front,
        is,
        ap body_fields q ∙ split,
        n,
        sym is.0 ∙ w.whole,
        ap (λ (x : Span). x.from) (sym same) ∙ w.from,
        ap (λ (x : Span). x.to) (sym same) ∙ w.to,
      )

  -- and is found there
  stands-found : (k : ℕ) (f : Field) (p : Span) → Stands s k f p → field_answer (field_id f) s ≡ Ok (Some p)
  unfolding Stands body_fields field_answer asked_of listed_message listed_body MessageOk FieldsOk
  stands-found k f p (m, before, behind, front, is, q, n, w, x, y) = go m.body refl
    where
      go : (v : Body) → m.body ≡ v → field_answer (field_id f) s ≡ Ok (Some p)
      go (bytes v) e = absurd (no_field before f behind (sym (ap body_fields e) ∙ q))
      go (listed password fs) e =
          let split : fs ≡ before ++ (f ∷ behind) = sym (ap body_fields e) ∙ q in
          let ok = (fields-ok (layout_of m.class m.instruction) password fs (rw e at is.1.0)).0 in
          let at = list_at (body_at m) password in
          let same = same_place m _ f behind s front p (placed m password before f behind (rw split at e)) (sym is.0) w x y in
          rw ((stands_read m).0 is, e, split, named_here before f behind [] at (rw split at ok), same)

  -- The field with an id is answered where it stands, and nothing else is: F6.
  pub value-exactly : (id : ℕ) (p : Span) → (field_answer id s ≡ Ok (Some p)) ↔ StandsBy s id p
  unfolding StandsBy field_answer asked_of listed_message listed_body named_listed
  value-exactly id p = (there (read_of s) refl, λ (k, f, st, i). rw (← i) (stands-found k f p st))
    where
      in_body : (m : Message) → read_of s ≡ got m → (x : Body) → m.body ≡ x → named_listed id (listed_body (body_at m) x) ≡ Some p
          → StandsBy s id p
      in_body m r (bytes v) q e = never cc
      in_body m r (listed password fs) q e =
          let (before, f, behind, split, i, same) = named-split id fs (list_at (body_at m) password) p e in
          (length before, f, stands-split m r password fs before f behind (length before) p q split refl same, i)

      there : (x : Reading Message) → read_of s ≡ x → asked_of id x ≡ Ok (Some p) → StandsBy s id p
      there (got m) r e = in_body m r m.body refl cc
      there (refused r) q e = never cc

  -- Absent is answered exactly where the message is accepted and its list has no such field: F9.
  pub absent-exactly : (id : ℕ) → (field_answer id s ≡ Ok None) ↔ Lacks s id
  unfolding Lacks field_answer asked_of listed_message listed_body named_listed body_fields
  absent-exactly id = (there (read_of s) refl, λ (m, is, none). rw ((stands_read m).0 is) (ap Ok ((by-body (body_at m) m.body).1 none)))
    where
      by-body : (at : ℕ) (x : Body) → (named_listed id (listed_body at x) ≡ None) ↔ ((f : Field) → In f (body_fields x) → field_id f ≡ id → ⊥)
      by-body at (bytes v) = (λ e f k. in-none k, λ h. refl)
      by-body at (listed password fs) = named_none id fs (list_at at password)

      there : (x : Reading Message) → read_of s ≡ x → asked_of id x ≡ Ok None → Lacks s id
      there (got m) r e = (m, (stands_read m).1 r, (by-body (body_at m) m.body).0 cc)
      there (refused r) q e = never cc

  -- A refusal is that of reading: F10.
  pub refused-exactly : (id : ℕ) (r : Refusal) → (field_answer id s ≡ Err r) ↔ (read_of s ≡ refused r)
  unfolding field_answer asked_of
  refused-exactly id r = (there (read_of s) refl, λ e. rw e)
    where
      there : (x : Reading Message) → read_of s ≡ x → asked_of id x ≡ Err r → read_of s ≡ refused r
      there (got m) q e = never cc
      there (refused f) q e = q ∙ cc

  -- The part of the message from .. to is the field's value, whatever its id.
  pub found_part : (k : ℕ) (f : Field) (p : Span) → Stands s k f p → part p.from p.to s ≡ field_value f
  unfolding Stands
  found_part k f p (m, before, behind, front, is, q, n, w, x, y) =
      let size : length (front ++ field_value f) - length front ≡ length (field_value f) = omega (arith, length-append front (field_value f)) in
      rw (x, y, w, size, drop-append_seam front (field_value f ++ list_bytes behind)) (take-append_seam (field_value f) (list_bytes behind))

  -- Directly before it stand the field's id and its length: F6.
  pub follows : (k : ℕ) (f : Field) (p : Span) → Stands s k f p → Follows s f p
  unfolding Stands Follows body_fields list_bytes MessageOk FieldsOk
  follows k f p (m, before, behind, front, is, q, n, w, x, y) = go m.body refl
    where
      go : (v : Body) → m.body ≡ v → Follows s f p
      go (bytes v) e = absurd (no_field before f behind (sym (ap body_fields e) ∙ q))
      go (listed password fs) e =
          let split : fs ≡ before ++ (f ∷ behind) = sym (ap body_fields e) ∙ q in
          let ok = (fields-ok (layout_of m.class m.instruction) password fs (rw e at is.1.0)).0 in
          let (lead, own, leads) = value-behind f (field_in [] fs f ok (before, behind, split)) in
          let (start, whole, size) = list-ends m password (before ++ (f ∷ behind)) (rw split at e) in
          let ahead = start ++ list_bytes before in
          let value = field_value f in
          let all : s ≡ ahead ++ (field_id f ∷ (lead ++ (value ++ list_bytes behind))) =
          sym is.0 ∙ whole ∙ rw (list-append before (f ∷ behind), own) (simp append_assoc) in (
            ahead,
            lead,
            list_bytes behind,
            all,
            leads,
            omega (
              arith,
              ap length (sym w ∙ all),
              length-append front (value ++ list_bytes behind),
              length-append ahead (field_id f ∷ (lead ++ (value ++ list_bytes behind))),
              length-append lead (value ++ list_bytes behind),
              length-append ahead (field_id f ∷ lead),
            ),
          )

  -- What a status information tells is such a part: P20.
  pub told-stands : (id : ℕ) (value : List ℕ) → Tells s id value → (k : ℕ) × (p : Span) × Stands s k (plain id value) p
  unfolding Tells
  told-stands id value (long, fs, is, (before, after, split)) =
      let m : Message = record { class = 0x04; instruction = 0x0F; long = long; body = listed [] fs } in
      let p = span_at (list_at (body_at m) [] + length (list_bytes before)) (plain id value) in
      (length before, p, stands-split m ((stands_read m).0 is) [] fs before (plain id value) after (length before) p refl split refl refl)

  -- What is handed back, and where it lies, is that part or the other bytes: F11.
  pub handed-exactly : (id : ℕ) (other value : List ℕ) (p q r : ℕ × ℕ)
      → Handed s p other q id value r ↔ ((value ≡ handed_bytes s other (field_answer id s)) × (r ≡ handed_place p q (field_answer id s)))
  unfolding Handed StandsBy handed_bytes handed_place
  handed-exactly id other value p q r = (⊎_elim held (λ (n, e, d). free n e d (field_answer id s) refl), λ (e, d). back (field_answer id s) refl e d)
    where
      held : ((k : ℕ) × (f : Field) × (l : Span) × Stands s k f l × (field_id f ≡ id) × (value ≡ field_value f) × (r ≡ (p.0, l.from + p.1)))
          → (value ≡ handed_bytes s other (field_answer id s)) × (r ≡ handed_place p q (field_answer id s))
      held (k, f, l, st, i, v, d) = rw ((value-exactly id l).1 (k, f, st, i)) (v ∙ sym (found_part k f l st), d)

      free : ((l : Span) → StandsBy s id l → ⊥) → value ≡ other → r ≡ q → (x : Result (Option Span) Refusal) → field_answer id s ≡ x
          → (value ≡ handed_bytes s other (field_answer id s)) × (r ≡ handed_place p q (field_answer id s))
      free n e d (Ok None) at = rw at (e, d)
      free n e d (Ok (Some l)) at = absurd (n l ((value-exactly id l).0 at))
      free n e d (Err f) at = rw at (e, d)

      back : (x : Result (Option Span) Refusal) → field_answer id s ≡ x → value ≡ handed_bytes s other (field_answer id s) → r ≡ handed_place p q (field_answer id s)
          → Handed s p other q id value r
      back (Ok None) at e d = inr (λ l st. let there = (value-exactly id l).1 st in never cc, rw at at e, rw at at d)
      back (Ok (Some l)) at e d =
          let (k, f, st, i) = (value-exactly id l).0 at in
          inl (k, f, l, st, i, (rw at at e) ∙ found_part k f l st, rw at at d)
      back (Err f) at e d = inr (λ l st. let there = (value-exactly id l).1 st in never cc, rw at at e, rw at at d)

-- ---- where the parts lie
-- of two fields of one list, one stands behind the other
behind-it : (f g : Field) (after later before between : List Field) → before ++ (f ∷ after) ≡ between ++ (g ∷ later) → length before < length between
    → (mid : List Field) × (after ≡ mid ++ (g ∷ later))
behind-it f g after later before [] e h = absurd (omega arith)
behind-it f g after later [] (x ∷ between) e h = (between, cc)
behind-it f g after later (y ∷ before) (x ∷ between) e h = behind-it f g after later before between (cc) (omega arith)

-- or they are the same
same-field : (f g : Field) (after later before between : List Field) → before ++ (f ∷ after) ≡ between ++ (g ∷ later) → length before ≡ length between → f ≡ g
same-field f g after later [] [] e h = cc
same-field f g after later [] (x ∷ between) e h = absurd (omega arith)
same-field f g after later (y ∷ before) [] e h = absurd (omega arith)
same-field f g after later (y ∷ before) (x ∷ between) e h = same-field f g after later before between (cc) (omega arith)

-- before a value stands its id at least
head-some : (f : Field) → length (field_value f) < length (field_bytes f)
unfolding field_bytes field_value sized
head-some (plain id value) = omega (arith, length-append (length_in (format_of id) (length value)) value)
head-some (container form os) = let w = run_bytes os in omega (arith, length-append (len_bytes form (length w)) w)

module _ (s : List ℕ) (b : Bytes s) where
  same-message : (m n : Message) → Is s m → Is s n → m ≡ n
  same-message m n x y = got_same (sym ((stands_read s b m).0 x) ∙ (stands_read s b n).0 y)

  -- the part of the later field begins behind that of the earlier one and the later one's id
  in_order : (j k : ℕ) (f g : Field) (p q : Span) → Stands s j f p → Stands s k g q → j < k → p.to < q.from
  unfolding Stands list_bytes
  in_order j k f g p q (m, before, behind, front, is, x, n, w, from, to) (m', between, later, front', is', x', n', w', from', to') h =
      let same : before ++ (f ∷ behind) ≡ between ++ (g ∷ later) = sym x ∙ ap (λ (y : Message). body_fields y.body) (same-message m m' is is') ∙ x' in
      let (mid, e) = behind-it f g behind later before between same (omega arith) in
      omega (
        arith,
        head-some g,
        ap length w,
        ap length w',
        length-append front (field_value f ++ list_bytes behind),
        length-append (field_value f) (list_bytes behind),
        length-append front (field_value f),
        length-append front' (field_value g ++ list_bytes later),
        length-append (field_value g) (list_bytes later),
        ap (λ (fs : List Field). length (list_bytes fs)) e ∙ ap length (list-append mid (g ∷ later)),
        length-append (list_bytes mid) (field_bytes g ++ list_bytes later),
        length-append (field_bytes g) (list_bytes later),
      )

  number_same : (k : ℕ) (f g : Field) (p q : Span) → Stands s k f p → Stands s k g q → f ≡ g
  unfolding Stands
  number_same k f g p q (m, before, behind, front, is, x, n, w, from, to) (m', between, later, front', is', x', n', w', from', to') =
      same-field f g behind later before between (sym x ∙ ap (λ (y : Message). body_fields y.body) (same-message m m' is is') ∙ x') (omega arith)

  -- Two questions give parts that do not overlap: an id stands between them at least.
  pub apart : (i j : ℕ) (p q : Span) → (i ≡ j → ⊥) → StandsBy s i p → StandsBy s j q → (p.to < q.from) ⊎ (q.to < p.from)
  unfolding StandsBy
  apart i j p q n (k, f, st, a) (l, g, st', c) =
      by-test (leb k l)
      (λ t. ⊎_elim (λ e. absurd (n (sym a ∙ ap field_id (number_same l f g p q (rw e at st) st') ∙ c)))
      (λ h. inl (in_order k l f g p q st st' h)) (eq-or-lt_of_le (leb-true k l t)))
      (λ t. inr (in_order l k g f q p st' st (leb-false k l t)))

  -- A part lies in the body, behind the password.
  behind-start : (k : ℕ) (f : Field) (p : Span) → Stands s k f p → (m : Message) → Is s m → (x : Body) → m.body ≡ x
      → ((q : Span) → password_in (body_at m) x ≡ Some q → q.to < p.from) × (header_size m.long < p.from)
  unfolding Stands body_fields list_bytes password_in
  behind-start k f p (m', before, behind, front, is', x, n, w, from, to) m is (bytes v) e =
      absurd (no_field before f behind (sym (ap body_fields (sym (ap (λ (y : Message). y.body) (same-message m m' is is')) ∙ e)) ∙ x))
  behind-start k f p (m', before, behind, front, is', x, n, w, from, to) m is (listed password fs) e =
      let split : fs ≡ before ++ (f ∷ behind) = sym (ap body_fields (sym (ap (λ (y : Message). y.body) (same-message m m' is is')) ∙ e)) ∙ x in
      let (start, whole, size) = list-ends m password fs e in
      let far : list_at (body_at m) password < p.from =
      omega (
        arith,
        head-some f,
        ap length (sym w ∙ sym is.0 ∙ whole),
        length-append front (field_value f ++ list_bytes behind),
        length-append (field_value f) (list_bytes behind),
        length-append start (list_bytes fs),
        ap (λ (gs : List Field). length (list_bytes gs)) split ∙ ap length (list-append before (f ∷ behind)),
        length-append (list_bytes before) (field_bytes f ++ list_bytes behind),
        length-append (field_bytes f) (list_bytes behind),
      ) in
      (λ q there. password-to (header_size m.long) password fs p.from far q there, omega arith)
    where
      password-to : (at : ℕ) (w : List ℕ) (gs : List Field) (end : ℕ) → at + length w < end → (q : Span) → password_in at (listed w gs) ≡ Some q
          → q.to < end
      password-to at [] gs end h q e = never cc
      password-to at (d ∷ w) gs end h q e =
          let same : record { from = at; to = at + length (d ∷ w) } ≡ q = cc in omega (arith, ap (λ (x : Span). x.to) same)

  pub in_body : (m : Message) (id : ℕ) (p : Span) → Is s m → StandsBy s id p
      → (header_size m.long < p.from) × (p.from ≤ p.to) × (p.to ≤ length s)
  unfolding StandsBy Stands
  in_body m id p is (k, f, st, i) =
      let (m', before, behind, front, is', x, n, w, from, to) = st in (
        (behind-start k f p st m is m.body refl).1,
        omega (arith, length-append front (field_value f)),
        omega (arith, ap length w, length-append front (field_value f ++ list_bytes behind), length-append (field_value f) (list_bytes behind), length-append front (field_value f)),
      )

  pub behind-password : (id : ℕ) (p : Span) → StandsBy s id p → (0 < p.from) × ((q : Span) → password_span (read_of s) ≡ Some q → q.to < p.from)
  unfolding StandsBy Stands password_span
  behind-password id p (k, f, st, i) =
      let is = st.4 in
      let front = in_body st.0 id p is (k, f, st, i) in
      (omega (arith, front.0), rw ((stands_read s b st.0).0 is) (behind-start k f p st st.0 is st.0.body refl).0)

-- ---- the ids of a list, in their order
ids-split : (fs : List Field) (at k : ℕ) → k < length (ids_listed (listed_from at fs))
    → (before : List Field) × (f : Field) × (behind : List Field) × (fs ≡ before ++ (f ∷ behind)) × (length before ≡ k)
    × (get_or (ids_listed (listed_from at fs)) k 0 ≡ field_id f)
unfolding ids_listed listed_from listed_at
ids-split [] at k h = absurd (omega arith)
ids-split (f ∷ fs) at zero h = ([], f, fs, refl, refl, refl)
ids-split (f ∷ fs) at (suc k) h =
    let (before, g, behind, e, n, i) = ids-split fs (next_at at f) k (omega arith) in
    (f ∷ before, g, behind, ap (λ (gs : List Field). f ∷ gs) e, ap suc n, i)

ids-here : (before : List Field) (f : Field) (behind : List Field) (at : ℕ)
    → let ids = ids_listed (listed_from at (before ++ (f ∷ behind))) in (length before < length ids) × (get_or ids (length before) 0 ≡ field_id f)
unfolding ids_listed listed_from listed_at
ids-here [] f behind at = (omega arith, refl)
ids-here (g ∷ before) f behind at = let h = ids-here before f behind (next_at at g) in (omega (arith, h.0), h.1)

-- of the message that s is
module _ (s : List ℕ) (b : Bytes s) where
  abbrev ids : List ℕ
  ids = ids_listed (listed_message (read_of s))

  id-exactly : (k id : ℕ) → ((k < length ids) × (get_or ids k 0 ≡ id)) ↔ ((f : Field) × (p : Span) × Stands s k f p × (field_id f ≡ id))
  unfolding ids_listed listed_message listed_body Stands body_fields
  id-exactly k id = (λ (h, e). there (read_of s) refl h e, λ (f, p, st, i). back f p st i st.0.body refl)
    where
      in-list : (m : Message) → read_of s ≡ got m → (x : Body) → m.body ≡ x → k < length (ids_listed (listed_body (body_at m) x))
          → get_or (ids_listed (listed_body (body_at m) x)) k 0 ≡ id → (f : Field) × (p : Span) × Stands s k f p × (field_id f ≡ id)
      in-list m r (bytes v) q h e = absurd (omega arith)
      in-list m r (listed password fs) q h e =
          let (before, f, behind, split, n, i) = ids-split fs (list_at (body_at m) password) k h in
          let p = span_at (list_at (body_at m) password + length (list_bytes before)) f in
          (f, p, stands-split s b m r password fs before f behind k p q split n refl, sym i ∙ e)

      there : (x : Reading Message) → read_of s ≡ x → k < length (ids_listed (listed_message x)) → get_or (ids_listed (listed_message x)) k 0 ≡ id
          → (f : Field) × (p : Span) × Stands s k f p × (field_id f ≡ id)
      there (got m) r h e = in-list m r m.body refl h e
      there (refused r) q h e = absurd (omega arith)

      back : (f : Field) (p : Span) (st : Stands s k f p) → field_id f ≡ id → (x : Body) → st.0.body ≡ x → (k < length ids) × (get_or ids k 0 ≡ id)
      back f p (m, before, behind, front, is, q, n, w, x, y) i (bytes v) e = absurd (no_field before f behind (sym (ap body_fields e) ∙ q))
      back f p (m, before, behind, front, is, q, n, w, x, y) i (listed password fs) e =
          let split : fs ≡ before ++ (f ∷ behind) = sym (ap body_fields e) ∙ q in
          let h = ids-here before f behind (list_at (body_at m) password) in
          rw ((stands_read s b m).0 is, e, split, ← n) (h.0, h.1 ∙ i)

-- of the message that s begins with
front_bytes : (front rest s : List ℕ) → Bytes s → s ≡ front ++ rest → Bytes front
front_bytes front rest s b e =
    let n : length front - 0 ≡ length front = omega arith in rw (n, e, take-append_seam front rest) at (bytes-part 0 (length front) s b)

module _ (s : List ℕ) (b : Bytes s) where
  -- Number k is the id of field number k of that message, in the bytes that are its own.
  pub first-id-exactly : (k id : ℕ)
      → ((k < length (first_ids s)) × (get_or (first_ids s) k 0 ≡ id))
      ↔ ((front : List ℕ) × (rest : List ℕ) × (s ≡ front ++ rest) × (f : Field) × (p : Span) × Stands front k f p × (field_id f ≡ id))
  unfolding first_ids ids_listed listed_message Stands
  first-id-exactly k id = (λ (h, e). there (first_of s) refl h e, back)
    where
      there : (x : Reading Message) → first_of s ≡ x → k < length (ids_listed (listed_message x)) → get_or (ids_listed (listed_message x)) k 0 ≡ id
          → (front : List ℕ) × (rest : List ℕ) × (s ≡ front ++ rest) × (f : Field) × (p : Span) × Stands front k f p × (field_id f ≡ id)
      there (got m) q h e =
          let (rest, is) = (first-exactly s m b).0 q in
          let front = message_bytes m in
          let own = front_bytes front rest s b (sym is.0) in
          let (f, p, st, i) = (id-exactly front own k id).0 (rw (read-complete m is.1) (h, e)) in
          (front, rest, sym is.0, f, p, st, i)
      there (refused r) q h e = absurd (omega arith)

      back : (front : List ℕ) × (rest : List ℕ) × (s ≡ front ++ rest) × (f : Field) × (p : Span) × Stands front k f p × (field_id f ≡ id)
          → (k < length (ids_listed (listed_message (first_of s)))) × (get_or (ids_listed (listed_message (first_of s))) k 0 ≡ id)
      back (front, rest, e, f, p, st, i) =
          let is = st.4 in
          let own = front_bytes front rest s b e in
          let first : first_of s ≡ got st.0 = (first-exactly s st.0 b).1 (rest, (ap (λ (w : List ℕ). w ++ rest) is.0 ∙ sym e, is.1)) in
          rw first (rw ((stands_read front own st.0).0 is) at ((id-exactly front own k id).1 (f, p, st, i)))
