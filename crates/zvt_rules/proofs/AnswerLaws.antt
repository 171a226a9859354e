-- What is answered of a message is what its bytes say. Assumes nothing.
use mathlib.Core.Path.{◌≡◌, refl, sym, ap, ◌∙◌}
use mathlib.Core.Bool.{false}
use mathlib.Core.Logic.Iff
use mathlib.Core.Logic.{◌↔◌, ◌⊎◌, inl, inr, ⊎_elim}
use mathlib.Core.List.{List, [], ◌∷◌, ◌++◌, append-nil}
use Prim.Native.Nat.{ℕ, suc, ◌<◌, ◌≤◌}
use native.Mathlib.Omega.{arith}
use lib.ListN.{length, take, drop, length-append, take-append-drop}
use lib.Seq.{length-take-le, take_all, drop_at}
use lib.Dec.{ltb}
use borrow.Author.Tests.{ltb-true, ltb-false, lt-ltb, le-ltb}
use Rattle.std.proofs.Common.{Err, Ok}
use Rattle.zvt_rules.specs.declared.Refusal.{Refusal}
use Rattle.zvt_rules.specs.declared.Header.{Header}
use Rattle.zvt_rules.specs.declared.Outline.{Outline}
use Rattle.basics.specs.Lists.{part}
use Rattle.zvt_rules.specs.Reading.{Reading, got, refused, unplaced, unless, written_leaves}
use Rattle.basics.specs.Buffers.{front}
use Rattle.zvt_rules.specs.Objects.{Obj, leaf, branch, Objs, none, more, count_obj, count_objs}
use Rattle.zvt_rules.specs.Fields.{Field, plain, container, count_field, count_fields}
use Rattle.zvt_rules.specs.Message.{Heading, header_size, start, end, header_of, Body, bytes, listed, Message, whole_header, read_of, first_of, count_body, count_of}
use Rattle.zvt_rules.specs.believed.Writing.{body_bytes, length_bytes, message_bytes}
use Rattle.zvt_rules.specs.Shortest.{is_short, write, shorten}
use Rattle.basics.specs.believed.Lists.{Bytes}
use Rattle.zvt_rules.specs.believed.Grammar.{LengthOk, MessageOk}
use Rattle.zvt_rules.specs.Answers.{header_in, as_header_answer, header_answer, outline_of, as_read_answer, read_answer, as_first_answer, first_answer, shortened, as_shorten_answer, shorten_answer, shorten_leaves}
use Rattle.zvt_rules.specs.believed.Values.{Is}
use Rattle.zvt_rules.specs.believed.Shortest.{Shortens}
use Rattle.zvt_rules.specs.believed.Answers.{Framed, in_obj, in_run, in_list, in_body, Reported, FirstReported, Over}
use Rattle.zvt_rules.proofs.Readings.{got_same, got-not-refused, unless-got, unless-on, then-got, then-on, then-stop}
use Rattle.basics.proofs.Tests.{by-test, same_test, never}
use Rattle.zvt_rules.proofs.ObjectReading.{part_length}
use Rattle.zvt_rules.proofs.FieldReading.{header-in}
use Rattle.zvt_rules.proofs.MessageBytes.{length_bytes-size, header-sound, header-complete, first-sound, first-complete, read-sound, read-complete, message-size}
use Rattle.zvt_rules.proofs.Spelling.{body-said}
use Rattle.zvt_rules.proofs.MessageShort.{shorten-read}
use Rattle.zvt_rules.proofs.Fewest.{fewest-exactly, shortens-exactly}

-- ---- the objects of a message, counted
mutual
  unfolding count_obj count_objs in_obj in_run

  obj-counted : (o : Obj) → count_obj o ≡ length (in_obj o)
  obj-counted (leaf tag form value) = refl
  obj-counted (branch tag form os) = ap suc (run-counted os)

  run-counted : (os : Objs) → count_objs os ≡ length (in_run os)
  run-counted none = refl
  run-counted (more o os) = omega (arith, obj-counted o, run-counted os, length-append (in_obj o) (in_run os))

list_counted : (fs : List Field) → count_fields fs ≡ length (in_list fs)
unfolding count_field count_fields in_list
list_counted [] = refl
list_counted (plain id value ∷ fs) = omega (arith, list_counted fs)
list_counted (container form os ∷ fs) = omega (arith, run-counted os, list_counted fs, length-append (in_run os) (in_list fs))

-- O11
pub counted : (m : Message) → count_of m ≡ length (in_body m.body)
unfolding count_of count_body in_body
counted m = go m.body
  where
    go : (b : Body) → count_body b ≡ length (in_body b)
    go (bytes s) = refl
    go (listed password fs) = list_counted fs

-- ---- the header
abbrev frame_of : {s : List ℕ} {c i a n : ℕ} → Framed s c i a n → Heading
frame_of {c} {i} f = record { class = c; instruction = i; long = f.long; size = length f.body }

-- its length is written so, and its bytes are those
frame-bytes : {s : List ℕ} {c i a n : ℕ} (f : Framed s c i a n)
    → LengthOk f.long (length f.body) × (c ∷ (i ∷ (length_bytes f.long (length f.body) ++ f.body)) ≡ s)
frame-bytes f = let k = (body-said f.long f.lead (length f.body)).0 f.says in (k.0, rw k.1 f.whole)

frame-start : {s : List ℕ} {c i a n : ℕ} (f : Framed s c i a n) → start (frame_of f) ≡ a
frame-start f =
    let v = length f.body in
    let l = length_bytes-size f.long v in
    omega (arith, f.sized, f.ends, ap length (frame-bytes f).1, length-append (length_bytes f.long v) f.body)

-- bytes that are framed are read so
frame-read : {s : List ℕ} {c i a n : ℕ} (f : Framed s c i a n) → whole_header s ≡ got (frame_of f)
unfolding whole_header
frame-read {s} {c} {i} f =
    let h = frame_of f in
    let w = frame-bytes f in
    let read : header_of s ≡ got h = rw (append-nil, w.1) at (header-complete c i f.long f.body [] w.0) in
    then-on _ h read ∙ unless-on _ _ (le-ltb (end h) (length s) (omega (arith, frame-start f, f.sized, f.ends)))

-- and only they
read-frame : (s : List ℕ) (h : Heading) → Bytes s → whole_header s ≡ got h → Framed s h.class h.instruction (start h) h.size
unfolding whole_header
read-frame s h b e =
    let k = then-got (header_of s) _ h e in
    let w = unless-got (ltb (end k.0) (length s)) _ _ h k.2 in
    let read : header_of s ≡ got h = k.1 ∙ w.1 in
    let over : ltb (end h) (length s) ≡ false = rw (← (got_same w.1)) w.0 in
    let all : length s ≡ end h = omega (arith, ltb-false (end h) (length s) over, (header-in s h read).1) in
    let size : length (part (start h) (end h) s) ≡ h.size = omega (arith, part_length s (start h) (end h) (omega arith) (header-in s h read).1) in
    let g = header-sound s h b read in
    record {
      long = h.long;
      lead = length_bytes h.long h.size;
      body = part (start h) (end h) s;
      says = rw size ((body-said h.long (length_bytes h.long h.size) h.size).1 (g.1, refl));
      whole = g.0 ∙ take_all (end h) s (omega arith);
      sized = sym size;
      ends = sym all;
    }

-- M1, M2
pub header-exactly : (s : List ℕ) (h : Header) → Bytes s
    → (header_answer s ≡ Ok h) ↔ Framed s h.class h.instruction h.start h.length
unfolding header_answer as_header_answer header_in
header-exactly s h b = (to (whole_header s) refl, λ f. rw (frame-read f, frame-start f, f.sized))
  where
    to : (x : Reading Heading) → whole_header s ≡ x → as_header_answer x ≡ Ok h → Framed s h.class h.instruction h.start h.length
    to (got k) e q = let same : header_in k ≡ h = cc in rw (← same) (read-frame s k b e)
    to (refused f) e q = never cc

-- ---- what is read
framed : (s : List ℕ) (m : Message) → Is s m → Framed s m.class m.instruction (header_size m.long) (length (body_bytes m.body))
unfolding message_bytes MessageOk
framed s m is =
    record {
      long = m.long;
      lead = length_bytes m.long (length (body_bytes m.body));
      body = body_bytes m.body;
      says = (body-said m.long _ (length (body_bytes m.body))).1 (is.1.1, refl);
      whole = is.0;
      sized = refl;
      ends = sym (message-size m) ∙ ap length is.0;
    }

reported : (s : List ℕ) (m : Message) → Is s m → Reported s (outline_of m)
unfolding outline_of
reported s m is =
    let few = fewest-exactly m is.1 in
    record { message = m; accepted = is; framed = framed s m is; objects = counted m; shortest = (few.1, few.0) }

report-one : (s : List ℕ) (o : Outline) (r : Reported s o) → outline_of r.message ≡ o
unfolding outline_of
report-one s o r =
    let m = r.message in
    let f = framed s m r.accepted in
    let few = fewest-exactly m r.accepted.1 in
    let same : frame_of f ≡ frame_of r.framed = got_same (sym (frame-read f) ∙ frame-read r.framed) in
    let class : m.class ≡ o.class = ap (λ (h : Heading). h.class) same in
    let instruction : m.instruction ≡ o.instruction = ap (λ (h : Heading). h.instruction) same in
    let starts : header_size m.long ≡ o.start = sym (frame-start f) ∙ ap start same ∙ frame-start r.framed in
    let size : length (body_bytes m.body) ≡ o.length = f.sized ∙ ap (λ (h : Heading). h.size) same ∙ sym r.framed.sized in
    let objects : count_of m ≡ o.objects = counted m ∙ sym r.objects in
    let shortest : is_short m ≡ o.shortest = same_test (few.1, few.0) r.shortest in
    rw (objects, shortest, class, instruction, starts, size)

-- M9: what is reported of an accepted message, and nothing else
pub read-exactly : (s : List ℕ) (o : Outline) → Bytes s → (read_answer s ≡ Ok o) ↔ Reported s o
unfolding read_answer as_read_answer
read-exactly s o b = (to (read_of s) refl, from)
  where
    to : (x : Reading Message) → read_of s ≡ x → as_read_answer x ≡ Ok o → Reported s o
    to (got m) e q = let same : outline_of m ≡ o = cc in rw (← same) (reported s m (read-sound s m b e))
    to (refused f) e q = never cc

    from : Reported s o → as_read_answer (read_of s) ≡ Ok o
    from r =
        let is = r.accepted in
        let read : read_of s ≡ got r.message = rw (← is.0) (read-complete r.message is.1) in
        rw (read, as_read_answer) (ap Ok (report-one s o r))

-- the first of several messages
pub first-exactly : (s : List ℕ) (o : Outline) (next : ℕ) → Bytes s → (first_answer s ≡ Ok (o, next)) ↔ FirstReported s o next
unfolding first_answer as_first_answer FirstReported
first-exactly s o next b = (to (first_of s) refl, from)
  where
    to : (x : Reading Message) → first_of s ≡ x → as_first_answer x ≡ Ok (o, next) → FirstReported s o next
    to (got m) e q =
        let k = first-sound s m b e in
        let n = length (message_bytes m) in
        let both : (outline_of m, n) ≡ (o, next) = cc in
        let same : outline_of m ≡ o = ap (λ (x : Outline × ℕ). x.0) both in
        let ends : n ≡ next = ap (λ (x : Outline × ℕ). x.1) both in
        (take n s, drop n s, sym (take-append-drop n s), sym ends ∙ ap length k.0, rw (← same) (reported (take n s) m k))
    to (refused f) e q = never cc

    from : FirstReported s o next → as_first_answer (first_of s) ≡ Ok (o, next)
    from (front, rest, e, ends, r) =
        let m = r.message in
        let is = r.accepted in
        let read : first_of s ≡ got m = rw (e, ← is.0) (first-complete m rest is.1) in
        rw (read, as_first_answer, is.0, ends) (ap (λ (x : Outline). Ok (x, length front)) (report-one front o r))

-- ---- refusals. R31: "A refusal answers its number and, where it names one (R46), its place, and nothing else.": those that reading found
module _ {A B : Type 0} (say : Reading A → B) (no : Refusal → B) (other : (a : A) (r : Refusal) → say (got a) ≡ no r → ⊥)
    (same : (r : Refusal) → say (refused r) ≡ no r) (one : (r q : Refusal) → no r ≡ no q → r ≡ q) where
  refused-by : (x : Reading A) (r : Refusal) → (say x ≡ no r) ↔ (x ≡ refused r)
  refused-by (got a) r = (λ e. absurd (other a r e), λ e. absurd (got-not-refused e))
  refused-by (refused q) r = (λ e. ap refused (one q r (sym (same q) ∙ e)), λ e. ap say e ∙ same r)

pub header-refused-exactly : (s : List ℕ) (r : Refusal) → (header_answer s ≡ Err r) ↔ (whole_header s ≡ refused r)
unfolding header_answer as_header_answer
header-refused-exactly s r =
    refused-by as_header_answer Err (λ a r e. never cc) (λ f. refl) (λ r q e. cc) (whole_header s) r

pub read-refused-exactly : (s : List ℕ) (r : Refusal) → (read_answer s ≡ Err r) ↔ (read_of s ≡ refused r)
unfolding read_answer as_read_answer
read-refused-exactly s r =
    refused-by as_read_answer Err (λ a r e. never cc) (λ f. refl) (λ r q e. cc) (read_of s) r

pub first-refused-exactly : (s : List ℕ) (r : Refusal) → (first_answer s ≡ Err r) ↔ (first_of s ≡ refused r)
unfolding first_answer as_first_answer
first-refused-exactly s r =
    refused-by as_first_answer Err (λ a r e. never cc) (λ f. refl) (λ r q e. cc) (first_of s) r

-- ---- shortening
module _ (room : ℕ) (s : List ℕ) (b : Bytes s) where
  fits-exactly : (w : List ℕ) → (shortened room s ≡ got w) ↔ (Shortens s w × (length w ≤ room))
  unfolding shortened
  fits-exactly w = (
    λ e.
        let k = then-got (shorten s) _ w e in
        let u = unless-got (ltb room (length k.0)) _ _ w k.2 in
        let same = got_same u.1 in
        ((shortens-exactly s w b).0 (k.1 ∙ u.1), ltb-false room (length w) (rw (← same) u.0)),
    λ k. then-on _ w ((shortens-exactly s w b).1 k.0) ∙ unless-on _ _ (le-ltb room (length w) k.1),
  )

  stops : (f : Refusal) → read_of s ≡ refused f → shortened room s ≡ refused f
  unfolding shortened shorten
  stops f e = then-stop _ f (then-stop _ f e)

  lacks : (w : List ℕ) → Shortens s w → room < length w → shortened room s ≡ refused (unplaced 11)
  unfolding shortened unless
  lacks w k h = then-on _ w ((shortens-exactly s w b).1 k) ∙ rw (lt-ltb room (length w) h, unless)

  -- M10, R38: what is written is the shortest form, and it fits
  pub shorten-exactly : (k : ℕ) → (shorten_answer room s ≡ Ok k) ↔ ((w : List ℕ) × Shortens s w × (length w ≤ room) × (length w ≡ k))
  unfolding shorten_answer as_shorten_answer
  shorten-exactly k = (to (shortened room s) refl, λ (w, h, l, e). rw ((fits-exactly w).1 (h, l), as_shorten_answer, e))
    where
      to : (x : Reading (List ℕ)) → shortened room s ≡ x → as_shorten_answer x ≡ Ok k
          → (w : List ℕ) × Shortens s w × (length w ≤ room) × (length w ≡ k)
      to (got w) e q = let h = (fits-exactly w).0 e in (w, h.0, h.1, cc)
      to (refused f) e q = never cc

  -- R37: "header, body, 11". R38: "shortening needs as many as it writes"
  pub shorten-refused-exactly : (r : Refusal)
      → (shorten_answer room s ≡ Err r)
      ↔ ((read_of s ≡ refused r) ⊎ ((w : List ℕ) × Shortens s w × (room < length w) × (unplaced 11 ≡ r)))
  unfolding shorten_answer as_shorten_answer
  shorten-refused-exactly r =
      Iff.trans
      (refused-by as_shorten_answer Err (λ a r e. never cc) (λ f. refl) (λ r q e. cc) (shortened room s) r)
      (by (read_of s) refl, ⊎_elim (stops r) λ (w, k, h, e). lacks w k h ∙ ap refused e)
    where
      tight : (w : List ℕ) → Shortens s w → shortened room s ≡ refused r → (room < length w) × (unplaced 11 ≡ r)
      tight w k e =
          by-test (ltb room (length w))
          (λ t. let h = ltb-true room (length w) t in (h, let g = lacks w k h in cc))
          λ t. absurd (got-not-refused (sym ((fits-exactly w).1 (k, ltb-false room (length w) t)) ∙ e))

      by : (x : Reading Message) → read_of s ≡ x → shortened room s ≡ refused r
          → (read_of s ≡ refused r) ⊎ ((w : List ℕ) × Shortens s w × (room < length w) × (unplaced 11 ≡ r))
      by (refused q) e h = inl (let k = stops q e in let same : q ≡ r = cc in e ∙ ap refused same)
      by (got m) e q =
          let k = (shortens-exactly s (write m) b).0 (shorten-read s m e) in
          let h = tight (write m) k q in
          inr (write m, k, h.0, h.1)

-- ---- lent buffers
-- R33: what is written stands in front, and the rest is as it was
pub over-exactly : (w out after : List ℕ) → length w ≤ length out → (front w out ≡ after) ↔ Over w out after
unfolding Over
over-exactly w out after h = (
  λ e. (take (length w) out, drop (length w) out, sym (take-append-drop (length w) out), length-take-le (length w) out h, sym e),
  λ (gone, kept, e, size, f). rw (e, drop_at gone kept (length w) size) (sym f),
)

-- shortening writes over the front of the room where it fits, and else nothing (R32)
module _ (s out : List ℕ) (b : Bytes s) where
  pub shorten-writes : (w : List ℕ) → Shortens s w → length w ≤ length out → Over w out (shorten_leaves s out)
  unfolding shorten_leaves written_leaves
  shorten-writes w k h = rw ((fits-exactly (length out) s b w).1 (k, h), written_leaves) ((over-exactly w out (front w out) h).0 refl)

  pub shorten-keeps : ((w : List ℕ) → Shortens s w → length w ≤ length out → ⊥) → shorten_leaves s out ≡ out
  unfolding shorten_leaves written_leaves
  shorten-keeps none-fits = go (shortened (length out) s) refl
    where
      go : (x : Reading (List ℕ)) → shortened (length out) s ≡ x → written_leaves x out ≡ out
      go (got w) e = let k = (fits-exactly (length out) s b w).0 e in absurd (none-fits w k.0 k.1)
      go (refused f) e = refl
