-- Bytes are refused as a message, with a number and a place, exactly where a row says so. Assumes nothing.
use mathlib.Core.Path.{◌≡◌, refl, sym, ap, ◌∙◌, subst}
use mathlib.Core.Bool.{Bool, true, false}
use mathlib.Core.Logic.{◌↔◌, ◌⊎◌, inl, inr, ⊎_elim}
use mathlib.Core.List.{List, [], ◌∷◌, ◌++◌}
use Prim.Native.Nat.{ℕ, ◌+◌, ◌-◌, ◌*◌, ◌/◌, ◌%◌, ◌<◌, ◌≤◌}
use native.Mathlib.Omega.{arith}
use lib.ListN.{length, take, drop, replicate, length-replicate, length-append, length-take, length-drop, take-append-drop, drop_of_length-le}
use lib.Seq.{length-take-le, take_at, drop_at}
use lib.Dec.{ltb, eqb}
use borrow.Author.Tests.{ltb-true, ltb-false, lt-ltb, le-ltb, eqb-true, ne_eqb}
use Rattle.zvt_rules.specs.declared.Refusal.{Refusal}
use Rattle.zvt_rules.specs.declared.Layout.{Layout}
use Rattle.zvt_rules.specs.declared.Layout.TheVariants.{Plain, List as FieldList, Secured}
use Rattle.basics.specs.Lists.{part}
use Rattle.zvt_rules.specs.Reading.{Reading, got, refused, fault_at, unplaced, unless, and_then}
use Rattle.zvt_rules.specs.Message.{BodyLength, long_length, length_of, Heading, header_size, start, end, header_with, header_of, layout_of, secured_of, body_of, Message, message_of, first_of, whole_header, read_of}
use Rattle.zvt_rules.specs.believed.Writing.{length_bytes, message_bytes}
use Rattle.zvt_rules.specs.Shortest.{write, shorten}
use Rattle.zvt_rules.specs.Answers.{shortened}
use Rattle.basics.specs.believed.Lists.{Bytes}
use Rattle.zvt_rules.specs.believed.Grammar.{LengthOk, MessageOk}
use Rattle.zvt_rules.specs.believed.Rows.{SecuredNo, short, undecimal, behind, BodyNo, framed, HeaderNo, too_long, WholeNo, header, left_over, FramedNo, ReadNo, FirstNo, ShortNo, unread, tight}
use Rattle.basics.proofs.Tests.{pick-test}
use Rattle.zvt_rules.proofs.Readings.{got_same, got-not-refused, unless-on, unless-got, then-got, then-on, then-stop}
use Rattle.zvt_rules.proofs.ObjectReading.{part_length}
use Rattle.zvt_rules.proofs.ObjectBytes.{bytes_drop, bytes-part}
use Rattle.zvt_rules.proofs.FieldReading.{header-in}
use Rattle.zvt_rules.proofs.FieldBytes.{decimals-read}
use Rattle.zvt_rules.proofs.MessageBytes.{header-sound, header-complete, behind as body-behind, length_bytes-size, length-ok, length-sound, read-sound, read-complete, first-complete, first-exactly}
use Rattle.zvt_rules.proofs.Fewest.{shortens-exactly}
use Rattle.zvt_rules.proofs.RowReadings.{Covered, is, not, covered, covered-cases, covered-unless, covered-then, covered-as, filled}
use Rattle.zvt_rules.proofs.RowFields.{undecimal-stops, UndecimalNo, first, undecimal-covered, list-refused, list-covered}

-- ---- a body: what a row says is refused
-- a password and the list behind it
secured-refused : {at : ℕ} {s : List ℕ} {r : Refusal} → SecuredNo at s r → secured_of at s ≡ refused r
unfolding secured_of unless
secured-refused {at} {s} (short l) = rw (lt-ltb (length s) 3 l)
secured-refused {at} (undecimal front b back s size ds e) =
    let w = front ++ (b ∷ back) in
    unless-on _ _ (le-ltb (length (w ++ s)) 3 (omega (arith, length-append w s)))
    ∙ rw (take_at w s 3 size) (undecimal-stops at front b back _ ds e)
secured-refused {at} (behind {s = s} w size ds h) =
    unless-on _ _ (le-ltb (length (w ++ s)) 3 (omega (arith, length-append w s)))
    ∙ rw (take_at w s 3 size, drop_at w s 3 size) (decimals-read at w _ ds ∙ then-stop _ _ (rw size at (list-refused h)))

body_refused : (at : ℕ) (s : List ℕ) (l : Layout) (r : Refusal) → BodyNo l at s r → body_of at s l ≡ refused r
unfolding BodyNo body_of
body_refused at s Plain r h = absurd h
body_refused at s FieldList r h = then-stop _ _ (list-refused h)
body_refused at s Secured r h = secured-refused h

-- ---- what is refused a row says
-- a password that is not decimal
undecimal-row : {at : ℕ} {w s : List ℕ} {r : Refusal} (t : List ℕ) → length w ≡ 3 → w ++ t ≡ s → UndecimalNo at w r → SecuredNo at s r
undecimal-row t size e (first front b back ds f) = rw (← e) (undecimal front b back t size ds f)

secured-covered : (at : ℕ) (s : List ℕ) → Bytes s → Covered (SecuredNo at s) (secured_of at s)
unfolding secured_of
secured-covered at s b =
    covered-unless (ltb (length s) 3) (fault_at 1 (at + length s)) (λ u. short (ltb-true (length s) 3 u))
    (λ u.
    let size = length-take-le 3 s (ltb-false (length s) 3 u) in
    undecimal-covered at (take 3 s) _ (λ r row. undecimal-row (drop 3 s) size (take-append-drop 3 s) row)
    (λ ds. covered-then _ (list-covered [] 0 (at + 3) (drop 3 s) (omega arith) (bytes_drop 3 s b))
    (λ r row. subst (λ (x : List ℕ). SecuredNo at x r) (take-append-drop 3 s) (behind (take 3 s) size ds (rw size row)))
    (λ l e. is _)))

body-covered : (at : ℕ) (s : List ℕ) (l : Layout) → Bytes s → Covered (BodyNo l at s) (body_of at s l)
unfolding BodyNo body_of
body-covered at s Plain b = is _
body-covered at s FieldList b = covered-then _ (list-covered [] 0 at s (omega arith) b) (λ r h. h) (λ l e. is _)
body-covered at s Secured b = secured-covered at s b

-- ---- a header: what a row says is refused
-- its length was read, and its body is cut short
with-cut : (c i : ℕ) (s : List ℕ) (l : BodyLength) → l.value ≤ 4_096 → length s < header_size l.long + l.value
    → header_with c i s l ≡ refused (unplaced 1)
unfolding header_with unless
with-cut c i s l h w = unless-on _ _ (le-ltb 4_096 l.value h) ∙ rw (lt-ltb (length s) (header_size l.long + l.value) w)

-- a header that is cut, by how many bytes of it are there
header-cut : (s : List ℕ) (c i : ℕ) (long : Bool) (w m : List ℕ) → LengthOk long (length w) → 0 < length m → s ++ m ≡ framed c i long w
    → header_of s ≡ refused (unplaced 1)
unfolding header_of length_of long_length LengthOk length_bytes and_then
header-cut [] c i long w m ok h e = refl
header-cut (x ∷ []) c i long w m ok h e = refl
header-cut (x ∷ (y ∷ [])) c i long w m ok h e = refl
header-cut (x ∷ (y ∷ (z ∷ t))) c i false w m ok h e =
    let a : z ≡ length w = cc in
    let j : t ++ m ≡ w = cc in
    let read : length_of (z ∷ t) ≡ got (record { long = false; value = length w }) = rw (a, ne_eqb (length w) 0xFF (λ f. omega arith)) in
    then-on _ _ read ∙ with-cut x y _ _ (omega arith) (omega (arith, length-append t m, ap length j))
header-cut (x ∷ (y ∷ (z ∷ []))) c i true w m ok h e = let a : z ≡ 0xFF = cc in rw a
header-cut (x ∷ (y ∷ (z ∷ (l ∷ [])))) c i true w m ok h e = let a : z ≡ 0xFF = cc in rw a
header-cut (x ∷ (y ∷ (z ∷ (l ∷ (g ∷ t))))) c i true w m ok h e =
    let a : z ≡ 0xFF = cc in
    let low : l ≡ length w % 256 = cc in
    let high : g ≡ length w / 256 = cc in
    let j : t ++ m ≡ w = cc in
    let v : g * 256 + l ≡ length w = omega arith in
    let read : length_of (z ∷ (l ∷ (g ∷ t))) ≡ got (record { long = true; value = length w }) = rw (a, v) in
    then-on _ _ read ∙ with-cut x y _ _ ok (omega (arith, length-append t m, ap length j))

header_refused : {s : List ℕ} {r : Refusal} → HeaderNo s r → header_of s ≡ refused r
unfolding header_of header_with length_of long_length and_then unless
header_refused {s} (short c i long w ok x) = header-cut s c i long w x.missing ok x.some x.joined
header_refused (too_long {low = l} {high = h} g) = rw (lt-ltb 4_096 (h * 256 + l) g)

whole-refused : {s : List ℕ} {r : Refusal} → WholeNo s r → whole_header s ≡ refused r
unfolding whole_header unless
whole-refused (header h) = then-stop _ _ (header_refused h)
whole-refused (left_over c i long w s ok l) =
    let h : Heading = record { class = c; instruction = i; long = long; size = length w } in
    let all = framed c i long w ++ s in
    let q = length_bytes long (length w) in
    let size = length_bytes-size long (length w) in
    let less : end h < length all = omega (arith, length-append (q ++ w) s, length-append q w) in
    then-on _ h (header-complete c i long w s ok) ∙ rw (lt-ltb (end h) (length all) less)

-- ---- what is refused a row says
-- the bytes of the length
length-covered : (c i : ℕ) (t : List ℕ) → Bytes t → Covered (HeaderNo (c ∷ (i ∷ t))) (length_of t)
unfolding length_of long_length LengthOk length_bytes Bytes
length-covered c i [] b = not _ (short c i false [] (omega arith) (record { missing = 0 ∷ []; some = omega arith; joined = refl }))
length-covered c i (x ∷ []) b =
    pick-test (Covered (HeaderNo (c ∷ (i ∷ (x ∷ []))))) (eqb x 0xFF)
    (λ u.
    let e = eqb-true x 0xFF u in
    not _ (short {s = c ∷ (i ∷ (x ∷ []))} c i true [] (omega arith) (record { missing = 0 ∷ (0 ∷ []); some = omega arith; joined = rw e })))
    (λ u. is _)
length-covered c i (x ∷ (l ∷ [])) b =
    let w : List ℕ = replicate l 0 in
    let size : length w ≡ l = length-replicate l 0 in
    let byte : l < 256 = b 1 in
    let low : length w % 256 ≡ l = omega arith in
    let high : length w / 256 ≡ 0 = omega arith in
    pick-test (Covered (HeaderNo (c ∷ (i ∷ (x ∷ (l ∷ [])))))) (eqb x 0xFF)
    (λ u.
    let e = eqb-true x 0xFF u in
    not _ (short {s = c ∷ (i ∷ (x ∷ (l ∷ [])))} c i true w (omega arith) (record { missing = 0 ∷ w; some = omega arith; joined = cc })))
    (λ u. is _)
length-covered c i (x ∷ (l ∷ (h ∷ t))) b = pick-test (Covered (HeaderNo (c ∷ (i ∷ (x ∷ (l ∷ (h ∷ t))))))) (eqb x 0xFF) (λ u. is _) (λ u. is _)

-- a length that is over the limit
over : (c i : ℕ) (t : List ℕ) (l : BodyLength) → long_length t ≡ got l → 4_096 < l.value → HeaderNo (c ∷ (i ∷ (0xFF ∷ t))) (unplaced 2)
unfolding long_length
over c i [] l e h = absurd (got-not-refused (sym e))
over c i (x ∷ []) l e h = absurd (got-not-refused (sym e))
over c i (x ∷ (y ∷ t)) l e h =
    let z : y * 256 + x ≡ l.value = ap (λ (m : BodyLength). m.value) (got_same e) in
    too_long {low = x} {high = y} (omega arith)

over-row : (c i : ℕ) (t : List ℕ) (l : BodyLength) → Bytes t → length_of t ≡ got l → 4_096 < l.value → HeaderNo (c ∷ (i ∷ t)) (unplaced 2)
unfolding length_of Bytes
over-row c i [] l b e h = absurd (got-not-refused (sym e))
over-row c i (x ∷ t) l b e h =
    pick-test (λ (y : Reading BodyLength). y ≡ got l → HeaderNo (c ∷ (i ∷ (x ∷ t))) (unplaced 2)) (eqb x 0xFF)
    (λ u f. rw (eqb-true x 0xFF u) (over c i t l f h))
    (λ u f. let z : x ≡ l.value = ap (λ (m : BodyLength). m.value) (got_same f) in absurd (omega (arith, b 0))) e

-- a body that is cut short
cut-row : (c i : ℕ) (t : List ℕ) (l : BodyLength) → Bytes t → length_of t ≡ got l → l.value ≤ 4_096
    → length (c ∷ (i ∷ t)) < header_size l.long + l.value → HeaderNo (c ∷ (i ∷ t)) (unplaced 1)
cut-row c i t l b e h less =
    let w = length-sound t l b e in
    let d = header_size l.long - 2 in
    let size = length_bytes-size l.long l.value in
    let f = filled (length_bytes l.long l.value) t d l.value w.0 (omega (arith, ap length w.0, length-take d t)) (omega arith) in
    let x = f.2 in
    short {s = c ∷ (i ∷ t)} c i l.long f.0 (rw f.1 (length-ok l.long l.value w.1 h))
    (record { missing = x.missing; some = x.some; joined = rw f.1 (ap (λ (y : List ℕ). c ∷ (i ∷ y)) x.joined) })

header-covered : (s : List ℕ) → Bytes s → Covered (HeaderNo s) (header_of s)
unfolding header_of header_with LengthOk length_bytes
header-covered [] b = not _ (short 0 0 false [] (omega arith) (record { missing = 0 ∷ (0 ∷ (0 ∷ [])); some = omega arith; joined = refl }))
header-covered (c ∷ []) b = not _ (short c 0 false [] (omega arith) (record { missing = 0 ∷ (0 ∷ []); some = omega arith; joined = refl }))
header-covered (c ∷ (i ∷ t)) b =
    let s = c ∷ (i ∷ t) in
    let bs = bytes_drop 2 s b in
    covered-then _ (length-covered c i t bs) (λ r h. h)
    (λ l e.
    covered-unless (ltb 4_096 l.value) (unplaced 2) (λ u. over-row c i t l bs e (ltb-true 4_096 l.value u))
    (λ u. covered-unless (ltb (length s) (header_size l.long + l.value)) (unplaced 1)
    (λ v. cut-row c i t l bs e (ltb-false 4_096 l.value u) (ltb-true (length s) (header_size l.long + l.value) v))
    (λ v. is _)))

-- a header that was read frames a body, and the rest stands behind it
record Framed (s : List ℕ) (h : Heading) : Type 0 where
  pub size : length (part (start h) (end h) s) ≡ h.size
  pub bytes : framed h.class h.instruction h.long (part (start h) (end h) s) ++ drop (end h) s ≡ s
  pub fits : LengthOk h.long (length (part (start h) (end h) s))

-- every header does
frames : (s : List ℕ) (h : Heading) → Bytes s → header_of s ≡ got h → Framed s h
frames s h b e =
    let q = header-sound s h b e in
    let w = part (start h) (end h) s in
    let size : length w ≡ h.size = omega (arith, part_length s (start h) (end h) (omega arith) (header-in s h e).1) in
    let taken : framed h.class h.instruction h.long w ≡ take (end h) s = rw size q.0 in
    record {
      size = size;
      bytes = ap (λ (x : List ℕ). x ++ drop (end h) s) taken ∙ take-append-drop (end h) s;
      fits = rw size q.1;
    }

-- bytes left over behind it
over-left : {s : List ℕ} (c i : ℕ) (long : Bool) (w t : List ℕ) → LengthOk long (length w) → 0 < length t → framed c i long w ++ t ≡ s
    → WholeNo s (unplaced 3)
over-left c i long w t ok l e = rw (← e) (left_over c i long w t ok l)

whole-covered : (s : List ℕ) → Bytes s → Covered (WholeNo s) (whole_header s)
unfolding whole_header
whole-covered s b =
    covered-then _ (header-covered s b) (λ r h. header h)
    (λ h e.
    let f = frames s h b e in
    covered-unless (ltb (end h) (length s)) (unplaced 3)
    (λ u.
    over-left h.class h.instruction h.long (part (start h) (end h) s) (drop (end h) s) f.fits
    (omega (arith, ltb-true (end h) (length s) u, length-drop (end h) s)) f.bytes)
    (λ u. is h))

-- a header behind whose body nothing is left
pub whole-got : (s : List ℕ) (h : Heading) → whole_header s ≡ got h → (header_of s ≡ got h) × (length s ≤ end h)
unfolding whole_header
whole-got s h e =
    let k = then-got (header_of s) _ h e in
    let u = unless-got (ltb (end k.0) (length s)) _ _ h k.2 in
    (k.1 ∙ u.1, rw (got_same u.1) at (ltb-false (end k.0) (length s) u.0))

-- ---- a message
-- whose header is read, and whose body is refused
framed-refused : (s rest : List ℕ) (r : Refusal) → FramedNo s rest r
    → (h : Heading) × (header_of s ≡ got h) × (message_of s h ≡ refused r) × (length s ≡ end h + length rest)
unfolding message_of FramedNo
framed-refused s rest r (class, instruction, long, w, bytes, fits, row) =
    let h : Heading = record { class = class; instruction = instruction; long = long; size = length w } in
    let here : part (start h) (end h) s ≡ w = rw bytes at (body-behind long class instruction (length w) w rest) in
    let q = length_bytes long (length w) in
    let size = length_bytes-size long (length w) in (
      h,
      rw bytes at (header-complete class instruction long w rest fits),
      then-stop _ _ (rw here (body_refused (start h) w (layout_of class instruction) r (rw size at row))),
      sym (ap length bytes) ∙ omega (arith, length-append (q ++ w) rest, length-append q w),
    )

-- each row of reading, and of the first of several
read-refused : (s : List ℕ) (r : Refusal) → ReadNo s r → read_of s ≡ refused r
unfolding read_of whole_header
read-refused s r (inl h) = then-stop _ _ (whole-refused h)
read-refused s r (inr m) =
    let f = framed-refused s [] r m in
    let h = f.0 in
    then-on _ h (then-on _ h f.1 ∙ unless-on _ _ (le-ltb (end h) (length s) (omega (arith, f.3)))) ∙ f.2

first-refused : (s : List ℕ) (r : Refusal) → FirstNo s r → first_of s ≡ refused r
unfolding first_of
first-refused s r (inl h) = then-stop _ _ (header_refused h)
first-refused s r (inr m) = let f = framed-refused s m.0 r m.1 in then-on _ f.0 f.1 ∙ f.2

short-refused : (room : ℕ) {s : List ℕ} {r : Refusal} → Bytes s → ShortNo room s r → shortened room s ≡ refused r
unfolding shortened shorten unless
short-refused room {s} {r} b (unread h) = then-stop _ _ (then-stop _ _ (read-refused s r h))
short-refused room {s} b (tight w k l) = then-on _ w ((shortens-exactly s w b).1 k) ∙ rw (lt-ltb room (length w) l)

module _ (s : List ℕ) (b : Bytes s) where
  message-covered : (h : Heading) → header_of s ≡ got h → Covered (FramedNo s (drop (end h) s)) (message_of s h)
  unfolding message_of FramedNo
  message-covered h e =
      let f = frames s h b e in
      let w = part (start h) (end h) s in
      covered-then _ (body-covered (start h) w (layout_of h.class h.instruction) (bytes-part (start h) (end h) s b))
      (λ r row. (h.class, h.instruction, h.long, w, f.bytes, f.fits, rw (length_bytes-size h.long (length w)) row))
      (λ m g. is _)

  read-covered : Covered (ReadNo s) (read_of s)
  unfolding read_of
  read-covered =
      covered-then _ (whole-covered s b) (λ r h. inl h)
      (λ h e.
      let w = whole-got s h e in
      covered-as (message-covered h w.0) (λ r m. inr (rw (drop_of_length-le s w.1) at m)))

  first-covered : Covered (FirstNo s) (first_of s)
  unfolding first_of
  first-covered = covered-then _ (header-covered s b) (λ r h. inl h) (λ h e. covered-as (message-covered h e) (λ r m. inr (drop (end h) s, m)))

  short-covered : (room : ℕ) → Covered (ShortNo room s) (shortened room s)
  unfolding shortened shorten
  short-covered room =
      covered-then _ (covered-then _ (covered-as read-covered (λ r h. unread h)) (λ r h. h) (λ m e. is (write m))) (λ r h. h)
      (λ w e.
      covered-unless (ltb room (length w)) (unplaced 11) (λ t. tight w ((shortens-exactly s w b).0 e) (ltb-true room (length w) t))
      (λ t. is w))

  -- ---- bytes are refused with that number, at that place, exactly where a row says so
  pub header-exactly : (r : Refusal) → (header_of s ≡ refused r) ↔ HeaderNo s r
  header-exactly r = (covered r (header-covered s b), header_refused)

  pub whole-exactly : (r : Refusal) → (whole_header s ≡ refused r) ↔ WholeNo s r
  whole-exactly r = (covered r (whole-covered s b), whole-refused)

  pub read-no-exactly : (r : Refusal) → (read_of s ≡ refused r) ↔ ReadNo s r
  read-no-exactly r = (covered r read-covered, read-refused s r)

  pub first-no-exactly : (r : Refusal) → (first_of s ≡ refused r) ↔ FirstNo s r
  first-no-exactly r = (covered r first-covered, first-refused s r)

  pub short-no-exactly : (room : ℕ) (r : Refusal) → (shortened room s ≡ refused r) ↔ ShortNo room s r
  short-no-exactly room r = (covered r (short-covered room), short-refused room b)

  -- ---- the rows by themselves: all bytes are a message's, or have a row
  pub read-cover : ((m : Message) × ((message_bytes m ≡ s) × MessageOk m)) ⊎ ((r : Refusal) × ReadNo s r)
  read-cover = ⊎_elim (λ x. inl (x.0, read-sound s x.0 b x.1)) inr (covered-cases read-covered)

  pub first-cover : ((m : Message) × ((rest : List ℕ) × ((message_bytes m ++ rest ≡ s) × MessageOk m))) ⊎ ((r : Refusal) × FirstNo s r)
  first-cover = ⊎_elim (λ x. inl (x.0, (first-exactly s x.0 b).0 x.1)) inr (covered-cases first-covered)

-- and one at most
refused-same : {A : Type 0} {r q : Refusal} → ◌≡◌ {A = Reading A} (refused r) (refused q) → r ≡ q
refused-same e = cc

pub read-once : (s : List ℕ) (r q : Refusal) → ReadNo s r → ReadNo s q → r ≡ q
read-once s r q a b = refused-same (sym (read-refused s r a) ∙ read-refused s q b)

-- and no message that is allowed has one
pub read-never : (m : Message) (r : Refusal) → MessageOk m → ReadNo (message_bytes m) r → ⊥
read-never m r ok a = got-not-refused (sym (read-complete m ok) ∙ read-refused (message_bytes m) r a)

pub first-never : (m : Message) (rest : List ℕ) (r : Refusal) → MessageOk m → FirstNo (message_bytes m ++ rest) r → ⊥
first-never m rest r ok a = got-not-refused (sym (first-complete m rest ok) ∙ first-refused (message_bytes m ++ rest) r a)
