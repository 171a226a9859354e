-- What shortening answers and writes, by the header and the body that are found. Assumes nothing.
use mathlib.Core.Path.{◌≡◌, sym, ap, ◌∙◌, subst}
use mathlib.Core.List.{List, ◌++◌}
use Prim.Native.Nat.{ℕ, ◌+◌, ◌-◌, ◌<◌, ◌≤◌}
use native.Mathlib.Omega.{arith}
use lib.ListN.{length, take, drop, length-append}
use lib.Seq.{length-take-le}
use borrow.Author.Tests.{lt-ltb, le-ltb}
use Rattle.std.proofs.Common.{Err, Ok, Result}
use Rattle.zvt_rules.specs.declared.Refusal.{Refusal}
use Rattle.basics.specs.Lists.{part}
use Rattle.zvt_rules.specs.Reading.{Reading, got, refused, unplaced, unless, written_leaves}
use Rattle.zvt_rules.specs.Message.{Heading, start, end, layout_of, Body, body_of, message_of, whole_header, read_of}
use Rattle.zvt_rules.specs.believed.Writing.{body_bytes, message_bytes}
use Rattle.zvt_rules.specs.Shortest.{short_body, short_message, write, shorten}
use Rattle.basics.specs.believed.Lists.{Bytes}
use Rattle.zvt_rules.proofs.Readings.{then-on, then-stop}
use Rattle.zvt_rules.proofs.ObjectReading.{part_length}
use Rattle.zvt_rules.proofs.ObjectBytes.{bytes-part}
use Rattle.zvt_rules.proofs.FieldReading.{header-in}
use Rattle.zvt_rules.proofs.MessageBytes.{body-sound, body-complete}
use Rattle.zvt_rules.proofs.MessageShort.{body-shorter}
use Rattle.zvt_rules.specs.declared.Header.{Header}
use Rattle.zvt.specs.declared.objects.Tally.{Tally}
use Rattle.zvt_rules.specs.Answers.{header_in, shortened, as_shorten_answer, shorten_answer, shorten_leaves}
use Rattle.zvt.specs.HeaderSteps.{whole_answer}
use Rattle.zvt.specs.BodySteps.{spare_body, body_tally, body_answer, body_in}
use Rattle.zvt.specs.WritingSteps.{back, Put, BodyReads, header_bytes, header_layout, body_part, short_message_of}
use Rattle.basics.specs.Buffers.{front}
use Rattle.zvt.proofs.RunLaws.{part-got}
use Rattle.zvt.proofs.HeaderLaws.{as-got, whole-first}
use Rattle.zvt.proofs.MessageLaws as message
use Rattle.zvt.proofs.ShortBodies.{body-written}

-- what is answered and what is left of the buffer, both
abbrev pub Ends : Result ℕ Refusal → List ℕ → List ℕ → List ℕ → Type 0
Ends r s out exit = (r ≡ shorten_answer (length out) s) × (exit ≡ shorten_leaves s out)

ends-refused : (s out : List ℕ) (f : Refusal) → shortened (length out) s ≡ refused f → Ends (Err f) s out out
unfolding shorten_answer as_shorten_answer shorten_leaves written_leaves
ends-refused s out f e = (ap as_shorten_answer (sym e), ap (λ (x : Reading (List ℕ)). written_leaves x out) (sym e))

ends-written : (s out w : List ℕ) → shortened (length out) s ≡ got w → Ends (Ok (length w)) s out (front w out)
unfolding shorten_answer as_shorten_answer shorten_leaves written_leaves
ends-written s out w e = (ap as_shorten_answer (sym e), ap (λ (x : Reading (List ℕ)). written_leaves x out) (sym e))

-- ---- what is no message
not-read : (s out : List ℕ) (f : Refusal) → read_of s ≡ refused f → Ends (Err f) s out out
unfolding shortened shorten
not-read s out f e = ends-refused s out f (then-stop _ f (then-stop _ f e))

pub no_header : (s out : List ℕ) (f : Refusal) → whole_answer s ≡ Err f → Ends (Err f) s out out
unfolding read_of
no_header s out f e = not-read s out f (message.no_header s (whole_header s) f e)

module _ (s : List ℕ) (h : Header) (e : whole_answer s ≡ Ok h) where
  pub no_body : (out : List ℕ) (f : Refusal) → body_in h s ≡ Err f → Ends (Err f) s out out
  unfolding read_of
  no_body out f g = not-read s out f (message.no_body s (whole_header s) h e f g)

-- ---- a message: how many bytes its shortest writing takes
pub record Short (s : List ℕ) (h : Header) (t : Tally) : Type 0 where
  pub reads : BodyReads (header_layout h) (body_part h s)
  pub short : shorten s ≡ got (short_message_of h s)
  pub spare : t.spare ≤ h.length
  pub size : length (header_bytes 0 0 (h.length - t.spare)) + (h.length - t.spare) ≡ length (short_message_of h s)

abbrev inside : List ℕ → Heading → List ℕ
inside s m = part (start m) (end m) s

module _ (s : List ℕ) (m : Heading) (e : whole_header s ≡ got m) (bs : Bytes s) (fits : end m ≤ length s) where
  body-short : (b : Body) → body_of (start m) (inside s m) (layout_of m.class m.instruction) ≡ got b
      → Short s (header_in m) (body_tally (inside s m) b)
  unfolding header_in header_layout body_part BodyReads short_message_of body_tally spare_body header_bytes shorten read_of message_of write message_bytes short_message
  body-short b f =
      let l = layout_of m.class m.instruction in
      let g = body-sound (start m) (inside s m) l b (bytes-part (start m) (end m) s bs) f in
      let again = rw g.0 at (body-complete 0 l b g.1) in
      let w = body-written l (inside s m) b again in
      let v = body_bytes (short_body b) in
      let less = body-shorter l b g.1 in
      let len = part_length s (start m) (end m) (omega arith) fits in
      let whole = ap length g.0 in
      let saved : m.size - (length (body_bytes b) - length v) ≡ length v = omega arith in
      record {
        reads = (b, again);
        short = then-on _ _ (then-on _ m e ∙ then-on _ b f) ∙ rw w;
        spare = omega arith;
        size = rw (saved, w) (sym (length-append (header_bytes m.class m.instruction (length v)) v));
      }

pub short-found : (s : List ℕ) (h : Header) → whole_answer s ≡ Ok h → Bytes s → (t : Tally) → body_in h s ≡ Ok t → Short s h t
unfolding body_in body_answer header_in
short-found s h e bs t f =
    let m = as-got (whole_header s) h e in
    let fits = (header-in s m.0 (whole-first s m.0 m.1)).1 in
    let g = subst (λ (k : Header). body_in k s ≡ Ok t) (sym m.2) f in
    subst (λ (k : Header). Short s k t) m.2
    (part-got (body_tally (inside s m.0)) _ (Short s (header_in m.0)) (body-short s m.0 m.1 bs fits) t g)

-- ---- with too little room, and with enough
module _ (s : List ℕ) (h : Header) (t : Tally) (q : Short s h t) (out : List ℕ) (n : ℕ)
    (e : n ≡ length (header_bytes 0 0 (h.length - t.spare)) + (h.length - t.spare)) where
  takes : n ≡ length (short_message_of h s)
  takes = e ∙ q.size

  pub no_room : length out < n → Ends (Err (unplaced 11)) s out out
  unfolding shortened unless
  no_room l =
      ends-refused s out (unplaced 11)
      (then-on _ _ q.short ∙ rw (lt-ltb (length out) (length (short_message_of h s)) (omega (arith, takes))))

  module _ (l : n ≤ length out) where
    pub lent_out : n ≡ length (take n out)
    lent_out = sym (length-take-le n out l)

    pub message-room : length (short_message_of h s) ≤ length (take n out)
    message-room = omega (arith, takes, lent_out)

    pub written_out : {r : ℕ} {y : List ℕ} → Put (short_message_of h s) (take n out) r y → Ends (Ok n) s out (y ++ drop n out)
    unfolding shortened unless back
    written_out {r} {y} p =
        let w = short_message_of h s in
        let none : length (take n out) - length w ≡ 0 = omega (arith, takes, lent_out) in
        let all : y ≡ w = p.done ∙ ap (λ (k : ℕ). take k (take n out) ++ w) none in
        rw (all, takes) (ends-written s out w (then-on _ _ q.short ∙ rw (le-ltb (length out) (length w) (omega (arith, takes)))))
