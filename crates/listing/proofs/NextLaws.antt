-- The next line of a listing, case by case, and the lines from there on. Assumes nothing.
use mathlib.Core.Path.{◌≡◌, refl, ◌∙◌, ap, sym, subst}
use mathlib.Core.List.{List, [], ◌∷◌, ◌++◌}
use Prim.Native.Nat.{ℕ, ◌+◌, ◌-◌, ◌*◌, ◌≤◌, ◌<◌}
use native.Mathlib.Omega.{arith}
use borrow.Author.Tests.{lt-ltb, le-ltb, eq-eqb, ne_eqb, ltb-false, eqb-true, eqb-false}
use lib.ListN.{length, take, drop, length-drop}
use lib.Seq.{drop-drop}
use lib.Dec.{ltb, eqb}
use Rattle.std.specs.Prelude.{None, Option, Some}
use Rattle.std.proofs.Common.{Err, Ok}
use Rattle.zvt_rules.specs.Reading.{Reading, got, refused}
use Rattle.io.specs.Counts.{IsPrefixLen}
use Rattle.basics.specs.Buffers.{Whole}
use Rattle.zvt_rules.specs.Message.{Message, first_of}
use Rattle.zvt_rules.specs.believed.Writing.{message_bytes}
use Rattle.basics.specs.believed.Lists.{Bytes}
use Rattle.basics.specs.Text.{Text, text, add_all}
use Rattle.zvt_rules.specs.Listing.{message_text, ok_text, refused_text, ids_of, listing}
use Rattle.zvt_rules.proofs.ObjectReading.{tail}
use Rattle.basics.proofs.Tests.{by-test, never}
use Rattle.zvt.proofs.PlaceLaws.{own-within}
use Rattle.zvt_rules.proofs.AnswerLaws.{first-refused-exactly}
use Rattle.zvt_rules.proofs.Listing.{lines_none, lines-refused, lines-message, listing-long}
use Rattle.zvt_rules.specs.declared.Refusal.{Refusal}
use Rattle.zvt_rules.specs.declared.Outline.{Outline}
use Rattle.zvt_rules.specs.Answers.{outline_of, as_first_answer, first_answer}
use Rattle.buffers.proofs.TextLaws.{add_all-append, stands}
use Rattle.listing.specs.Lines.{read_text, next_by, next_of, lines_of}

pub next-over : (count : ℕ) (s : List ℕ) → 65536 < length s → next_of count s ≡ (refused_text count 2, None)
unfolding next_of
next-over count s h = rw (lt-ltb 65536 (length s) h)

pub next-none : (count : ℕ) (s : List ℕ) → length s ≡ 0 → next_of count s ≡ (ok_text count, None)
unfolding next_of
next-none count s h = let k : length s ≤ 65536 = omega arith in rw (le-ltb 65536 (length s) k, eq-eqb (length s) 0 h)

module _ (count : ℕ) (s : List ℕ) (most : length s ≤ 65536) (some : length s ≡ 0 → ⊥) where
  next-some : next_of count s ≡ next_by count (first_of s)
  unfolding next_of
  next-some = rw (le-ltb 65536 (length s) most, ne_eqb (length s) 0 some)

  pub next-refused : (f : Refusal) → first_answer s ≡ Err f → next_of count s ≡ (refused_text count f.number, None)
  unfolding next_by
  next-refused f e = next-some ∙ rw ((first-refused-exactly s f).0 e)

-- the text of a message by what the reader answers
told : (count : ℕ) (t : Message) (m : Outline) (x : Reading Message) (next : ℕ) → outline_of t ≡ m
    → length (message_bytes t) ≡ next → x ≡ got t
    → next_by count (got t) ≡ (read_text (count + 1) m (ids_of x), Some next)
unfolding next_by message_text read_text outline_of ids_of
told count t m x next same size e = rw (e, ← size, ← same)

-- the message that the reader answers
module _ (s : List ℕ) (b : Bytes s) (m : Outline) (next : ℕ) (e : first_answer s ≡ Ok (m, next)) where
  whole : (x : Reading Message) → first_of s ≡ x → as_first_answer x ≡ Ok (m, next)
      → (t : Message) × (first_of s ≡ got t) × (outline_of t ≡ m) × (length (message_bytes t) ≡ next)
  unfolding as_first_answer
  whole (got t) k h =
      let both : (outline_of t, length (message_bytes t)) ≡ (m, next) = cc in
      (t, k, ap (λ (x : Outline × ℕ). x.0) both, ap (λ (x : Outline × ℕ). x.1) both)
  whole (refused r) k h = never cc

  pub next-within : next ≤ length s
  unfolding first_answer
  next-within = let w = whole (first_of s) refl e in own-within s w.0 next b w.1 w.3

  pub next-some-bytes : 1 ≤ next
  unfolding first_answer message_bytes
  next-some-bytes = let w = whole (first_of s) refl e in omega (arith, w.3)

  pub next-message : (count : ℕ) → length s ≤ 65536 → (length s ≡ 0 → ⊥)
      → next_of count s ≡ (read_text (count + 1) m (ids_of (first_of s)), Some next)
  unfolding first_answer
  next-message count most some =
      let w = whole (first_of s) refl e in
      next-some count s most some ∙ ap (next_by count) w.1 ∙ told count w.0 m (first_of s) next w.2 w.3 w.1

-- ---- the lines from there on
-- a line with its end, and behind a message's the rest: what follows so many bytes
unfoldable and_rest : (ℕ → List ℕ) → List ℕ → Option ℕ → List ℕ
and_rest rest w (Some next) = w ++ (10 ∷ rest next)
and_rest rest w None = w ++ (10 ∷ [])

module _ (count : ℕ) (s : List ℕ) where
  abbrev Next : List ℕ × Option ℕ → Type 0
  Next n = lines_of count s ≡ and_rest (λ next. lines_of (count + 1) (drop next s)) n.0 n.1

  lines-some : length s ≤ 65536 → (length s ≡ 0 → ⊥) → (x : Reading Message) → first_of s ≡ x → Next (next_by count x)
  unfolding lines_of and_rest next_by
  lines-some most some (got m) e =
      let less : length (drop (length (message_bytes m)) s) ≤ 65536 = omega (arith, length-drop (length (message_bytes m)) s) in
      rw (le-ltb 65536 (length s) most, le-ltb 65536 _ less) (lines-message count s m (omega arith) e)
  lines-some most some (refused f) e = rw (le-ltb 65536 (length s) most) (lines-refused count s f (omega arith) e)

  lines_next : Next (next_of count s)
  unfolding lines_of and_rest next_of
  lines_next =
      by-test (ltb 65536 (length s)) (λ t. rw t)
      (λ t.
      let most = ltb-false 65536 (length s) t in
      by-test (eqb (length s) 0) (λ z. rw (t, z) (lines_none count s (eqb-true (length s) 0 z)))
      (λ z. rw (t, z) (rw t at (lines-some most (eqb-false (length s) 0 z) (first_of s) refl))))

-- what is left of s behind its first bytes
module _ (s : List ℕ) (from count : ℕ) (t : Text) where
  abbrev rest : List ℕ
  rest = take (length s - from) (drop from s)

  abbrev line : List ℕ
  line = (next_of count rest).0

  lines-rest : lines_of count (drop from s) ≡ and_rest (λ next. lines_of (count + 1) (drop next (drop from s))) line (next_of count rest).1
  lines-rest = subst (λ (x : List ℕ). Next count (drop from s) (next_of count x)) (sym (tail from s)) (lines_next count (drop from s))

  pub rest-last : (next_of count rest).1 ≡ None → add_all (lines_of count (drop from s)) t ≡ add_all (10 ∷ []) (add_all line t)
  unfolding and_rest
  rest-last e = rw (lines-rest, e) (add_all-append line (10 ∷ []) t)

  pub rest-message : (next : ℕ) → (next_of count rest).1 ≡ Some next
      → add_all (lines_of count (drop from s)) t ≡ add_all (lines_of (count + 1) (drop (from + next) s)) (add_all (10 ∷ []) (add_all line t))
  unfolding and_rest
  rest-message next e =
      let more = lines_of (count + 1) (drop next (drop from s)) in
      rw (lines-rest, e, ← (drop-drop next from s))
      (add_all-append line (10 ∷ more) t ∙ add_all-append (10 ∷ []) more (add_all line t))

-- ---- the whole text
-- what `list` leaves: where there is room for the longest listing, nothing is cut off; it never goes beyond the buffer
pub listed-whole : (s out : List ℕ) (end : ℕ) (exit : List ℕ) → Bytes s → text end exit ≡ add_all (listing s) (text 0 out)
    → (text end exit ≡ add_all (listing s) (text 0 out)) × ((65536 * 7 ≤ length out → Whole (listing s) end out exit) × IsPrefixLen end exit)
listed-whole s out end exit b e = (e, stands (65536 * 7) (listing s) out end exit (listing-long s b) e)
