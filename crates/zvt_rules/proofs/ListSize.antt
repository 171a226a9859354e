-- No id stands twice in a list, and an id is a byte: a message has at most 256 fields. Assumes nothing.
use mathlib.Core.Path.{◌≡◌, refl, sym, ap, ◌∙◌}
use mathlib.Core.Bool.{false}
use mathlib.Core.Logic.{⊎_elim}
use mathlib.Core.List.{List, [], ◌∷◌, ◌++◌}
use Prim.Native.Nat.{ℕ, zero, suc, ◌+◌, ◌<◌, ◌≤◌}
use native.Mathlib.Nat.{eq-or-lt_of_le}
use native.Mathlib.Omega.{arith}
use lib.ListN.{length}
use lib.Seq.{drop-append_seam}
use borrow.Author.Tests.{eq-eqb, ne_eqb}
use Rattle.zvt_rules.specs.declared.Listed.{Listed}
use Rattle.basics.specs.Choice.{pick}
use Rattle.basics.specs.Lists.{among}
use Rattle.zvt_rules.specs.Reading.{Reading, got, refused}
use Rattle.zvt_rules.specs.Fields.{Field, field_id}
use Rattle.zvt_rules.specs.Message.{header_size, layout_of, Body, bytes, listed, Message, read_of}
use Rattle.zvt_rules.specs.believed.Writing.{field_bytes, list_bytes}
use Rattle.basics.specs.believed.Lists.{Bytes}
use Rattle.zvt_rules.specs.believed.Grammar.{ListOk, FieldsOk, MessageOk}
use Rattle.zvt_rules.specs.Listed.{listed_from, listed_body, listed_message, ids_listed}
use Rattle.basics.proofs.Tests.{pick-test}
use Rattle.zvt_rules.proofs.ObjectBytes.{bytes_drop}
use Rattle.zvt_rules.proofs.FieldBytes.{begins}
use Rattle.zvt_rules.proofs.MessageBytes.{read-sound}
use Rattle.zvt_rules.proofs.MessageShort.{fields-ok}
use Rattle.zvt_rules.proofs.Found.{list-ends}

-- how many numbers below n stand in a list
unfoldable held : List ℕ → ℕ → ℕ
held ids zero = 0
held ids (suc n) = pick (among ids n) 1 0 + held ids n

held-most : (ids : List ℕ) (n : ℕ) → held ids n ≤ n
unfolding held
held-most ids zero = omega arith
held-most ids (suc n) =
    let h = held-most ids n in
    pick-test (λ k. k + held ids n ≤ suc n) (among ids n) (λ _. omega arith) (λ _. omega arith)

held_same : (id : ℕ) (ids : List ℕ) (n : ℕ) → n ≤ id → held (id ∷ ids) n ≡ held ids n
unfolding held among
held_same id ids zero h = refl
held_same id ids (suc n) h = rw (ne_eqb id n (λ e. omega arith), held_same id ids n (omega arith))

held-more : (id : ℕ) (ids : List ℕ) (n : ℕ) → id < n → among ids id ≡ false → held (id ∷ ids) n ≡ suc (held ids n)
unfolding held among
held-more id ids zero h new = absurd (omega arith)
held-more id ids (suc n) h new =
    ⊎_elim
    (λ (e : id ≡ n).
    let least : n ≤ id = omega (arith, e) in
    let gone : among ids n ≡ false = rw (← e) new in
    rw (eq-eqb id n e, gone, held_same id ids n least) (omega arith))
    (λ (l : id < n). rw (ne_eqb id n (λ e. omega (arith, l, e)), held-more id ids n l new) (omega arith)) (eq-or-lt_of_le (omega (arith, h)))

fields-held : (seen : List ℕ) (fs : List Field) → ListOk seen fs → Bytes (list_bytes fs) → length fs + held seen 256 ≤ 256
unfolding ListOk list_bytes Bytes
fields-held seen [] ok b = omega (arith, held-most seen 256)
fields-held seen (f ∷ fs) ok b =
    let w = field_bytes f in
    let rest : Bytes (list_bytes fs) = rw (drop-append_seam w (list_bytes fs)) at (bytes_drop (length w) (w ++ list_bytes fs) b) in
    let byte : field_id f < 256 = rw (begins f (list_bytes fs)) at (b 0) in
    omega (arith, held-more (field_id f) seen 256 byte ok.1, fields-held (field_id f ∷ seen) fs ok.2 rest)

-- ---- the fields of a message
listed-size : (at : ℕ) (fs : List Field) → length (listed_from at fs) ≡ length fs
unfolding listed_from
listed-size at [] = refl
listed-size at (f ∷ fs) = ap suc (listed-size (at + length (field_bytes f)) fs)

ids-size : (ls : List Listed) → length (ids_listed ls) ≡ length ls
unfolding ids_listed
ids-size [] = refl
ids-size (l ∷ ls) = ap suc (ids-size ls)

message-few : (s : List ℕ) (x : Reading Message) → read_of s ≡ x → Bytes s → length (listed_message x) ≤ 256
unfolding listed_message listed_body MessageOk FieldsOk
message-few s (refused f) e b = omega arith
message-few s (got m) e b = go m.body refl
  where
    go : (x : Body) → m.body ≡ x → length (listed_body (header_size m.long) x) ≤ 256
    go (bytes w) q = omega arith
    go (listed password fs) q =
        let k = read-sound s m b e in
        let ends = list-ends m password fs q in
        let whole : s ≡ ends.0 ++ list_bytes fs = sym k.0 ∙ ends.1 in
        let ok = fields-ok (layout_of m.class m.instruction) password fs (rw q at k.1.0) in
        let list : Bytes (list_bytes fs) = rw (whole, drop-append_seam ends.0 (list_bytes fs)) at (bytes_drop (length ends.0) s b) in
        omega (arith, listed-size (header_size m.long + length password) fs, fields-held [] fs ok.0 list)

pub ids-few : (s : List ℕ) → Bytes s → length (ids_listed (listed_message (read_of s))) ≤ 256
ids-few s b = omega (arith, ids-size (listed_message (read_of s)), message-few s (read_of s) refl b)
