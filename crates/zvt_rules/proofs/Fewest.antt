-- A length, and a message, is shortest exactly where nothing that says the same has fewer bytes. Assumes nothing.
use mathlib.Core.Path.{◌≡◌, refl, sym, ap, ap₂, ◌∙◌}
use mathlib.Core.Bool.{Bool, true, false, not, ◌||◌, and-eq-true_iff}
use mathlib.Core.Logic.{◌↔◌}
use mathlib.Core.List.{List, [], ◌∷◌, map}
use Prim.Native.Nat.{ℕ, ◌≤◌}
use native.Mathlib.Omega.{arith}
use lib.ListN.{length}
use lib.Dec.{leb}
use borrow.Author.Tests.{leb-true, leb-false, lt-leb}
use Rattle.zvt_rules.specs.Reading.{got}
use Rattle.zvt_rules.specs.Objects.{Form, form_size, Obj, leaf, branch, Objs, none, more}
use Rattle.zvt_rules.specs.Fields.{Field, plain, container}
use Rattle.zvt_rules.specs.Message.{header_size, layout_of, Body, bytes, listed, Message, read_of}
use Rattle.zvt_rules.specs.believed.Writing.{len_bytes, body_bytes, length_bytes, message_bytes}
use Rattle.zvt_rules.specs.Shortest.{form_for, is_shortest, short_obj, short_run, short_field, short_list, short_body, short_message, is_short, write, shorten}
use Rattle.basics.specs.believed.Lists.{Bytes}
use Rattle.zvt_rules.specs.believed.Grammar.{FormOk, LengthOk, MessageOk}
use Rattle.zvt_rules.specs.believed.Digits.{SaysBody, SaysLength}
use Rattle.zvt_rules.specs.believed.Shortest.{formless_obj, formless_run, formless_field, formless_body, SameValues, Fewest, Shortens}
use Rattle.zvt_rules.proofs.Readings.{got_same, then-got, then-on}
use Rattle.basics.proofs.Tests.{by-test}
use Rattle.zvt_rules.proofs.Spelling.{length-said, body-said}
use Rattle.zvt_rules.proofs.Lengths.{len_bytes-size, form_for-ok, form-shorter, form-kept, form-strict, form_for-shortest}
use Rattle.zvt_rules.proofs.MessageBytes.{message-size, read-sound, read-complete}
use Rattle.zvt_rules.proofs.MessageShort.{body-shorter, header-shorter, body-exactly, short_ok, same-values, never-longer, short-short, short-kept}

-- ---- one length
-- O7: "Shortest is one byte under 128, 81 from there to 255, 82 from 256.": a form that can say v, as no form with fewer bytes can
unfoldable pub FewestForm : Form → ℕ → Type 0
FewestForm form v =
    (s : List ℕ) × SaysLength form s v × ((other : Form) (t : List ℕ) → SaysLength other t v → length s ≤ length t)

-- M4: "A length under 255 behind FF can be read, but is not shortest."
unfoldable pub FewestLength : Bool → ℕ → Type 0
FewestLength long v = (s : List ℕ) × SaysBody long s v × ((other : Bool) (t : List ℕ) → SaysBody other t v → length s ≤ length t)

-- O7: shortest is a form that can say v, as no form with fewer bytes can
pub form-exactly : (form : Form) (v : ℕ) → FewestForm form v ↔ (FormOk form v × (is_shortest form v ≡ true))
unfolding FewestForm
form-exactly form v = (
  λ (s, says, few).
      let k = (length-said form s v).0 says in
      let least = form_for v in
      let own = few least (len_bytes least v) ((length-said least (len_bytes least v) v).1 (form_for-ok form v v k.0 (omega arith), refl)) in
      let shorter = form-shorter form v v k.0 (omega arith) in
      let size = ap length k.1 in
      (k.0, form-strict form v k.0 (omega (arith, len_bytes-size form v, len_bytes-size least v))),
  λ (ok, e). (
    len_bytes form v,
    (length-said form (len_bytes form v) v).1 (ok, refl),
    λ other t says.
        let k = (length-said other t v).0 says in
        let same = ap form_size (form-kept form v ok e) in
        rw (← k.1) (omega (arith, form-shorter other v v k.0 (omega arith), len_bytes-size form v, len_bytes-size other v)),
  ),
)

pub for-exactly : (form : Form) (v : ℕ) → FewestForm form v ↔ (FormOk form v × (form_for v ≡ form))
for-exactly form v =
    let k = form-exactly form v in (
      λ f. let i = k.0 f in (i.0, form-kept form v i.0 i.1),
      λ i. k.1 (i.0, rw (← i.1) (form_for-shortest v)),
    )

-- M4
least : (other : Bool) (t : List ℕ) (v : ℕ) → SaysBody other t v → (1 ≤ length t) × (255 ≤ v → 3 ≤ length t)
unfolding SaysBody
least false t v k = (rw k.0 (omega arith), λ h. absurd (omega arith))
least true t v k = rw k.2 (omega arith, λ h. omega arith)

pub length-exactly : (long : Bool) (v : ℕ) → FewestLength long v ↔ (LengthOk long v × (leb 255 v ≡ long))
unfolding FewestLength SaysBody LengthOk length_bytes
length-exactly false v = (
  λ (s, says, few). (omega arith, lt-leb 255 v (omega arith)),
  λ (ok, e). (v ∷ [], (refl, omega arith), λ other t k. (least other t v k).0),
)
length-exactly true v = (
  λ (s, says, few). (
    omega arith,
    by-test (leb 255 v) (λ e. e) λ e.
        let u = leb-false 255 v e in
        absurd (omega (arith, few false (v ∷ []) (refl, omega arith), ap length says.2)),
  ),
  λ (ok, e).
      (length_bytes true v, (body-said true (length_bytes true v) v).1 (ok, refl), λ other t k. (least other t v k).1 (leb-true 255 v e)),
)

-- ---- messages of the same values are shortened alike, since shortening does not look at forms
mutual
  unfolding formless_obj formless_run short_obj short_run

  obj-formless : (o : Obj) → short_obj (formless_obj o) ≡ short_obj o
  obj-formless (leaf tag form value) = refl
  obj-formless (branch tag form os) = rw (run-formless os)

  run-formless : (os : Objs) → short_run (formless_run os) ≡ short_run os
  run-formless none = refl
  run-formless (more o os) = ap₂ more (obj-formless o) (run-formless os)

field-formless : (f : Field) → short_field (formless_field f) ≡ short_field f
unfolding formless_field short_field
field-formless (plain id value) = refl
field-formless (container form os) = rw (run-formless os)

list-formless : (fs : List Field) → short_list (map formless_field fs) ≡ short_list fs
unfolding short_list
list-formless [] = refl
list-formless (f ∷ fs) = ap₂ (λ (x : Field) (xs : List Field). x ∷ xs) (field-formless f) (list-formless fs)

body-formless : (b : Body) → short_body (formless_body b) ≡ short_body b
unfolding formless_body short_body
body-formless (bytes s) = refl
body-formless (listed password fs) = ap (listed password) (list-formless fs)

alike : (m n : Message) → SameValues m n → short_message m ≡ short_message n
unfolding SameValues short_message
alike m n k = rw (k.0, k.1, sym (body-formless m.body) ∙ ap short_body k.2 ∙ body-formless n.body)

-- ---- a message
size-kept : (long short : Bool) → header_size short ≡ header_size long → (not long || short) ≡ true
size-kept false short e = refl
size-kept true true e = refl
size-kept true false e = absurd (omega arith)

-- where no byte is saved, it was shortest
strict : (m : Message) → MessageOk m → length (message_bytes m) ≤ length (message_bytes (short_message m)) → is_short m ≡ true
unfolding MessageOk is_short short_message
strict m ok h =
    let l = layout_of m.class m.instruction in
    let v = length (body_bytes m.body) in
    let w = length (body_bytes (short_body m.body)) in
    let b = body-shorter l m.body ok.0 in
    let s = header-shorter m.long v w ok.1 b in
    let i = message-size m in
    let j = message-size (short_message m) in
    let same : w ≡ v = omega arith in
    let head : header_size (leb 255 v) ≡ header_size m.long = rw (← same) (omega arith) in
    (and-eq-true_iff _ _).1 (size-kept m.long (leb 255 v) head, (body-exactly l m.body ok.0).0 same)

-- M11: "A message is shortest when shortening would change nothing.": exactly where no message of the same values has fewer bytes
pub fewest-exactly : (m : Message) → MessageOk m → Fewest m ↔ (is_short m ≡ true)
unfolding Fewest write
fewest-exactly m ok = (
  λ f. strict m ok (f (short_message m) (same-values m) (short_ok m ok)),
  λ e other same fine. rw (sym (short-kept m ok e) ∙ alike m other same) (never-longer other fine),
)

-- M10: the message that shortening writes is the one of the same values with the fewest bytes
pub shortest-exactly : (m short : Message) → MessageOk m → (short_message m ≡ short) ↔ (SameValues m short × MessageOk short × Fewest short)
shortest-exactly m short ok = (
  λ e. rw (← e) (same-values m, short_ok m ok, (fewest-exactly (short_message m) (short_ok m ok)).1 (short-short m)),
  λ k. alike m short k.0 ∙ short-kept short k.1 ((fewest-exactly short k.1).0 k.2),
)

-- the same of bytes
pub shortens-exactly : (s w : List ℕ) → Bytes s → (shorten s ≡ got w) ↔ Shortens s w
unfolding shorten Shortens write
shortens-exactly s w b = (
  λ e.
      let k = then-got (read_of s) _ w e in
      let is = read-sound s k.0 b k.1 in
      let f = (shortest-exactly k.0 (short_message k.0) is.1).0 refl in
      (k.0, short_message k.0, is, f.0, (got_same k.2, f.1), f.2),
  λ (m, short, is, same, to, few).
      let e = (shortest-exactly m short is.1).1 (same, to.1, few) in
      then-on _ m (rw (← is.0) (read-complete m is.1)) ∙ ap got (ap message_bytes e ∙ to.0),
)
