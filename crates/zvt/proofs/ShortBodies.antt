-- A body that is read, by its layout, and what its shortest writing is. Assumes nothing.
use mathlib.Core.Path.{◌≡◌, refl, sym, ap, ◌∙◌}
use mathlib.Core.List.{List, [], ◌++◌}
use Prim.Native.Nat.{ℕ, ◌+◌, ◌≤◌}
use native.Mathlib.Omega.{arith}
use lib.ListN.{length, take, drop}
use borrow.Author.Tests.{ltb-false}
use Rattle.zvt_rules.specs.declared.Layout.{Layout}
use Rattle.zvt_rules.specs.declared.Layout.TheVariants.{Plain, List as FieldList, Secured}
use Rattle.zvt_rules.specs.Reading.{got}
use Rattle.zvt_rules.specs.Fields.{list_of}
use Rattle.zvt_rules.specs.Message.{Body, bytes, body_of, secured_of}
use Rattle.zvt_rules.specs.believed.Writing.{body_bytes}
use Rattle.zvt_rules.specs.Shortest.{short_body}
use Rattle.basics.specs.believed.Lists.{Bytes}
use Rattle.zvt_rules.proofs.Readings.{got_same, unless-got, then-got}
use Rattle.zvt_rules.proofs.ObjectBytes.{bytes_drop}
use Rattle.zvt_rules.proofs.FieldReading.{undecimal-got}
use Rattle.zvt_rules.proofs.MessageBytes.{body-sound}
use Rattle.zvt_rules.proofs.MessageShort.{body-shorter}
use Rattle.zvt.specs.WritingSteps.{ListReads, short_list_of, BodyReads, body_written, short_body_of}
use Rattle.zvt.proofs.ShortLists.{list-written, list-alone}

-- what is written of a body that is read
pub body-written : (layout : Layout) (s : List ℕ) (b : Body) → body_of 0 s layout ≡ got b → short_body_of layout s ≡ body_bytes (short_body b)
unfolding short_body_of body_written
body-written layout s b e = rw e

pub plain-short : (layout : Layout) (s : List ℕ) → layout ≡ Plain → s ≡ short_body_of layout s
unfolding body_of body_bytes short_body
plain-short layout s e = rw e (sym (body-written Plain s (bytes s) refl))

list-reads : (s : List ℕ) → BodyReads FieldList s → ListReads s × (short_body_of FieldList s ≡ short_list_of s)
unfolding BodyReads ListReads body_of body_bytes short_body
list-reads s r =
    let l = then-got (list_of [] 0 0 s) _ r.0 r.1 in (
      (l.0, l.1),
      body-written FieldList s r.0 r.1 ∙ ap (λ (b : Body). body_bytes (short_body b)) (sym (got_same l.2))
          ∙ sym (list-written s l.0 l.1),
    )

pub list-short : (layout : Layout) (s : List ℕ) → layout ≡ FieldList → BodyReads layout s → ListReads s × (short_body_of layout s ≡ short_list_of s)
list-short layout s e r = rw e (list-reads s (rw e at r))

-- a password, and the list behind it
abbrev Behind : Layout → List ℕ → Type 0
Behind layout s = (3 ≤ length s) × ListReads (drop 3 s) × (short_body_of layout s ≡ take 3 s ++ short_list_of (drop 3 s))

secured-reads : (s : List ℕ) → Bytes s → BodyReads Secured s → Behind Secured s
unfolding BodyReads ListReads body_of secured_of body_bytes short_body
secured-reads s bs r =
    let u = unless-got _ _ _ r.0 r.1 in
    let d = undecimal-got 0 (take 3 s) _ r.0 u.1 in
    let l = then-got (list_of [] 0 (0 + 3) (drop 3 s)) _ r.0 d.1 in
    let a = list-alone [] 0 (0 + 3) (drop 3 s) l.0 (bytes_drop 3 s bs) (omega arith) l.1 in (
      ltb-false (length s) 3 u.0,
      (_, a),
      body-written Secured s r.0 r.1 ∙ ap (λ (b : Body). body_bytes (short_body b)) (sym (got_same l.2))
          ∙ ap (λ (w : List ℕ). take 3 s ++ w) (sym (list-written (drop 3 s) _ a)),
    )

pub secured-short : (layout : Layout) (s : List ℕ) → Bytes s → layout ≡ Secured → BodyReads layout s → Behind layout s
secured-short layout s bs e r = rw e (secured-reads s bs (rw e at r))

-- it is no longer than the body
pub body-fits : (layout : Layout) (s : List ℕ) → Bytes s → BodyReads layout s → length (short_body_of layout s) ≤ length s
unfolding BodyReads
body-fits layout s bs r =
    let f = body-sound 0 s layout r.0 bs r.1 in
    omega (arith, ap length (body-written layout s r.0 r.1), ap length f.0, body-shorter layout r.0 f.1)
