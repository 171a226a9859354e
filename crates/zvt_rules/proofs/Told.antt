-- The amount that a message tells has at most twelve digits. Assumes nothing.
use mathlib.Core.Path.{◌≡◌}
use mathlib.Core.List.{List, [], ◌∷◌}
use Prim.Native.Nat.{ℕ, ◌≤◌}
use native.Mathlib.Omega.{arith}
use lib.ListN.{length}
use lib.Dec.{eqb}
use borrow.Author.Tests.{eqb-true}
use Rattle.zvt_rules.specs.declared.Layout.{Layout}
use Rattle.zvt_rules.specs.declared.Layout.TheVariants.{Plain, List as FieldList, Secured}
use Rattle.basics.specs.Lists.{among}
use Rattle.zvt_rules.specs.Reading.{got}
use Rattle.zvt_rules.specs.Fields.{format_of, Field, plain, container, field_id}
use Rattle.zvt_rules.specs.Message.{Body, bytes, listed, Message, read_of, layout_of}
use Rattle.basics.specs.believed.Lists.{Bytes}
use Rattle.zvt_rules.specs.believed.Grammar.{SizeOk, FieldOk, ListOk, FieldsOk, LayoutOk, MessageOk}
use Rattle.zvt_rules.specs.Values.{Found, missing, found, value_in, body_fields}
use Rattle.zvt_rules.specs.Digits.{number_of}
use Rattle.zvt_rules.specs.believed.Writing.{field_value}
use Rattle.basics.proofs.Tests.{pick-test}
use Rattle.zvt_rules.proofs.DigitLaws.{number-below}
use Rattle.zvt_rules.proofs.MessageBytes.{read-sound}

-- what an amount's bytes may be: none, or at most twelve digits
unfoldable pub Twelve : Found → Type 0
Twelve missing = Unit {0}
Twelve (found value) = number_of value ≤ 999_999_999_999

-- field 04 has six bytes of digits
six : (f : Field) → FieldOk f → field_id f ≡ 0x04 → number_of (field_value f) ≤ 999_999_999_999
unfolding FieldOk SizeOk field_id field_value format_of among
six (plain id value) ok e =
    let size : length value ≡ 6 = rw e at ok.0 in
    omega (arith, rw size at (number-below value (ok.1 (rw e))))
six (container form os) ok e = absurd (omega arith)

list-twelve : (seen : List ℕ) (fs : List Field) → ListOk seen fs → Twelve (value_in 0x04 fs)
unfolding ListOk value_in Twelve
list-twelve seen [] ok = tt
list-twelve seen (f ∷ fs) ok =
    pick-test Twelve (eqb (field_id f) 0x04) (λ e. six f ok.0 (eqb-true (field_id f) 0x04 e)) (λ e. list-twelve (field_id f ∷ seen) fs ok.2)

body-twelve : (l : Layout) (b : Body) → LayoutOk l b → Twelve (value_in 0x04 (body_fields b))
unfolding LayoutOk FieldsOk body_fields value_in Twelve
body-twelve l (bytes s) ok = tt
body-twelve Plain (listed password fs) ok = absurd ok
body-twelve FieldList (listed password fs) ok = list-twelve [] fs ok.1.0
body-twelve Secured (listed password fs) ok = list-twelve [] fs ok.2.0

pub told-twelve : (s : List ℕ) (m : Message) → Bytes s → read_of s ≡ got m → Twelve (value_in 0x04 (body_fields m.body))
unfolding MessageOk
told-twelve s m b e = body-twelve (layout_of m.class m.instruction) m.body (read-sound s m b e).1.0
