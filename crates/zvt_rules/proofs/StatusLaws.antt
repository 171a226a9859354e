-- What is found in a list by an id, and what a status information tells: just what stands in its bytes. Assumes nothing.
use mathlib.Core.Path.{◌≡◌, refl, sym, ap, ◌∙◌}
use mathlib.Core.Bool.{Bool, true, false, and-eq-true_iff}
use mathlib.Core.Logic.Iff
use mathlib.Core.Logic.{◌↔◌, inl, inr, ⊎_elim}
use mathlib.Core.List.{List, [], ◌∷◌, ◌++◌}
use Prim.Native.Nat.{ℕ}
use native.Mathlib.Omega.{arith}
use lib.ListN.{length, get_or}
use lib.Dec.{eqb}
use borrow.Author.Tests.{eqb-true, eqb-false, eq-eqb, ne_eqb}
use Rattle.std.proofs.Common.{Some}
use Rattle.zvt_rules.specs.declared.Format.{Format}
use Rattle.zvt_rules.specs.declared.Format.TheVariants.{Unknown, Fixed, Digits, Container}
use Rattle.basics.specs.Lists.{among}
use Rattle.zvt_rules.specs.Reading.{Reading, got, refused}
use Rattle.zvt_rules.specs.Fields.{format_of, holds_digits, Field, plain, container, field_id}
use Rattle.zvt_rules.specs.Message.{layout_of, Body, bytes, listed, Message, read_of}
use Rattle.zvt_rules.specs.believed.Writing.{len_bytes, sized, run_bytes, length_in, field_bytes, field_value}
use Rattle.basics.specs.believed.Lists.{Bytes, In}
use Rattle.zvt_rules.specs.believed.Grammar.{SizeOk, FieldOk, ListOk, FieldsOk, LayoutOk, MessageOk}
use Rattle.zvt_rules.specs.Digits.{number_of}
use Rattle.zvt_rules.specs.Values.{is_status, Found, missing, found, value_in, code_of, amount_of, receipt_of, code_in, amount_in, receipt_in, status_in, body_fields, status_fields, status_of}
use Rattle.zvt_rules.specs.believed.Digits.{Spells}
use Rattle.zvt_rules.specs.believed.Values.{Tells, TellsNumber}
use Rattle.zvt_rules.specs.believed.Found.{Leads}
use Rattle.basics.proofs.Tests.{pick_true, pick-false, pick-test, neither, never}
use Rattle.basics.proofs.Lists.{in-none, in-first, in-more}
use Rattle.zvt_rules.proofs.Spelling.{spells-exactly, digits-say, said-once, length-said}
use Rattle.zvt_rules.proofs.FieldBytes.{digit_bytes-size}
use Rattle.zvt_rules.proofs.MessageBytes.{read-sound, read-complete}

-- the value of the first field with that id
unfoldable pub First : ℕ → List Field → List ℕ → Type 0
First id fs value =
    (before : List Field) × (f : Field) × (after : List Field)
    × (fs ≡ before ++ (f ∷ after)) × ((g : Field) → In g before → field_id g ≡ id → ⊥) × (field_id f ≡ id) × (field_value f ≡ value)

-- ---- what stands between an id and a value
-- F2, F3: of a plain field, what is written there and how long the value may be is just what the format says
pub leads-exactly : (form : Format) (lead value : List ℕ) → (form ≡ Container → ⊥)
    → Leads form lead value ↔ (SizeOk form (length value) × (lead ≡ length_in form (length value)))
unfolding Leads SizeOk length_in
leads-exactly Unknown lead value h = (λ k. absurd k, λ k. absurd k.0)
leads-exactly (Fixed k) lead value h = (λ l. (l.1, l.0), λ l. (l.1, l.0))
leads-exactly (Digits d) lead value h = (
  λ l. rw l.0 at (said-once lead (length value) l.1),
  λ l. rw l.1 (digit_bytes-size d (length value), digits-say d (length value) l.0),
)
leads-exactly Container lead value h = absurd (h refl)

-- F1: a field is its id, that, and its value
pub value-behind : (f : Field) → FieldOk f
    → (lead : List ℕ) × (field_bytes f ≡ field_id f ∷ (lead ++ field_value f)) × Leads (format_of (field_id f)) lead (field_value f)
unfolding FieldOk SizeOk Leads field_bytes sized field_id field_value format_of among
value-behind (plain id value) ok =
    let lead = length_in (format_of id) (length value) in
    (lead, refl, (leads-exactly (format_of id) lead value (λ e. rw e at ok.0)).1 (ok.0, refl))
value-behind (container form os) ok =
    let n = length (run_bytes os) in (len_bytes form n, refl, (form, (length-said form (len_bytes form n) n).1 (ok.0, refl)))

-- ---- what is found by an id
not_found : {X : Type 0} {value : List ℕ} → ◌≡◌ {A = Found} missing (found value) → X
not_found e = never cc

-- the value of the first field with that id
pub found-exactly : (id : ℕ) (fs : List Field) (value : List ℕ) → (value_in id fs ≡ found value) ↔ First id fs value
unfolding value_in First
found-exactly id fs value = (to fs, λ k. rw k.3 (from k.0 k.1 k.2 k.4 k.5 k.6))
  where
    to : (fs : List Field) → value_in id fs ≡ found value → First id fs value
    to [] = λ e. not_found e
    to (f ∷ fs) =
        pick-test (λ x. x ≡ found value → First id (f ∷ fs) value) (eqb (field_id f) id)
        (λ t e. ([], f, fs, refl, (λ g k. in-none k), eqb-true (field_id f) id t, cc))
        λ t e. let k = to fs e in (
          f ∷ k.0,
          k.1,
          k.2,
          ap (λ l. f ∷ l) k.3,
          (λ g i. ⊎_elim (λ q. rw q (eqb-false (field_id f) id t)) (k.4 g) (in-first i)),
          k.5,
          k.6,
        )

    from : (before : List Field) (f : Field) (after : List Field) → ((g : Field) → In g before → field_id g ≡ id → ⊥) → field_id f ≡ id
        → field_value f ≡ value → value_in id (before ++ (f ∷ after)) ≡ found value
    from [] f after other same v = pick_true _ _ (eq-eqb (field_id f) id same) ∙ ap found v
    from (h ∷ before) f after other same v =
        pick-false _ _ (ne_eqb (field_id h) id (other h (in-more (inl refl))))
        ∙ from before f after (λ g i. other g (in-more (inr i))) same v

-- nothing, exactly where no field has it
pub missing-exactly : (id : ℕ) (fs : List Field) → (value_in id fs ≡ missing) ↔ ((f : Field) → In f fs → field_id f ≡ id → ⊥)
unfolding value_in
missing-exactly id fs = (to fs, from fs)
  where
    to : (fs : List Field) → value_in id fs ≡ missing → (f : Field) → In f fs → field_id f ≡ id → ⊥
    to [] = λ e f k. in-none k
    to (g ∷ fs) =
        pick-test (λ x. x ≡ missing → (f : Field) → In f (g ∷ fs) → field_id f ≡ id → ⊥) (eqb (field_id g) id) (λ t e. not_found (sym e))
        λ t e f k. ⊎_elim (λ q. rw q (eqb-false (field_id g) id t)) (to fs e f) (in-first k)

    from : (fs : List Field) → ((f : Field) → In f fs → field_id f ≡ id → ⊥) → value_in id fs ≡ missing
    from [] h = refl
    from (f ∷ fs) h = pick-false _ _ (ne_eqb (field_id f) id (h f (in-more (inl refl)))) ∙ from fs λ g k. h g (in-more (inr k))

-- ---- a list of an accepted message
pub not_seen : (seen : List ℕ) (fs : List Field) (f : Field) → ListOk seen fs → In f fs → among seen (field_id f) ≡ false
unfolding ListOk among
not_seen seen [] f ok k = in-none k
not_seen seen (g ∷ fs) f ok k =
    ⊎_elim (λ e. rw e ok.1)
    (λ i. (neither (eqb (field_id g) (field_id f)) (among seen (field_id f)) (not_seen (field_id g ∷ seen) fs f ok.2 i)).1) (in-first k)

pub field_in : (seen : List ℕ) (fs : List Field) (f : Field) → ListOk seen fs → In f fs → FieldOk f
unfolding ListOk
field_in seen [] f ok k = in-none k
field_in seen (g ∷ fs) f ok k = ⊎_elim (λ e. rw e ok.0) (field_in (field_id g ∷ seen) fs f ok.2) (in-first k)

-- F4: a field that stands there is the one that is found
pub value-in : (seen : List ℕ) (fs : List Field) (f : Field) → ListOk seen fs → In f fs → value_in (field_id f) fs ≡ found (field_value f)
unfolding ListOk value_in among
value-in seen [] f ok k = in-none k
value-in seen (g ∷ fs) f ok k =
    ⊎_elim (λ e. rw e (pick_true _ _ (eq-eqb (field_id g) (field_id g) refl)))
    (λ i.
    let other = (neither (eqb (field_id g) (field_id f)) (among seen (field_id f)) (not_seen (field_id g ∷ seen) fs f ok.2 i)).0 in
    pick-false _ _ other ∙ value-in (field_id g ∷ seen) fs f ok.2 i) (in-first k)

-- what is found by another id than 06 stands there as plain bytes
plain_in : (id : ℕ) (fs : List Field) (value : List ℕ) → (id ≡ 0x06 → ⊥) → value_in id fs ≡ found value → In (plain id value) fs
unfolding value_in field_id field_value
plain_in id [] value h = λ e. not_found e
plain_in id (plain k w ∷ fs) value h =
    pick-test (λ x. x ≡ found value → In (plain id value) (plain k w ∷ fs)) (eqb k id)
    (λ t e. in-more (inl (let i = eqb-true k id t in cc))) (λ t e. in-more (inr (plain_in id fs value h e)))
plain_in id (container form os ∷ fs) value h =
    pick-test (λ x. x ≡ found value → In (plain id value) (container form os ∷ fs)) (eqb 0x06 id)
    (λ t e. absurd (h (sym (eqb-true 0x06 id t)))) (λ t e. in-more (inr (plain_in id fs value h e)))

-- ---- the fields of a status information
abbrev status : Bool → List Field → Message
status long fs = record { class = 0x04; instruction = 0x0F; long = long; body = listed [] fs }

status-list : (long : Bool) (fs : List Field) → MessageOk (status long fs) → ListOk [] fs
unfolding MessageOk LayoutOk FieldsOk layout_of among
status-list long fs ok = ok.0.1.0

-- the body of an accepted one is a list
status-body : (m : Message) → MessageOk m → m.class ≡ 0x04 → m.instruction ≡ 0x0F → m ≡ status m.long (body_fields m.body)
unfolding MessageOk LayoutOk body_fields layout_of among
status-body m ok c i = go m.body refl (rw (c, i) at ok.0)
  where
    go : (b : Body) → m.body ≡ b → LayoutOk (layout_of 0x04 0x0F) b → m ≡ status m.long (body_fields b)
    go (bytes s) e l = absurd l
    go (listed password fs) e l = rw (← c, ← i, ← l.0, ← e)

-- a field is found in what is read exactly where it stands in the bytes
in-status : (s : List ℕ) (id : ℕ) (value : List ℕ) → Bytes s → (id ≡ 0x06 → ⊥)
    → (value_in id (status_fields (read_of s)) ≡ found value) ↔ Tells s id value
unfolding Tells status_fields body_fields value_in field_id field_value
in-status s id value b h = (to (read_of s) refl, from)
  where
    to : (r : Reading Message) → read_of s ≡ r → value_in id (status_fields r) ≡ found value → Tells s id value
    to (refused f) e = λ k. not_found k
    to (got m) e =
        pick-test (λ fs. value_in id fs ≡ found value → Tells s id value) (is_status m)
        (λ t k.
        let p = (and-eq-true_iff (eqb m.class 0x04) (eqb m.instruction 0x0F)).0 t in
        let is = read-sound s m b e in
        let same = status-body m is.1 (eqb-true m.class 0x04 p.0) (eqb-true m.instruction 0x0F p.1) in
        (m.long, body_fields m.body, (rw same at is.0, rw same at is.1), plain_in id (body_fields m.body) value h k))
        λ t k. not_found k

    from : Tells s id value → value_in id (status_fields (read_of s)) ≡ found value
    from (long, fs, is, k) =
        let read : read_of s ≡ got (status long fs) = rw (← is.0) (read-complete (status long fs) is.1) in
        ap (λ r. value_in id (status_fields r)) read ∙ value-in [] fs (plain id value) (status-list long fs is.1) k

-- it keeps the limits
told-ok : (s : List ℕ) (id : ℕ) (value : List ℕ) → Tells s id value → FieldOk (plain id value)
unfolding Tells
told-ok s id value (long, fs, is, k) = field_in [] fs (plain id value) (status-list long fs is.1) k

-- ---- P20: what a status information tells
one_byte : (value : List ℕ) → length value ≡ 1 → value ≡ get_or value 0 0 ∷ []
one_byte [] e = absurd (omega arith)
one_byte (b ∷ []) e = refl
one_byte (b ∷ (c ∷ s)) e = absurd (omega arith)

-- the number in what was found
Numbered : Found → ℕ → Type 0
Numbered x n = (value : List ℕ) × (x ≡ found value) × (number_of value ≡ n)

amount-from : (x : Found) (n : ℕ) → (amount_of x ≡ Some n) ↔ Numbered x n
unfolding amount_of Numbered
amount-from missing n = (λ e. never cc, λ k. not_found k.1)
amount-from (found value) n = (λ e. (value, refl, cc), λ k. let e = k.1 in let f = k.2 in cc)

receipt-from : (x : Found) (n : ℕ) → (receipt_of x ≡ Some n) ↔ Numbered x n
unfolding receipt_of Numbered
receipt-from missing n = (λ e. never cc, λ k. not_found k.1)
receipt-from (found value) n = (λ e. (value, refl, cc), λ k. let e = k.1 in let f = k.2 in cc)

module _ (s : List ℕ) (b : Bytes s) where
  digits-told : (id n : ℕ) → (id ≡ 0x06 → ⊥) → holds_digits id ≡ true
      → Numbered (value_in id (status_fields (read_of s))) n ↔ ((value : List ℕ) × Tells s id value × Spells value n)
  unfolding Numbered FieldOk
  digits-told id n h d = (
    λ k.
        let t = (in-status s id k.0 b h).0 k.1 in
        (k.0, t, (spells-exactly k.0 n).1 ((told-ok s id k.0 t).1 d, k.2)),
    λ k. (k.0, (in-status s id k.0 b h).1 k.1, ((spells-exactly k.0 n).0 k.2).1),
  )

  pub code-exactly : (c : ℕ) → ((status_of s).code ≡ Some c) ↔ Tells s 0x27 (c ∷ [])
  unfolding status_of status_in code_in code_of FieldOk SizeOk format_of among
  code-exactly c = (to (value_in 0x27 (status_fields (read_of s))) refl, λ k. rw ((in-status s 0x27 (c ∷ []) b (λ e. omega arith)).1 k))
    where
      to : (x : Found) → value_in 0x27 (status_fields (read_of s)) ≡ x → code_of x ≡ Some c → Tells s 0x27 (c ∷ [])
      to missing e h = never cc
      to (found value) e h =
          let k = (in-status s 0x27 value b (λ e. omega arith)).0 e in
          let first : get_or value 0 0 ≡ c = cc in
          rw (one_byte value (told-ok s 0x27 value k).0, first) at k

  pub amount-exactly : (n : ℕ) → ((status_of s).amount ≡ Some n) ↔ TellsNumber s 0x04 n
  unfolding status_of status_in amount_in among
  amount-exactly n = Iff.trans (amount-from _ n) (digits-told 0x04 n (λ e. omega arith) refl)

  pub receipt-exactly : (n : ℕ) → ((status_of s).receipt ≡ Some n) ↔ TellsNumber s 0x87 n
  unfolding status_of status_in receipt_in among
  receipt-exactly n = Iff.trans (receipt-from _ n) (digits-told 0x87 n (λ e. omega arith) refl)
