-- Laws of numbers and bytes as a line has them. Assumes nothing.
use Rattle.std.proofs.Common.{◌≡◌, ℕ, zero, suc, ◌+◌, ◌-◌, ◌*◌, ◌/◌, ◌%◌, ◌^◌, ◌<◌, ◌≤◌, Bool, true, false, List, [], ◌∷◌, ◌++◌, length, get_or, drop, refl, sym, ap, ◌∙◌, arith}
use Rattle.std.specs.Prelude.{Some, None, ◌&&◌}
use Rattle.std.specs.List.{list_all}
use Rattle.std.proofs.Math.Bool.{and-eq-true_iff}
use Rattle.std.specs.Str.{bytes_eq}
use Rattle.std.specs.Cmp.Lexicographic.{same_text}
use native.Mathlib.Numerals.{add-one}
use lib.ListN.{set, drop_of_length-le}
use lib.Seq.{drop-cons}
use lib.Dec.{leb, ltb, eqb}
use borrow.Author.Tests.{lt-ltb, le-ltb, ltb-true, ltb-false, le-leb}
use Rattle.basics.specs.Choice.{pick}
use Rattle.basics.specs.Text.{text, add_one, add_all}
use Rattle.basics.specs.believed.Text.{ascii}
use Rattle.basics.proofs.Tests.{by-test}
use Rattle.words.specs.Notation.{is_digit, value_from, number_from, word_number, is_hex, in_pairs, hex_byte, pairs_of, bytes_of}
use Rattle.words.specs.Lines.{if_some}
use Rattle.words.specs.Steps.{Fits}

-- ---- hex digits
pub hex_at : (w : List ℕ) → list_all is_hex w ≡ true → (i : ℕ) → i < length w → is_hex (get_or w i 0) ≡ true
hex_at [] t i h = absurd (omega arith)
hex_at (c ∷ w) t zero h = ((and-eq-true_iff (is_hex c) (list_all is_hex w)).0 t).0
hex_at (c ∷ w) t (suc i) h = hex_at w ((and-eq-true_iff (is_hex c) (list_all is_hex w)).0 t).1 i (omega arith)

pub paired_hex : (w : List ℕ) → in_pairs w ≡ true → list_all is_hex w ≡ true
unfolding in_pairs
paired_hex w t = ((and-eq-true_iff (list_all is_hex w) (eqb (length w % 2) 0)).0 t).0

-- ---- pairs of them
pub pairs_size : (w : List ℕ) → length (pairs_of w) ≡ length w / 2
unfolding pairs_of
pairs_size [] = refl
pairs_size (high ∷ []) = refl
pairs_size (high ∷ (low ∷ w)) = omega (arith, pairs_size w)

-- both digits of each pair are hex digits; a digit that is left over counts for nothing
unfoldable pub AllPairs : List ℕ → Type 0
AllPairs [] = Unit {0}
AllPairs (high ∷ []) = Unit {0}
AllPairs (high ∷ (low ∷ w)) = (is_hex high ≡ true) × (is_hex low ≡ true) × AllPairs w

hex-pairs : (w : List ℕ) → list_all is_hex w ≡ true → AllPairs w
unfolding AllPairs
hex-pairs [] t = tt
hex-pairs (high ∷ []) t = tt
hex-pairs (high ∷ (low ∷ w)) t =
    let first = (and-eq-true_iff (is_hex high) (list_all is_hex (low ∷ w))).0 t in
    let second = (and-eq-true_iff (is_hex low) (list_all is_hex w)).0 first.1 in
    (first.0, second.0, hex-pairs w second.1)

-- what is written of bytes for which there is room
pub written : (w out : List ℕ) → Fits (bytes_of w) out → (bytes_of w ≡ Some (pairs_of w)) × AllPairs w
unfolding bytes_of pairs_of AllPairs
written w out f =
    by-test (bytes_eq w (ascii "-")) (λ t. rw (same_text w (ascii "-") (sym t)) (refl, tt))
    (λ t. by-test (leb 1 (length w) && in_pairs w)
    (λ u.
    let paired = ((and-eq-true_iff (leb 1 (length w)) (in_pairs w)).0 u).1 in
    (rw (t, u), hex-pairs w (paired_hex w paired)))
    (λ u. absurd (rw (t, u) at f)))

-- a pair, and what stands behind it
pub record First (pair rest all : List ℕ) : Type 0 where
  pub high : is_hex (get_or pair 0 0) ≡ true
  pub low : is_hex (get_or pair 1 0) ≡ true
  pub behind : AllPairs rest
  pub is : pairs_of all ≡ hex_byte (get_or pair 0 0) (get_or pair 1 0) ∷ pairs_of rest

pub first_pair : (pair rest all : List ℕ) → all ≡ pair ++ rest → length pair ≡ 2 → AllPairs all → First pair rest all
unfolding AllPairs pairs_of
first_pair [] rest all e l k = absurd (omega arith)
first_pair (high ∷ []) rest all e l k = absurd (omega arith)
first_pair (high ∷ (low ∷ [])) rest all e l k =
    let a : AllPairs (high ∷ (low ∷ rest)) = rw e at k in
    record { high = a.0; low = a.1; behind = a.2; is = rw e }
first_pair (high ∷ (low ∷ (x ∷ pair))) rest all e l k = absurd (omega arith)

-- no pair is left
pub no_pair : (w : List ℕ) → length w < 2 → pairs_of w ≡ []
unfolding pairs_of
no_pair [] h = refl
no_pair (high ∷ []) h = refl
no_pair (high ∷ (low ∷ w)) h = absurd (omega arith)

-- a byte for which there is room, and others behind it
pub first_added : (b : ℕ) (v : List ℕ) (at : ℕ) (out : List ℕ) → at < length out
    → add_all (b ∷ v) (text at out) ≡ add_all v (text (at + 1) (set out at b))
unfolding add_all add_one
first_added b v at out h = rw (lt-ltb at (length out) h)

-- ---- numbers, digit by digit
value_grows : (w : List ℕ) (n : ℕ) → n ≤ value_from n w
unfolding value_from
value_grows [] n = omega arith
value_grows (c ∷ w) n = omega (arith, value_grows w (n * 10 + (c - 48)))

number-end : (n : ℕ) → n < 2 ^ 64 → number_from n [] ≡ Some n
unfolding number_from value_from
number-end n h = rw (lt-ltb n (2 ^ 64) h)

module _ (n c : ℕ) (w : List ℕ) where
  number-no : is_digit c ≡ false → number_from n (c ∷ w) ≡ None
  unfolding number_from
  number-no t = rw t

  number-yes : is_digit c ≡ true → number_from n (c ∷ w) ≡ number_from (n * 10 + (c - 48)) w
  unfolding number_from value_from
  number-yes t = rw t

  never_both : (t : Bool) (m : ℕ) → pick (t && false) (Some m) None ≡ None
  never_both true m = refl
  never_both false m = refl

  number-over : 2 ^ 64 ≤ n * 10 + (c - 48) → number_from n (c ∷ w) ≡ None
  unfolding number_from value_from
  number-over h =
      let value = value_from (n * 10 + (c - 48)) w in
      let over : 2 ^ 64 ≤ value = omega (arith, value_grows w (n * 10 + (c - 48))) in
      rw (le-ltb value (2 ^ 64) over) (never_both (list_all is_digit (c ∷ w)) _)

-- what one digit comes to, and others behind it
digit-more : (n c : ℕ) (w : List ℕ) → number_from n (c ∷ w) ≡ if_some (number_from n (c ∷ [])) (λ m. number_from m w)
unfolding if_some
digit-more n c w =
    let m = n * 10 + (c - 48) in
    by-test (is_digit c)
    (λ t. by-test (ltb m (2 ^ 64)) (λ u. rw (number-yes n c [] t, number-end m (ltb-true _ _ u)) (number-yes n c w t))
    (λ u. let over = ltb-false _ _ u in rw (number-over n c [] over, number-over n c w over)))
    (λ f. rw (number-no n c [] f, number-no n c w f))

pub at_digit : (w : List ℕ) (i n : ℕ) → i < length w → number_from n (drop i w) ≡ if_some (number_from n (get_or w i 0 ∷ [])) (λ m. number_from m (drop (i + 1) w))
at_digit w i n h = rw (add-one i) (ap (number_from n) (drop-cons w i 0 h) ∙ digit-more n (get_or w i 0) (drop (suc i) w))

pub at_end : (w : List ℕ) (i n : ℕ) → length w ≤ i → n < 2 ^ 64 → number_from n (drop i w) ≡ Some n
at_end w i n h l = ap (number_from n) (drop_of_length-le w h) ∙ number-end n l

pub number_sized : (w : List ℕ) → 1 ≤ length w → length w ≤ 20 → word_number w ≡ number_from 0 w
unfolding word_number
number_sized w h l = rw (le-leb 1 (length w) h, le-leb (length w) 20 l)
