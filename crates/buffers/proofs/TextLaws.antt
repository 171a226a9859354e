-- Laws of text in a buffer and of numbers as text. Assumes nothing.
use mathlib.Core.Path.{◌≡◌, refl, sym, ◌∙◌, ap, ap₂}
use mathlib.Core.List.{List, [], ◌∷◌, ◌++◌, append-nil}
use Prim.Native.Nat.{ℕ, zero, suc, ◌+◌, ◌-◌, ◌*◌, ◌/◌, ◌%◌, ◌^◌, ◌≤◌, ◌<◌, min}
use native.Mathlib.Nat.{mod-eq_of_lt, div-lt_iff_lt-mul, le-div_iff_mul-le, pow-suc, one-le-pow, mod-lt}
use native.Mathlib.Numerals.{add-one}
use native.Mathlib.Omega.{arith}
use borrow.Author.Tests.{lt-ltb, le-ltb}
use lib.ListN.{length, take, drop, get_or, length-set, length-drop, drop_of_length-le}
use lib.Seq.{drop-cons, drop-drop, take_all, length-take-le}
use lib.Dec.{ltb}
use Rattle.basics.proofs.Tests.{pick-test}
use borrow.Rule.Slice.PartMut.{mid_of, post_of, put_mid}
use Rattle.io.specs.Counts.{IsPrefixLen}
use Rattle.io.specs.Digits.{last_digits, hex_digit_ascii, IsDigitCount}
use Rattle.std.proofs.lemmas.List.{take_min, drop_min}
use Rattle.basics.specs.Buffers.{front, Whole}
use Rattle.basics.specs.Text.{Text, text, add_one, add_all, hex_text, hexes, bytes_text, decimal_text}
use Rattle.basics.proofs.Text.{decimal-one, decimal-more, put-exactly, put_whole, put_end}

-- behind the end of the buffer nothing is added
pub full : (w : List ℕ) (at : ℕ) (out : List ℕ) → length out ≤ at → text at out ≡ add_all w (text at out)
unfolding add_all add_one
full [] at out h = refl
full (b ∷ w) at out h = rw (le-ltb at (length out) h) (full w at out h)

-- what is copied to the rest of the buffer is added
pub copied : (w : List ℕ) (at : ℕ) (out : List ℕ) (n : ℕ) (rest : List ℕ) → at ≤ length out → n ≡ min (length w) (length (mid_of at (length out - at) out))
    → rest ≡ take n w ++ drop n (mid_of at (length out - at) out) → text (at + n) (put_mid at (length out - at) out rest) ≡ add_all w (text at out)
copied w at out n rest h size e =
    let room : length (drop at out) ≡ length out - at = length-drop at out in
    let whole : mid_of at (length out - at) out ≡ drop at out = take_all (length out - at) (drop at out) (omega arith) in
    let least : n ≡ min (length w) (length (drop at out)) = rw whole at size in
    let fits : n ≡ min (length out - at) (length w) = omega arith in
    let first : take n w ≡ take (length out - at) w = rw fits (take_min (length out - at) w) in
    let behind : drop n (drop at out) ≡ drop (at + length w) out = rw least (drop_min (length w) (drop at out) ∙ drop-drop (length w) at out) in
    let nothing : post_of at (length out - at) out ≡ [] = drop_of_length-le (drop at out) (omega arith) in
    sym (put-exactly w at out ∙ ap₂ text (omega arith) (rw (e, whole, nothing, append-nil, first, behind)))

pub add_all-append : (v w : List ℕ) (t : Text) → add_all (v ++ w) t ≡ add_all w (add_all v t)
unfolding add_all
add_all-append [] w t = refl
add_all-append (b ∷ v) w t = add_all-append v w (add_one b t)

-- one text, and another behind it
pub both : (v w : List ℕ) (t : Text) {u x : Text} → u ≡ add_all v t → x ≡ add_all w u → x ≡ add_all (v ++ w) t
both v w t e f = f ∙ ap (λ (y : Text). add_all w y) e ∙ sym (add_all-append v w t)

-- a text that is written byte by byte
pub add_all-first : (b : ℕ) (w : List ℕ) (t : Text) → add_all (b ∷ w) t ≡ add_all w (add_all (b ∷ []) t)
unfolding add_all
add_all-first b w t = refl

add_one-room : (b : ℕ) (t : Text) → length (add_one b t).bytes ≡ length t.bytes
unfolding add_one
add_one-room b t =
    pick-test (λ (u : Text). length u.bytes ≡ length t.bytes) (ltb t.at (length t.bytes)) (λ _. length-set t.bytes t.at b) (λ _. refl)

pub add_all-room : (w : List ℕ) (t : Text) → length (add_all w t).bytes ≡ length t.bytes
unfolding add_all add_one
add_all-room [] t = refl
add_all-room (b ∷ w) t = add_all-room w (add_one b t) ∙ add_one-room b t

-- a text at the start of a buffer: with room for the longest that it can be it stands there whole; it never goes beyond the buffer
pub stands : (most : ℕ) (w out : List ℕ) (end : ℕ) (exit : List ℕ) → length w ≤ most → text end exit ≡ add_all w (text 0 out)
    → (most ≤ length out → Whole w end out exit) × IsPrefixLen end exit
stands most w out end exit long e =
    let least : end ≡ put_end w 0 out = ap (λ (x : Text). x.at) (e ∙ put-exactly w 0 out) in
    let whole : most ≤ length out → text end exit ≡ text (length w) (front w out) = λ h. e ∙ put_whole w out (omega arith) in
    let room : length exit ≡ length out = ap (λ (x : Text). length x.bytes) e ∙ add_all-room w (text 0 out) in
    let inside : end ≤ length exit = omega arith in
    (λ h. (ap (λ (x : Text). x.at) (whole h), ap (λ (x : Text). x.bytes) (whole h)), (inside, sym (length-take-le end exit inside)))

-- a loop that adds the part w: the room stays, and what is left, l and then l', comes to the same
pub goes_on : (w l l' : List ℕ) (t : Text) {u s : Text} {room : ℕ} → u ≡ add_all w t → add_all l t ≡ add_all l' (add_all w t)
    → (length t.bytes ≡ room) × (add_all l t ≡ s) → (length u.bytes ≡ room) × (add_all l' u ≡ s)
goes_on w l l' t e step (room, same) =
    (ap (λ (x : Text). length x.bytes) e ∙ add_all-room w t ∙ room, ap (λ (x : Text). add_all l' x) e ∙ sym step ∙ same)

-- bytes as hex, one after the other
pub hex_step : (v : List ℕ) (i : ℕ) (t : Text) → i < length v → add_all (hexes (drop i v)) t ≡ add_all (hexes (drop (i + 1) v)) (add_all (hex_text (get_or v i 0)) t)
unfolding hexes
hex_step v i t h = rw (add-one, drop-cons v i 0) (add_all-append (hex_text (get_or v i 0)) (hexes (drop (suc i) v)) t)

pub hex_none : (v : List ℕ) (i : ℕ) (t : Text) → length v ≤ i → add_all (hexes (drop i v)) t ≡ t
unfolding hexes add_all
hex_none v i t h = rw (drop_of_length-le v h)

pub bytes_none : (v : List ℕ) → length v ≡ 0 → bytes_text v ≡ 45 ∷ []
unfolding bytes_text
bytes_none [] h = refl
bytes_none (b ∷ v) h = absurd (omega arith)

pub bytes_some : (v : List ℕ) → (length v ≡ 0 → ⊥) → bytes_text v ≡ hexes v
unfolding bytes_text
bytes_some [] h = absurd (h refl)
bytes_some (b ∷ v) h = refl

-- ---- decimal numbers: the fewest digits that hold n
glyph-digit : (d : ℕ) → d < 10 → hex_digit_ascii d ≡ 48 + d
glyph-digit d h = rw (lt-ltb d 10 h)

last-digit : (n : ℕ) → hex_digit_ascii (n % 10) ≡ 48 + n % 10
last-digit n = glyph-digit (n % 10) (mod-lt n (omega arith))

pub decimals : (k n : ℕ) → IsDigitCount 10 1 n k → last_digits 10 k n ≡ decimal_text n
decimals zero n w = absurd (omega (arith, w.0))
decimals (suc zero) n w =
    let small : n < 10 = omega (arith, w.1) in
    ap (λ (g : ℕ). g ∷ []) (last-digit n ∙ ap (λ (d : ℕ). 48 + d) (mod-eq_of_lt small)) ∙ sym (decimal-one n small)
decimals (suc (suc k)) n w =
    let less : suc (suc k) - 1 ≡ suc k = omega arith in
    let large : 10 ^ suc k ≤ n = rw less at (w.2 (omega arith)) in
    let below : n < 10 ^ suc k * 10 = rw (pow-suc 10 (suc k)) at w.1 in
    let ten : 10 ^ k * 10 ≤ n = rw (pow-suc 10 k) at large in
    let one_more : 1 ≤ 10 ^ k = one-le-pow k 10 (omega arith) in
    let small : n / 10 < 10 ^ suc k = (div-lt_iff_lt-mul {k = 10} {x = n} {y = 10 ^ suc k} (omega arith)).1 below in
    let big : 10 ^ k ≤ n / 10 = (le-div_iff_mul-le {k = 10} {x = 10 ^ k} {y = n} (omega arith)).1 ten in
    let less' : suc k - 1 ≡ k = omega arith in
    let rest : IsDigitCount 10 1 (n / 10) (suc k) = (omega arith, small, λ z. rw less' big) in
    ap₂ (λ (l : List ℕ) (g : ℕ). l ++ (g ∷ [])) (decimals (suc k) (n / 10) rest) (last-digit n) ∙ sym (decimal-more n (omega arith))
