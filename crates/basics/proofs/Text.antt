-- Hex, decimal numbers and text in a buffer: the definitions and the second writing agree. Assumes nothing.
use mathlib.Core.Path.{◌≡◌, refl, sym, ap, ap₂, ◌∙◌}
use mathlib.Core.Logic.{◌↔◌, ◌⊎◌, inl, inr, ⊎_elim}
use mathlib.Core.List.{List, [], ◌∷◌, ◌++◌, append-nil, append_assoc}
use Prim.Native.Nat.{ℕ, zero, suc, ◌+◌, ◌-◌, ◌*◌, ◌/◌, ◌%◌, ◌^◌, ◌<◌, ◌≤◌, min}
use native.Mathlib.Nat.{add-zero, eq-zero-or-pos}
use native.Mathlib.Numerals.{add-one}
use native.Mathlib.Omega.{arith}
use lib.ListN.{length, get_or, take, drop, set, length-set, length-append, take-append-drop, drop_of_length-le}
use lib.Seq.{take-nil, take_all, take-suc-set, drop-set-lt}
use lib.Dec.{ltb, eqb}
use borrow.Author.Tests.{eqb-true, lt-ltb, le-ltb, ltb-true, ltb-false}
use Rattle.basics.specs.Choice.{pick}
use Rattle.basics.specs.Lists.{part}
use Rattle.basics.specs.Buffers.{front}
use Rattle.basics.specs.Text.{text, add_one, add_all, hex_digit, hex_text, hexes, bytes_text, hex_value, decimal_by, decimal_text}
use Rattle.basics.specs.believed.Lists.{Bytes}
use Rattle.basics.specs.believed.Text.{ascii, digit, Hex, SaysBehind, Decimal}
use Rattle.basics.proofs.Tests.{by-test, pick-alike, all_from, at_from, never}

-- ---- a second writing of what no rule of messages says: bytes as a script has them, and text in a buffer

-- bytes in hex, two digits for each; `-` for none
unfoldable pub Hexes : List ℕ → List ℕ → Type 0
Hexes s w = (length w ≡ 2 * length s) × ((i : ℕ) → i < length s → Hex (get_or s i 0) (part (2 * i) (2 * i + 2) w))

unfoldable pub BytesText : List ℕ → List ℕ → Type 0
BytesText s w = ((s ≡ []) × (w ≡ ascii "-")) ⊎ ((0 < length s) × Hexes s w)

-- the value of a hex digit of either case: its place, or 16 where it has none
abbrev place_in : List ℕ → ℕ → ℕ
place_in [] c = 0
place_in (d ∷ ds) c = pick (eqb d c) 0 (1 + place_in ds c)

abbrev pub value_drawn : ℕ → ℕ
value_drawn c = min (place_in (ascii "0123456789ABCDEF") c) (place_in (ascii "0123456789abcdef") c)

-- a buffer with w put behind its first at bytes, as much of w as there is room for; and where that ends
abbrev pub put : List ℕ → ℕ → List ℕ → List ℕ
put w at out = take at out ++ (take (length out - at) w ++ drop (at + length w) out)

abbrev pub put_end : List ℕ → ℕ → List ℕ → ℕ
put_end w at out = at + min (length w) (length out - at)

-- ---- hex
pub digit-is : (d : ℕ) → d < 16 → digit d ≡ hex_digit d
unfolding all_from
digit-is d h = eqb-true _ _ (at_from (λ x. eqb (digit x) (hex_digit x)) 0 16 refl d (omega arith) h)

pub hex-only : (b : ℕ) (w : List ℕ) → Hex b w → w ≡ hex_text b
unfolding Hex hex_text
hex-only b w (high, low, x, y, e, t) =
    let u : b / 16 ≡ high = omega arith in
    let v : b % 16 ≡ low = omega arith in
    rw (u, v, ← (digit-is high x), ← (digit-is low y)) t

pub hex-is : (b : ℕ) → b < 256 → Hex b (hex_text b)
unfolding Hex hex_text
hex-is b h =
    let x : b / 16 < 16 = omega arith in
    let y : b % 16 < 16 = omega arith in
    (b / 16, b % 16, x, y, omega arith, rw (digit-is (b / 16) x, digit-is (b % 16) y))

pub hex-exactly : (b : ℕ) (w : List ℕ) → b < 256 → Hex b w ↔ (w ≡ hex_text b)
hex-exactly b w h = (hex-only b w, λ e. rw e (hex-is b h))

-- all 256 bytes, by computing
pub hex-value-drawn : (c : ℕ) → c < 256 → hex_value c ≡ value_drawn c
unfolding all_from
hex-value-drawn c h = eqb-true _ _ (at_from (λ x. eqb (hex_value x) (value_drawn x)) 0 256 refl c (omega arith) h)

-- ---- decimal numbers
-- two bounds that both suffice give the same: none is ever spent
enough : (f g n : ℕ) → n < f → n < g → decimal_by f n ≡ decimal_by g n
unfolding decimal_by
enough zero g n h k = absurd (omega arith)
enough (suc f) zero n h k = absurd (omega arith)
enough (suc f) (suc g) n h k =
    pick-alike (ltb n 10) (λ t. refl)
    (λ t. let l = ltb-false n 10 t in ap (λ (w : List ℕ). w ++ ((48 + n % 10) ∷ [])) (enough f g (n / 10) (omega arith) (omega arith)))

-- one digit, and one digit behind others
pub decimal-one : (n : ℕ) → n < 10 → decimal_text n ≡ (48 + n) ∷ []
unfolding decimal_text decimal_by
decimal-one n h = rw (lt-ltb n 10 h)

pub decimal-more : (n : ℕ) → 10 ≤ n → decimal_text n ≡ decimal_text (n / 10) ++ ((48 + n % 10) ∷ [])
unfolding decimal_text decimal_by
decimal-more n h = rw (le-ltb n 10 h) (ap (λ (w : List ℕ). w ++ ((48 + n % 10) ∷ [])) (enough n (suc (n / 10)) (n / 10) (omega arith) (omega arith)))

decimal_digit : (d : ℕ) → d < 10 → digit d ≡ 48 + d
decimal_digit d h = digit-is d (omega arith) ∙ rw (lt-ltb d 10 h)

-- digits behind those of v
said : (w p : List ℕ) (v n : ℕ) → 0 < v → p ≡ decimal_text v → SaysBehind v w n → p ++ w ≡ decimal_text n
unfolding SaysBehind
said [] p v n h e s = append-nil p ∙ e ∙ ap decimal_text s
said (c ∷ w) p v n h e (d, k, q, s) =
    let x : (v * 10 + d) / 10 ≡ v = omega arith in
    let y : (v * 10 + d) % 10 ≡ d = omega arith in
    let longer : p ++ (c ∷ []) ≡ decimal_text (v * 10 + d) =
    rw (q, decimal_digit d k, decimal-more (v * 10 + d) (omega arith), x, y) (ap (λ (u : List ℕ). u ++ ((48 + d) ∷ [])) e) in
    sym (append_assoc p (c ∷ []) w) ∙ said w (p ++ (c ∷ [])) (v * 10 + d) n (omega arith) longer s

says-one-more : (w : List ℕ) (v t n d : ℕ) → SaysBehind v w t → d < 10 → n ≡ t * 10 + d → SaysBehind v (w ++ (digit d ∷ [])) n
unfolding SaysBehind
says-one-more [] v t n d s h e = (d, h, refl, rw s (sym e))
says-one-more (c ∷ w) v t n d (x, k, q, s) h e = (x, k, q, says-one-more w (v * 10 + x) t n d s h e)

says-small : (n : ℕ) → n < 10 → Decimal n (decimal_text n)
unfolding Decimal SaysBehind
says-small n l =
    ⊎_elim (λ z. inl (z, rw (z, decimal-one 0 (omega arith)))) (λ p. inr (n, [], p, l, rw (decimal_digit n l) (decimal-one n l), refl))
    (eq-zero-or-pos n)

says-large : (n : ℕ) → 10 ≤ n → Decimal (n / 10) (decimal_text (n / 10)) → Decimal n (decimal_text n)
unfolding Decimal
says-large n l = ⊎_elim (λ k. absurd (omega (arith, k.0)))
    (λ (d, v, p, q, e, s).
    let low : n % 10 < 10 = omega arith in
    let last = digit (n % 10) ∷ [] in
    let behind = ap (λ (u : List ℕ). u ++ last) e in
    inr (d, v ++ last, p, q, decimal-more n l ∙ rw (← (decimal_digit (n % 10) low)) behind, says-one-more v d (n / 10) n (n % 10) s low (omega arith)))

says-by : (f n : ℕ) → n < f → Decimal n (decimal_text n)
says-by zero n h = absurd (omega arith)
says-by (suc f) n h =
    by-test (ltb n 10) (λ t. says-small n (ltb-true n 10 t))
    (λ t. let l = ltb-false n 10 t in says-large n l (says-by f (n / 10) (omega arith)))

pub decimal-exactly : (n : ℕ) (w : List ℕ) → Decimal n w ↔ (w ≡ decimal_text n)
unfolding Decimal
decimal-exactly n w = (
  ⊎_elim (λ k. k.1 ∙ rw (k.0, decimal-one 0 (omega arith)))
      (λ k. k.4 ∙ said k.1 (digit k.0 ∷ []) k.0 n k.2 (rw (decimal_digit k.0 k.3, decimal-one k.0 k.3)) k.5),
  λ e. rw e (says-by (suc n) n (omega arith)),
)

-- a number below 10 to the k has at most k digits
pub decimal-long : (k n : ℕ) → n < 10 ^ suc k → length (decimal_text n) ≤ suc k
decimal-long zero n h = omega (arith, ap length (decimal-one n h))
decimal-long (suc k) n h =
    by-test (ltb n 10) (λ t. omega (arith, ap length (decimal-one n (ltb-true n 10 t))))
    (λ t.
    let less : n / 10 < 10 ^ suc k = omega arith in
    omega (arith, ap length (decimal-more n (ltb-false n 10 t)), length-append (decimal_text (n / 10)) ((48 + n % 10) ∷ []), decimal-long k (n / 10) less))

-- ---- bytes in hex, one behind the other
hexes-long : (s : List ℕ) → length (hexes s) ≡ 2 * length s
unfolding hexes hex_text
hexes-long [] = refl
hexes-long (b ∷ s) = omega (arith, hexes-long s)

pub bytes-long : (s : List ℕ) → length (bytes_text s) ≤ 2 * length s + 1
unfolding bytes_text
bytes-long [] = omega arith
bytes-long (b ∷ s) = omega (arith, hexes-long (b ∷ s))

-- two digits in front move the others by two
moved : (x y : ℕ) (w : List ℕ) (i : ℕ) → part (2 * suc i) (2 * suc i + 2) (x ∷ (y ∷ w)) ≡ part (2 * i) (2 * i + 2) w
moved x y w i =
    let a : 2 * suc i ≡ suc (suc (2 * i)) = omega arith in
    let e : 2 * suc i + 2 - 2 * suc i ≡ 2 * i + 2 - 2 * i = omega arith in
    rw (e, a)

hexes-at : (s : List ℕ) → Bytes s → (i : ℕ) → i < length s → Hex (get_or s i 0) (part (2 * i) (2 * i + 2) (hexes s))
unfolding hexes hex_text Bytes
hexes-at [] h i l = absurd (omega arith)
hexes-at (b ∷ s) h zero l = hex-is b (h 0)
hexes-at (b ∷ s) h (suc i) l = rw (moved _ _ (hexes s) i) (hexes-at s (λ k. h (suc k)) i (omega arith))

hexes-only : (s w : List ℕ) → Hexes s w → w ≡ hexes s
unfolding hexes hex_text Hexes
hexes-only [] [] k = refl
hexes-only [] (x ∷ w) k = absurd (omega (arith, k.0))
hexes-only (b ∷ s) [] k = absurd (omega (arith, k.0))
hexes-only (b ∷ s) (x ∷ []) k = absurd (omega (arith, k.0))
hexes-only (b ∷ s) (x ∷ (y ∷ w)) k =
    let first : x ∷ (y ∷ []) ≡ hex_text b = hex-only b (x ∷ (y ∷ [])) (k.1 0 (omega arith)) in
    let rest : w ≡ hexes s = hexes-only s w (omega (arith, k.0), λ i l. rw (moved x y w i) at (k.1 (suc i) (omega arith))) in
    ap₂ (λ (u v : List ℕ). u ++ v) first rest

pub bytes-text-exactly : (s w : List ℕ) → Bytes s → BytesText s w ↔ (w ≡ bytes_text s)
unfolding BytesText Hexes bytes_text
bytes-text-exactly [] w h = (⊎_elim (λ k. k.1) (λ k. absurd (omega (arith, k.0))), λ e. inl (refl, e))
bytes-text-exactly (b ∷ s) w h = (
  ⊎_elim (λ k. never (cc k.0)) (λ k. hexes-only (b ∷ s) w k.1),
  λ e. rw e (inr (omega arith, (hexes-long (b ∷ s), hexes-at (b ∷ s) h))),
)

-- ---- text in a buffer
-- the first byte with room for it, and without
put-room : (b : ℕ) (w : List ℕ) (at : ℕ) (out : List ℕ) → at < length out → put w (at + 1) (set out at b) ≡ put (b ∷ w) at out
put-room b w at out h =
    let left : length out - at ≡ suc (length out - suc at) = omega arith in
    let behind : suc at + length w ≡ at + suc (length w) = omega arith in
    let rest = take (length out - suc at) w ++ drop (at + suc (length w)) out in
    rw (length-set out at b, add-one at, left, behind, take-suc-set out at b h, drop-set-lt (at + suc (length w)) out at b (omega arith))
    (append_assoc (take at out) (b ∷ []) rest)

put_full : (v w : List ℕ) (at : ℕ) (out : List ℕ) → length out ≤ at → put v at out ≡ put w at out
put_full v w at out h =
    let none : length out - at ≡ 0 = omega arith in
    let all : (k : ℕ) → drop (at + k) out ≡ [] = λ k. drop_of_length-le out {i = at + k} (omega arith) in
    rw (none, all (length v), all (length w))

pub put-exactly : (w : List ℕ) (at : ℕ) (out : List ℕ) → add_all w (text at out) ≡ text (put_end w at out) (put w at out)
unfolding add_all add_one
put-exactly [] at out =
    let z : at + min 0 (length out - at) ≡ at = omega arith in
    rw (z, add-zero at, take-nil (length out - at)) (ap (text at) (sym (take-append-drop at out)))
put-exactly (b ∷ w) at out =
    by-test (ltb at (length out))
    (λ t.
    let h = ltb-true at (length out) t in
    let end : put_end w (at + 1) (set out at b) ≡ put_end (b ∷ w) at out = rw (length-set out at b) (omega arith) in
    rw t (put-exactly w (at + 1) (set out at b) ∙ ap₂ text end (put-room b w at out h)))
    (λ t.
    let h = ltb-false at (length out) t in
    rw t (put-exactly w at out ∙ ap₂ text (omega arith) (put_full w (b ∷ w) at out h)))

-- where there is room for all of it, nothing is cut off
pub put_whole : (w out : List ℕ) → length w ≤ length out → add_all w (text 0 out) ≡ text (length w) (front w out)
put_whole w out h =
    let end : put_end w 0 out ≡ length w = omega arith in
    let room : length out - 0 ≡ length out = omega arith in
    let behind : 0 + length w ≡ length w = omega arith in
    put-exactly w 0 out ∙ ap₂ text end (rw (room, behind, take_all (length out) w h))
