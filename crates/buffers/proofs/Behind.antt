-- A buffer whose start is written, and then the part behind it. Assumes nothing.
use mathlib.Core.Path.{◌≡◌, sym, ap}
use mathlib.Core.List.{List, ◌++◌, append_assoc, append-nil}
use Prim.Native.Nat.{ℕ, ◌-◌, ◌≤◌}
use native.Mathlib.Omega.{arith}
use lib.ListN.{length, take, drop, length-append, length-drop}
use lib.Seq.{take_at, drop_at, take-length, drop-length, drop-drop}
use Rattle.basics.specs.Lists.{part}
use Rattle.basics.specs.Buffers.{front}

-- t at the start, then w in the part behind it
module _ (t w d e : List ℕ) (n : ℕ) (first : e ≡ front t d) (at : length t ≡ n) where
  rest-size : length e - n ≡ length (drop (length t) d)
  rest-size = omega (arith, ap length first, length-append t (drop (length t) d))

  rest_is : part n (length e) e ≡ drop (length t) d
  rest_is = rw (rest-size, first, drop_at t (drop (length t) d) n at) (take-length (drop (length t) d))

  pub then-front : (y : List ℕ) → y ≡ front w (part n (length e) e) → take n e ++ (y ++ drop (length e - n) (drop n e)) ≡ front (t ++ w) d
  then-front y second =
      let r = drop (length t) d in
      rw (second, rest_is, rest-size, first, take_at t r n at, drop_at t r n at, drop-length r, append-nil, drop-drop (length w) (length t) d, ← (length-append t w))
      (sym (append_assoc t w (drop (length (t ++ w)) d)))

  -- there is room for it
  pub room-behind : length (t ++ w) ≤ length d → length w ≤ length (part n (length e) e)
  room-behind h = rw rest_is (omega (arith, h, length-append t w, length-drop (length t) d))
