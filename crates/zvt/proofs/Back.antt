-- Writing at the end of a buffer, one thing before the other. Assumes nothing.
use mathlib.Core.Path.{◌≡◌, sym, ap, ap₂, ◌∙◌}
use mathlib.Core.List.{List, [], ◌++◌, append_assoc, append-nil}
use Prim.Native.Nat.{ℕ, ◌+◌, ◌-◌, ◌≤◌}
use native.Mathlib.Omega.{arith}
use lib.ListN.{length, take, drop, length-append, length-take, length-drop, drop_of_length-le}
use lib.Seq.{take-length, take_at, drop_at, take-take, length-take-le}
use Rattle.zvt_rules.proofs.ObjectReading.{tail}
use Rattle.zvt.specs.WritingSteps.{back, Put}

-- nothing put leaves all as it was
pub put-none : (d : List ℕ) → Put [] d (length d) d
unfolding back
put-none d =
    let e : length d ≡ length d - 0 = omega arith in
    record { rest = e; done = rw (← e, append-nil (take (length d) d)) (sym (take-length d)) }

-- what is put may be said in another way
pub fits-as : {v w : List ℕ} {n : ℕ} → v ≡ w → length w ≤ n → length v ≤ n
fits-as e h = rw e h

pub put_as : {v w d x : List ℕ} {left : ℕ} → v ≡ w → Put v d left x → Put w d left x
put_as e p = rw (← e) p

-- w copied to the last part of d, which is as long
pub put-copied : (w d : List ℕ) → length w ≤ length d
    → (let at = length d - length w in
    let part = drop at d in
    let n = length d - at in
    take at d ++ ((take (length w) w ++ drop (length w) (take n part)) ++ drop n part) ≡ back w d)
unfolding back
put-copied w d h =
    let at = length d - length w in
    let n = length d - at in
    let l = length-drop at d in
    let k = length-take n (drop at d) in
    let a : drop (length w) (take n (drop at d)) ≡ [] = drop_of_length-le (take n (drop at d)) {i = length w} (omega arith) in
    let b : drop n (drop at d) ≡ [] = drop_of_length-le (drop at d) {i = n} (omega arith) in
    rw (a, b, take-length w, append-nil w, append-nil w)

-- what was put lies behind what is left
pub put-behind : {t d x : List ℕ} {left : ℕ} → Put t d left x → length t ≤ length d → (left ≤ length x) × (length x - left ≡ length t)
unfolding back
put-behind {t} {d} {x} {left} p h =
    let l = p.rest in
    let e = ap length p.done in
    let a = length-append (take (length d - length t) d) t in
    let k = length-take-le (length d - length t) d (omega arith) in
    omega arith

-- t was put first: so much is left for w before it, and what comes of both
module _ (w : List ℕ) {t d x : List ℕ} {left : ℕ} (p : Put t d left x) (h : length (w ++ t) ≤ length d) where
  fits : length w + length t ≤ length d
  fits = omega (arith, length-append w t)

  kept : length (take left d) ≡ left
  kept = length-take-le left d (omega (arith, p.rest))

  x-is : x ≡ take left d ++ t
  unfolding back
  x-is = p.done ∙ ap (λ (k : ℕ). take k d ++ t) (sym p.rest)

  lent : take left x ≡ take left d
  lent = ap (take left) x-is ∙ take_at (take left d) t left kept

  pub lend : left ≤ length x
  lend = (put-behind p (omega (arith, fits))).0

  pub lent-all : left ≡ length (take left x)
  lent-all = sym (ap length lent ∙ kept)

  pub room : length w ≤ length (take left x)
  room = omega (arith, fits, p.rest, lent-all)

  pub then-put : {y : List ℕ} {r : ℕ} → Put w (take left x) r y → Put (w ++ t) d r (y ++ drop left x)
  unfolding back
  then-put {y} {r} q =
      let l = p.rest in
      let f = fits in
      let a = length-append w t in
      let s = lent-all in
      let e : r ≡ length d - length (w ++ t) = q.rest ∙ omega arith in
      let k : r ≤ left = omega arith in
      let z : y ≡ take r d ++ w =
      q.done ∙ ap (λ (m : ℕ). take m (take left x) ++ w) (sym q.rest)
      ∙ ap (λ (u : List ℕ). u ++ w) (ap (take r) lent ∙ take-take r left d k)
      in
      record {
        rest = e;
        done =
            ap₂ (λ (u v : List ℕ). u ++ v) z (ap (drop left) x-is ∙ drop_at (take left d) t left kept) ∙ append_assoc (take r d) w t
            ∙ ap (λ (m : ℕ). take m d ++ (w ++ t)) e;
      }

-- t, and before it a head that says how long it is
module _ (head : ℕ → List ℕ) {t d x : List ℕ} {left : ℕ} (p : Put t d left x) (h : length (head (length t) ++ t) ≤ length d) where
  pub says : length x - left ≡ length t
  says = (put-behind p (omega (arith, length-append (head (length t)) t))).1

  pub head-room : length (head (length x - left)) ≤ length (take left x)
  head-room = rw says (room (head (length t)) p h)

  pub then-head : {y : List ℕ} {r : ℕ} → Put (head (length x - left)) (take left x) r y → Put (head (length t) ++ t) d r (y ++ drop left x)
  then-head q = then-put (head (length t)) p h (rw says at q)

-- w for the first k bytes of s and the short form of the rest: the rest, and w before it
abbrev behind : ℕ → List ℕ → List ℕ
behind k s = take (length s - k) (drop k s)

module _ (short : List ℕ → List ℕ) {whole : List ℕ} (w s d : List ℕ) (k : ℕ) (all : whole ≡ w ++ short (drop k s))
    (h : length whole ≤ length d) where
  whole-fits : length (w ++ short (drop k s)) ≤ length d
  whole-fits = fits-as (sym all) h

  pub rest-fits : length (short (behind k s)) ≤ length d
  rest-fits = rw (tail k s) (omega (arith, whole-fits, length-append w (short (drop k s))))

  module _ {x : List ℕ} {left : ℕ} (p : Put (short (behind k s)) d left x) where
    rest_put : Put (short (drop k s)) d left x
    rest_put = put_as (ap short (tail k s)) p

    pub first-lend : left ≤ length x
    first-lend = lend w rest_put whole-fits

    pub first-lent : left ≡ length (take left x)
    first-lent = lent-all w rest_put whole-fits

    pub first-room : {v : List ℕ} → v ≡ w → length v ≤ length (take left x)
    first-room e = fits-as e (room w rest_put whole-fits)

    pub first-put : {v y : List ℕ} {r : ℕ} → v ≡ w → Put v (take left x) r y → Put whole d r (y ++ drop left x)
    first-put e q = put_as (sym all) (then-put w rest_put whole-fits (put_as e q))
