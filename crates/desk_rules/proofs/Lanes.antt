-- A call sees and changes its own lane and that lane's lines alone; what an accepted call tells. Assumes nothing.
use mathlib.Core.Path.{◌≡◌, refl, ap, sym, subst}
use mathlib.Core.Bool.{Bool, true, false, ◌&&◌}
use mathlib.Core.List.{List, [], ◌∷◌, ◌++◌, append-nil}
use Prim.Native.Nat.{ℕ, zero, suc, ◌+◌, ◌<◌, ◌≤◌}
use native.Mathlib.Omega.{arith}
use lib.Dec.{eqb, leb}
use lib.ListN.{length, get_or, set, length-set}
use lib.Seq.{get_or-set_same, get_or-set_other}
use borrow.Author.Tests.{eqb-true, eqb-false, eq-eqb, ne_eqb, leb-false, lt-leb, le-ltb}
use Rattle.std.proofs.Common.{Err, Ok, Option, Result}
use Rattle.zvt_rules.specs.declared.Refusal.{Refusal}
use Rattle.basics.specs.Choice.{pick}
use Rattle.basics.proofs.Tests.{pick_same, pick_under, never}
use Rattle.desk_rules.specs.declared.Lane.{Lane}
use Rattle.desk_rules.specs.declared.Line.{Line}
use Rattle.desk_rules.specs.declared.Moved.{Moved}
use Rattle.desk_rules.specs.declared.Moved.TheVariants.{Stays, Becomes, Ends}
use Rattle.desk_rules.specs.Numbers.{lane_count, book_lines}
use Rattle.desk_rules.specs.Kinds.{booked}
use Rattle.desk_rules.specs.Lanes.{idle_lane, line_at, line_taken}
use Rattle.desk_rules.specs.Openings.{refers_to, concerns, last_from, last_line}
use Rattle.desk_rules.specs.Course.{opened_by, Call, opening, message, lost, lane_of, opens, needs_line, moves, writes}
use Rattle.desk_rules.specs.Desk.{State, lane_at, lines_taken, load, Decision, refuse, accept, unless_refused, decide, lane_after, line_if, lines_from, step, Accepts}
use Rattle.desk_rules.specs.Runs.{having, of_lane, Own, own_of, total, one_opened}
use Rattle.desk_rules.proofs.Calls.{Passes}

-- ---- lists: the elements with a number, and sums

pub having-append : {A : Type 0} (f : A → ℕ) (k : ℕ) (xs ys : List A) → having f k (xs ++ ys) ≡ having f k xs ++ having f k ys
unfolding having
having-append f k [] ys = refl
having-append f k (x ∷ xs) ys = rw (having-append f k xs ys) (sym (pick_under (λ zs. zs ++ having f k ys) (eqb (f x) k) _ _))

pub total-append : {A : Type 0} (f : A → ℕ) (xs ys : List A) → total f (xs ++ ys) ≡ total f xs + total f ys
unfolding total
total-append f [] ys = omega arith
total-append f (x ∷ xs) ys = omega (arith, total-append f xs ys)

pub total-set : {A : Type 0} (f : A → ℕ) (xs : List A) (i : ℕ) (x d : A) → i < length xs → total f (set xs i x) + f (get_or xs i d) ≡ total f xs + f x
unfolding total
total-set f [] i x d h = absurd (omega arith)
total-set f (y ∷ xs) zero x d h = omega arith
total-set f (y ∷ xs) (suc i) x d h = omega (arith, total-set f xs i x d (omega arith))

-- ---- a call depends on its lane's own lines

pub last-local : (i : ℕ) (r : Option ℕ) (last : Line) (ls : List Line) → last_from i r last ls ≡ last_from i r last (of_lane i ls)
unfolding last_from having concerns
last-local i r last [] = refl
last-local i r last (l ∷ ls) = go (eqb l.lane i) refl (λ x. last-local i r x ls)
  where
    go : (b : Bool) → eqb l.lane i ≡ b → ((x : Line) → last_from i r x ls ≡ last_from i r x (of_lane i ls))
        → last_from i r (pick (concerns i r l) l last) ls ≡ last_from i r last (pick b (l ∷ of_lane i ls) (of_lane i ls))
    go true e ih = ih _
    go false e ih = rw e (ih last)

pub moves-local : (l : Lane) (ls : List Line) (c : Call) → moves l ls c ≡ moves l (of_lane (lane_of c) ls) c
unfolding moves lane_of last_line
moves-local l ls (opening i o) = ap (opened_by l o) (last-local i (refers_to o) _ ls)
moves-local l ls (message i s) = refl
moves-local l ls (lost i) = refl

-- ---- a call changes its lane and that lane's lines

-- what a call makes of its own
unfoldable pub after : Own → Call → Own
after o c =
    let m = moves o.lane o.lines c in
    record { lane = lane_after o.lane m; lines = o.lines ++ lines_from (lane_of c) o.lane m }

lines-own : (i k : ℕ) (l : Lane) (m : Result Moved Refusal) → of_lane k (lines_from i l m) ≡ pick (eqb i k) (lines_from i l m) []
unfolding lines_from having line_at
lines-own i k l (Err r) = sym (pick_same (eqb i k) refl)
lines-own i k l (Ok Stays) = sym (pick_same (eqb i k) refl)
lines-own i k l (Ok (Becomes n)) = sym (pick_same (eqb i k) refl)
lines-own i k l (Ok (Ends outcome settled code)) = go (booked l.kind)
  where
    go : (b : Bool) → let x = line_at i l outcome settled code in of_lane k (line_if b x) ≡ pick (eqb i k) (line_if b x) []
    go true = refl
    go false = sym (pick_same (eqb i k) refl)

own_same : (s : State) (c : Call) → lane_of c < length s.lanes → own_of (lane_of c) (step s c) ≡ after (own_of (lane_of c) s) c
unfolding step after
own_same s c h =
    let l = lane_at s.lanes (lane_of c) in
    rw (
      get_or-set_same s.lanes (lane_of c) (lane_after l (moves l s.lines c)) idle_lane h,
      having-append,
      lines-own,
      eq-eqb (lane_of c) (lane_of c) refl,
      moves-local l s.lines c,
    )

own-other : (s : State) (c : Call) (k : ℕ) → (lane_of c ≡ k → ⊥) → own_of k (step s c) ≡ own_of k s
unfolding step
own-other s c k n =
    let l = lane_at s.lanes (lane_of c) in
    rw (
      get_or-set_other s.lanes (lane_of c) k (lane_after l (moves l s.lines c)) idle_lane (λ e. n (sym e)),
      having-append,
      lines-own,
      ne_eqb (lane_of c) k n,
      append-nil,
    )

pub isolation : (s : State) (c : Call) (k : ℕ) → (lane_of c ≡ k → ⊥)
    → (lane_at (step s c).lanes k ≡ lane_at s.lanes k) × (of_lane k (step s c).lines ≡ of_lane k s.lines)
isolation s c k n = let e = own-other s c k n in (ap (λ (o : Own). o.lane) e, ap (λ (o : Own). o.lines) e)

-- what holds of the call's lane as the call leaves it, and of the other lanes as they were, holds of every lane after the call
pub by-lane : (s : State) (c : Call) → lane_of c < length s.lanes → (P : ℕ → Bool → Own → Type 0) → P (lane_of c) true (after (own_of (lane_of c) s) c)
    → ((k : ℕ) → (lane_of c ≡ k → ⊥) → P k false (own_of k s)) → (k : ℕ) → P k (eqb (lane_of c) k) (own_of k (step s c))
by-lane s c h P mine other k = go (eqb (lane_of c) k) refl
  where
    go : (b : Bool) → eqb (lane_of c) k ≡ b → P k b (own_of k (step s c))
    go true e = subst (λ (j : ℕ). P j true (own_of j (step s c))) (eqb-true _ _ e) (subst (P (lane_of c) true) (sym (own_same s c h)) mine)
    go false e = rw (own-other s c k (eqb-false _ _ e)) (other k (eqb-false _ _ e))

-- ---- accepted calls

-- what holds of an accepted call, part by part
pub record AcceptParts (s : State) (c : Call) : Type 0 where
  pub lane : lane_of c < lane_count
  pub moved : Passes (moves (lane_at s.lanes (lane_of c)) s.lines c)
  pub lines_fit : needs_line c ≡ true → load s < book_lines

pub not-refused : (t : Bool) (n : Refusal) (d : Decision) → pick t (refuse n) d ≡ accept → (t ≡ false) × (d ≡ accept)
not-refused true n d e = never cc
not-refused false n d e = (refl, e)

pub passed : (m : Result Moved Refusal) (d : Decision) → unless_refused m d ≡ accept → Passes m × (d ≡ accept)
unfolding unless_refused
passed (Err r) d e = never cc
passed (Ok Stays) d e = (tt, e)
passed (Ok (Becomes l)) d e = (tt, e)
passed (Ok (Ends outcome settled code)) d e = (tt, e)

pub passing : (m : Result Moved Refusal) (d : Decision) → Passes m → unless_refused m d ≡ d
unfolding unless_refused
passing (Err r) d h = absurd h
passing (Ok Stays) d h = refl
passing (Ok (Becomes l)) d h = refl
passing (Ok (Ends outcome settled code)) d h = refl

line-free : (o : Bool) (n : ℕ) → o && leb book_lines n ≡ false → o ≡ true → n < book_lines
line-free true n e f = leb-false book_lines n e
line-free false n e f = never cc

pub free-line : (o : Bool) (n : ℕ) → (o ≡ true → n < book_lines) → o && leb book_lines n ≡ false
free-line true n h = lt-leb book_lines n (h refl)
free-line false n h = refl

pub accept-parts : (s : State) (c : Call) → Accepts s c → AcceptParts s c
unfolding Accepts decide
accept-parts s c h =
    let a = not-refused (leb lane_count (lane_of c)) _ _ h in
    let b = passed (moves (lane_at s.lanes (lane_of c)) s.lines c) _ a.1 in
    record { lane = leb-false lane_count (lane_of c) a.0; moved = b.0; lines_fit = line-free (needs_line c) (load s) (not-refused (needs_line c && leb book_lines (load s)) _ _ b.1).0 }

pub parts-accept : (s : State) (c : Call) → AcceptParts s c → Accepts s c
unfolding Accepts decide
parts-accept s c t =
    let l = lane_at s.lanes (lane_of c) in
    let n = length (writes l c) in
    rw (lt-leb lane_count (lane_of c) t.lane, passing (moves l s.lines c) _ t.moved, free-line (needs_line c) (load s) t.lines_fit, le-ltb n n (omega arith))

-- and one that is accepted is so in any room for what it writes
pub accepts-room : (s : State) (c : Call) (room : ℕ) → Accepts s c → length (writes (lane_at s.lanes (lane_of c)) c) ≤ room → decide s c room ≡ accept
unfolding decide
accepts-room s c room a h =
    let t = accept-parts s c a in
    let l = lane_at s.lanes (lane_of c) in
    rw (lt-leb lane_count (lane_of c) t.lane, passing (moves l s.lines c) _ t.moved, free-line (needs_line c) (load s) t.lines_fit, le-ltb room (length (writes l c)) h)

-- a call that is accepted in some room is accepted in as much as it writes
pub accepts-any : (s : State) (c : Call) (room : ℕ) → decide s c room ≡ accept → Accepts s c
unfolding Accepts decide
accepts-any s c room e =
    let l = lane_at s.lanes (lane_of c) in
    let n = length (writes l c) in
    let a = not-refused (leb lane_count (lane_of c)) _ _ e in
    let b = passed (moves l s.lines c) _ a.1 in
    let f = not-refused (needs_line c && leb book_lines (load s)) _ _ b.1 in
    rw (a.0, passing (moves l s.lines c) _ b.0, f.0, le-ltb n n (omega arith))

pub lines-taken-total : (ls : List Lane) → lines_taken ls ≡ total line_taken ls
unfolding lines_taken total
lines-taken-total [] = refl
lines-taken-total (l ∷ ls) = omega (arith, lines-taken-total ls)

pub opened_one : (c : Call) → needs_line c ≡ true → one_opened c ≡ 1
unfolding one_opened
opened_one c e = rw e

-- only an opening needs a line
pub not_opened : (c : Call) → opens c ≡ false → one_opened c ≡ 0
unfolding opens one_opened needs_line
not_opened (opening i o) e = never cc
not_opened (message i s) e = refl
not_opened (lost i) e = refl

pub lanes_step : (s : State) (c : Call) → length (step s c).lanes ≡ length s.lanes
unfolding step
lanes_step s c = simp length-set
