-- Lines that are told one after the other, of the book, of the lanes and of a tape: what is left to tell, and how long it all is. Assumes
-- nothing.
use mathlib.Core.Path.{◌≡◌, sym, ap, ◌∙◌}
use mathlib.Core.List.{List, [], ◌∷◌, ◌++◌}
use Prim.Native.Nat.{◌/◌, ℕ, suc, ◌+◌, ◌≤◌, ◌<◌}
use native.Mathlib.Numerals.{add-one}
use native.Mathlib.Omega.{arith}
use lib.ListN.{length, get_or, drop, length-append, drop_of_length-le}
use lib.Seq.{drop-cons, take_at, drop_at}
use lib.Dec.{ltb}
use borrow.Author.Tests.{lt-ltb, ltb-true, ltb-false}
use Rattle.std.proofs.Common.{Err, None, Ok, Some}
use Rattle.basics.specs.Text.{Text, text, add_all}
use Rattle.basics.specs.Lists.{numbered}
use Rattle.basics.proofs.Tests.{by-test, never}
use Rattle.buffers.proofs.TextLaws.{add_all-append}
use Rattle.desk_rules.specs.Lanes.{blank_line, idle_lane}
use Rattle.desk_rules.specs.Memory.{line_answer, lane_answer}
use Rattle.desk_rules.specs.declared.Line.{Line}
use Rattle.desk_rules.specs.declared.Lane.{Lane}
use Rattle.zvt_rules.specs.declared.Refusal.{Refusal}
use Rattle.printing.specs.Answers.{bytes_line}
use Rattle.printing.specs.Desks.{blocks_text}

-- ---- a loop that tells a text: what is left comes to the whole text, and what is told has at most n bytes
pub record Telling (all out₀ rest : List ℕ) (n to : ℕ) (out : List ℕ) : Type 0 where
  pub still : add_all rest (text to out) ≡ add_all all (text 0 out₀)
  pub size : length all ≤ n + length rest

-- a part of it is told
pub goes : (rest w more : List ℕ) (t : Text) {u : Text} → rest ≡ w ++ more → u ≡ add_all w t → add_all more u ≡ add_all rest t
goes rest w more t parts e = ap (add_all more) e ∙ sym (ap (λ (x : List ℕ). add_all x t) parts ∙ add_all-append w more t)

pub tells : {all out₀ rest more : List ℕ} {n m to end : ℕ} {out exit : List ℕ} (w : List ℕ) → rest ≡ w ++ more → n + length w ≤ m
    → text end exit ≡ add_all w (text to out) → Telling all out₀ rest n to out → Telling all out₀ more m end exit
tells {rest = rest} {more = more} {to = to} {out = out} w parts long e t =
    record { still = goes rest w more (text to out) parts e ∙ t.still; size = omega (arith, t.size, ap length parts, length-append w more) }

pub told : {all out₀ rest : List ℕ} {n to : ℕ} {out : List ℕ} → rest ≡ [] → Telling all out₀ rest n to out
    → (text to out ≡ add_all all (text 0 out₀)) × (length all ≤ n)
unfolding add_all
told {to = to} {out = out} none t =
    (sym (ap (λ (x : List ℕ). add_all x (text to out)) none) ∙ t.still, omega (arith, t.size, ap length none))

-- ---- what is left
module _ {A : Type 0} (line : ℕ → A → List ℕ) (first k : ℕ) (xs : List A) where
  pub numbered_next : (d : A) → k < length xs
      → numbered line first (drop k xs) ≡ line first (get_or xs k d) ++ numbered line (first + 1) (drop (k + 1) xs)
  unfolding numbered
  numbered_next d h =
      ap (numbered line first) (drop-cons xs k d h ∙ ap (λ (n : ℕ). get_or xs k d ∷ drop n xs) (sym (add-one k)))

  pub numbered-none : length xs ≤ k → numbered line first (drop k xs) ≡ []
  unfolding numbered
  numbered-none h = rw (drop_of_length-le xs h)

-- by what the desk answers of a line
module _ (line : ℕ → Line → List ℕ) (first k : ℕ) (ls : List Line) where
  pub line-next : (l : Line) → line_answer k ls ≡ Some l
      → numbered line first (drop k ls) ≡ line first l ++ numbered line (first + 1) (drop (k + 1) ls)
  unfolding line_answer
  line-next l e =
      by-test (ltb k (length ls))
      (λ t.
      let is : get_or ls k blank_line ≡ l = cc (rw t at e) in
      numbered_next line first k ls blank_line (ltb-true k (length ls) t)
      ∙ ap (λ (x : Line). line first x ++ numbered line (first + 1) (drop (k + 1) ls)) is)
      (λ t. let f = rw t at e in never (cc))

  pub line-none : line_answer k ls ≡ None → numbered line first (drop k ls) ≡ []
  unfolding line_answer
  line-none e =
      by-test (ltb k (length ls)) (λ t. let f = rw t at e in never (cc)) (λ t. numbered-none line first k ls (ltb-false k (length ls) t))

-- and of one of the eight lanes
module _ (i : ℕ) (ls : List Lane) (h : i < 8) where
  pub lane-next : (line : ℕ → Lane → List ℕ) (l : Lane) → length ls ≡ 8 → lane_answer i ls ≡ Ok l
      → numbered line i (drop i ls) ≡ line i l ++ numbered line (i + 1) (drop (i + 1) ls)
  unfolding lane_answer
  lane-next line l eight e =
      let is : get_or ls i idle_lane ≡ l = cc (rw (lt-ltb i 8 h) at e) in
      numbered_next line i i ls idle_lane (omega arith) ∙ ap (λ (x : Lane). line i x ++ numbered line (i + 1) (drop (i + 1) ls)) is

  pub lane-there : {X : Type 0} (r : Refusal) → lane_answer i ls ≡ Err r → X
  unfolding lane_answer
  lane-there r e = let f = rw (lt-ltb i 8 h) at e in never (cc)

-- the blocks of bytes that begin with one
pub blocks-next : (b s : List ℕ) → length b ≡ 512 → blocks_text (length (b ++ s) / 512) (b ++ s) ≡ bytes_line b ++ blocks_text (length s / 512) s
unfolding blocks_text
blocks-next b s h =
    let more : length (b ++ s) / 512 ≡ suc (length s / 512) = omega (arith, length-append b s) in
    rw (more, take_at b s 512 h, drop_at b s 512 h)

pub blocks-none : (s : List ℕ) → length s < 512 → blocks_text (length s / 512) s ≡ []
unfolding blocks_text
blocks-none s h = let none : length s / 512 ≡ 0 = omega arith in rw none
