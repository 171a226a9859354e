-- What a call answered, as a program prints it, in the words of TRIAL.md. Definitions only.
use Rattle.std.specs.Prelude.{ℕ, ◌≤◌, ◌≡◌, Bool, not, ◌||◌, List, [], ◌∷◌, ◌++◌, length, take, drop, ltb, eqb, Err, None, Ok, Option, Result, Some}
use Rattle.std.specs.List.{list_any}
use Rattle.io.specs.Counts.{IsPrefixLen}
use Rattle.basics.specs.Choice.{pick}
use Rattle.basics.specs.Buffers.{Whole}
use Rattle.basics.specs.Text.{text, add_all, bytes_text, decimal_text}
use Rattle.basics.specs.believed.Text.{ascii}
use Rattle.zvt_rules.specs.declared.Refusal.{Refusal}

-- w was put at the start of a buffer, cut off where that ends; with so much room it stands there whole, and nothing behind it changed
pub record Printed (room : ℕ) (w : List ℕ) (end : ℕ) (entry exit : List ℕ) : Type 0 where
  pub added : text end exit ≡ add_all w (text 0 entry)
  pub whole : room ≤ length entry → Whole w end entry exit
  pub inside : IsPrefixLen end exit

-- words with one blank between two of them, and the line's end
abbrev pub line : List (List ℕ) → List ℕ
line [] = ascii "\n"
line (w ∷ []) = w ++ ascii "\n"
line (w ∷ (v ∷ ws)) = w ++ (ascii " " ++ line (v ∷ ws))

abbrev pub number_text : ℕ → List ℕ
number_text n = ascii " " ++ decimal_text n

abbrev pub counted_text : List ℕ → ℕ → List ℕ
counted_text name n = line (name ∷ decimal_text n ∷ [])

-- `refused N` or `refused N at P`: "`at P` stands behind the number where the body of a message is refused"
abbrev pub refused_at : ℕ → Option ℕ → List ℕ
refused_at n None = line (ascii "refused" ∷ decimal_text n ∷ [])
refused_at n (Some p) = line (ascii "refused" ∷ decimal_text n ∷ ascii "at" ∷ decimal_text p ∷ [])

unfoldable pub refused_text : Refusal → List ℕ
refused_text r = refused_at r.number r.place

-- "answered with `line N not understood`"
unfoldable pub not_understood : ℕ → List ℕ
not_understood n = line (ascii "line" ∷ decimal_text n ∷ ascii "not understood" ∷ [])

-- "its bytes, `-` for none"
unfoldable pub bytes_line : List ℕ → List ℕ
bytes_line v = line (bytes_text v ∷ [])

-- "`HEX` behind `ok` is what was written into the room; `ok` alone says that nothing was."
unfoldable pub ok_text : List ℕ → List ℕ
ok_text [] = line (ascii "ok" ∷ [])
ok_text (b ∷ v) = line (ascii "ok" ∷ bytes_text (b ∷ v) ∷ [])

abbrev pub size_of : Result ℕ Refusal → ℕ
size_of (Ok n) = n
size_of (Err r) = 0

-- "a call changed a byte of the room that it had no business with": one behind the first n, or there are not so many. All of them were C3
abbrev pub changed_behind : ℕ → List ℕ → Bool
changed_behind n lent = ltb (length lent) n || list_any (λ b. not (eqb b 0xC3)) (drop n lent)

-- the answer itself
abbrev pub answered_text : Result ℕ Refusal → List ℕ → List ℕ
answered_text (Ok n) lent = ok_text (take n lent)
answered_text (Err r) lent = refused_text r

-- "`buffer changed`, in place of an answer, where a call changed" such a byte
unfoldable pub reply_text : Result ℕ Refusal → List ℕ → List ℕ
reply_text r lent = pick (changed_behind (size_of r) lent) (line (ascii "buffer changed" ∷ [])) (answered_text r lent)
