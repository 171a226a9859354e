-- What a function leaves in a buffer that it is lent. R32: "A refusal leaves the desk and all lent buffers as they were." R33:
-- "Success leaves the bytes of a lent buffer behind those written as they were." Definitions only.
use Rattle.std.specs.Prelude.{◌≡◌, ℕ, List, ◌++◌, length, drop}

-- w over the front of a buffer
abbrev pub front : List ℕ → List ℕ → List ℕ
front w out = w ++ drop (length w) out

-- w stands whole at the start of the buffer, and ends there
abbrev pub Whole : List ℕ → ℕ → List ℕ → List ℕ → Type 0
Whole w end entry exit = (end ≡ length w) × (exit ≡ front w entry)
