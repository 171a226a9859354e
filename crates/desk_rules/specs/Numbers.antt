-- The limits: how many lanes and lines there are, and how large a number may be that is asked. Definitions only.
use Rattle.std.specs.Prelude.{ℕ, Bool, ◌&&◌, leb}

-- P1: "There are eight lanes"
abbrev pub lane_count : ℕ
lane_count = 8

-- P3: "The book has room for 64 lines."
abbrev pub book_lines : ℕ
book_lines = 64

-- P4: "The amount that a sale or refund asks for is 1 to 999,999,999,999 cents."
abbrev pub most_asked : ℕ
most_asked = 999_999_999_999

abbrev pub amount_ok : ℕ → Bool
amount_ok n = leb 1 n && leb n most_asked

-- P5: "The receipt that a reversal names is 1 to 9,999."
abbrev pub most_receipt : ℕ
most_receipt = 9_999

abbrev pub receipt_ok : ℕ → Bool
receipt_ok n = leb 1 n && leb n most_receipt

-- P6: "The password is 0 to 999,999."
abbrev pub most_password : ℕ
most_password = 999_999

abbrev pub password_ok : ℕ → Bool
password_ok n = leb n most_password
