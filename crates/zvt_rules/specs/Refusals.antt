-- The numbers of refusal by name, each with the rule that it is. The second writing and the pages have the numbers themselves, so that a
-- wrong one here breaks their agreement. Definitions only.
use Rattle.std.specs.Prelude.{ℕ}

-- R1: "the bytes end before a thing that they began"
abbrev pub ends_too_soon : ℕ
ends_too_soon = 1

-- R2: "a header announces more than 4,096 bytes of body (M3)"
abbrev pub too_long : ℕ
too_long = 2

-- R3: "bytes are left over behind the one message (M8) or block"
abbrev pub left_over : ℕ
left_over = 3

-- R4: "a byte that is no length digit stands where one is due (F3)"
abbrev pub no_length_digit : ℕ
no_length_digit = 4

-- R5: "a field id is unknown (F2)"
abbrev pub unknown_field : ℕ
unknown_field = 5

-- R6: "a half of a byte is no decimal digit (F5)"
abbrev pub not_decimal : ℕ
not_decimal = 6

-- R7: "a field id stands a second time (F4)"
abbrev pub field_twice : ℕ
field_twice = 7

-- R8: "a second tag byte has its top bit set (O4)"
abbrev pub tag_too_long : ℕ
tag_too_long = 8

-- R9: "an object is at depth 5 (O9)"
abbrev pub too_deep : ℕ
too_deep = 9

-- R10: "an object is the 65th (O10)"
abbrev pub too_many_objects : ℕ
too_many_objects = 10

-- R11: "the room lent for what is to be written is too small (R38, T20, T21)"
abbrev pub no_room : ℕ
no_room = 11

-- R12: "there is no such lane (P1)"
abbrev pub no_such_lane : ℕ
no_such_lane = 12

-- R13: "the lane is not idle"
abbrev pub lane_not_idle : ℕ
lane_not_idle = 13

-- R14: "the lane is idle"
abbrev pub lane_is_idle : ℕ
lane_is_idle = 14

-- R15: "the pair, or a body that is not empty, is not allowed in this phase (P15 to P22)"
abbrev pub not_allowed : ℕ
not_allowed = 15

-- R16: "a number is outside its limits (P4, P5, P6, T8, T20, T21)"
abbrev pub outside_limits : ℕ
outside_limits = 16

-- R17: "there is no sale to reverse (P12)"
abbrev pub no_sale : ℕ
no_sale = 17

-- R18: "lines and open payments are 64 already (P3)"
abbrev pub book_full : ℕ
book_full = 18

-- R19: "a payment is open at closing (P2)"
abbrev pub payment_open : ℕ
payment_open = 19

-- R20: "the check of a block is wrong (T5)"
abbrev pub wrong_check : ℕ
wrong_check = 20

-- R21: "number, used count or filling of a block is wrong (T7)"
abbrev pub wrong_contents : ℕ
wrong_contents = 21

-- R22: "the first length byte of a container or data object is 80 or 83 to FF (O8)"
abbrev pub no_length : ℕ
no_length = 22

-- R23: "a record of the till is neither an opening as the desk records it (T26) nor the reply that is due"
abbrev pub record_not_due : ℕ
record_not_due = 23

-- no rule's: what spent fuel would be refused with, which laws say is never met
abbrev pub never_given : ℕ
never_given = 0
