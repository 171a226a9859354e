-- The requirements' own cases, of both sides of each edge, that are marked to be proved: one table, each row with the rule that it
-- shows. Definitions only.
use Rattle.std.specs.Prelude.{ℕ, zero, suc, ◌/◌, ◌%◌, true, false, List, [], ◌∷◌, ◌++◌, pos, replicate}
use Rattle.zvt_rules.specs.Objects.{bare, leaf, none, more}
use Rattle.zvt_rules.specs.Fields.{plain, container}
use Rattle.desk_rules.specs.declared.Kind.TheVariants.{Sale}
use Rattle.desk_rules.specs.declared.Outcome.TheVariants.{Declined, Approved}
use Rattle.desk_rules.specs.declared.Line.{Line}
use Rattle.desk_rules.specs.declared.Opening.TheVariants.{Sale as sale, Reversal as reversal}
use Rattle.desk_rules.specs.Course.{Call, opening, message}
use Rattle.promises.specs.Asking.{CaseRow, ◌⟶◌, read, list, name, short, call, day, accepted, fields, gives, book, refusal, status}

-- so many bytes, written as one number
unfoldable pub hex : ℕ → ℕ → List ℕ
hex zero v = []
hex (suc n) v = hex n (v / 256) ++ (v % 256 ∷ [])

-- M7: "plain: bytes that the reader never looks into", as of 06 D1: a body of so many, behind that header
unfoldable pub plain_body : List ℕ → ℕ → List ℕ
plain_body header size = header ++ replicate size 0x41

-- two sales at once, both acknowledged: lane 5 reports code 00 and completes, lane 2 reports code 00 and aborts with 6C
unfoldable pub two_sales : List Call
two_sales =
    opening 2 (sale 1250)
    ∷ opening 5 (sale 400)
    ∷ message 2 (hex 3 0x80_00_00)
    ∷ message 5 (hex 3 0x80_00_00)
    ∷ message 5 (status (hex 12 0x27_00_04_00_00_00_00_04_00_87_00_31))
    ∷ message 5 (hex 3 0x06_0F_00)
    ∷ message 2 (status (hex 12 0x27_00_04_00_00_00_00_12_50_87_00_17))
    ∷ message 2 (hex 4 0x06_1E_01_6C)
    ∷ []

-- the lines that they leave, in the order in which they ended
unfoldable pub two_lines : List Line
two_lines =
    record { lane = 5; kind = Sale; asked = 400; settled = 400; receipt = 31; outcome = Approved; code = 0 }
    ∷ record { lane = 2; kind = Sale; asked = 1250; settled = 0; receipt = 17; outcome = Declined; code = 0x6C }
    ∷ []

-- a sale of 12.50 with receipt 17, approved: what a reversal needs
unfoldable pub sold_once : List Call
sold_once =
    opening 0 (sale 1250)
    ∷ message 0 (hex 3 0x80_00_00)
    ∷ message 0 (status (hex 12 0x27_00_04_00_00_00_00_12_50_87_00_17))
    ∷ message 0 (hex 3 0x06_0F_00)
    ∷ []

unfoldable pub table : List CaseRow
table =
    -- M1; R39: "1 for a missing byte of pair or length"
    read (hex 3 0x80_00_00) ⟶ accepted 0x8000 0 true 0
    ∷ read [] ⟶ refusal 1
    ∷ read (hex 2 0x80_00) ⟶ refusal 1
    -- M4: "can be read, but is not shortest"; M10
    ∷ read (hex 5 0x80_00_FF_00_00) ⟶ accepted 0x8000 0 false 0
    ∷ short (hex 5 0x80_00_FF_00_00) ⟶ gives (hex 3 0x80_00_00)
    -- M2: "00 to FE is itself the length. After FF the next two bytes are the length, low byte first."; M10
    ∷ short (plain_body (hex 5 0x06_D1_FF_FE_00) 254) ⟶ gives (plain_body (hex 3 0x06_D1_FE) 254)
    ∷ short (plain_body (hex 5 0x06_D1_FF_FF_00) 255) ⟶ gives (plain_body (hex 5 0x06_D1_FF_FF_00) 255)
    ∷ short (plain_body (hex 5 0x06_D1_FF_00_01) 256) ⟶ gives (plain_body (hex 5 0x06_D1_FF_00_01) 256)
    ∷ read (plain_body (hex 3 0x06_D1_FE) 254) ⟶ accepted 0x06D1 254 true 0
    ∷ read (plain_body (hex 5 0x06_D1_FF_FE_00) 254) ⟶ accepted 0x06D1 254 false 0
    ∷ read (plain_body (hex 5 0x06_D1_FF_FF_00) 255) ⟶ accepted 0x06D1 255 true 0
    ∷ read (plain_body (hex 5 0x06_D1_FF_00_01) 256) ⟶ accepted 0x06D1 256 true 0
    -- M3, R2: 4,097 bytes announced. R39: "1 for a body cut short", of 4,096
    ∷ read (hex 5 0x04_0F_FF_01_10) ⟶ refusal 2
    ∷ read (hex 5 0x04_0F_FF_00_10) ⟶ refusal 1
    -- P9, P7, P14; P4, R16
    ∷ call [] (opening 0 (sale 1250)) ⟶ gives (hex 13 0x06_01_0A_04_00_00_00_00_12_50_49_09_78)
    ∷ call [] (opening 0 (sale 0)) ⟶ refusal 16
    -- P11, P12, P14
    ∷ call sold_once (opening 0 (reversal 0 17)) ⟶ gives (hex 9 0x06_30_06_00_00_00_87_00_17)
    -- F2, F3; M13; R4: "no length digit stands where one is due"
    ∷ list (hex 6 0x8B_F0_F3_41_42_43) ⟶ fields (plain 0x8B (hex 3 0x41_42_43) ∷ [])
    ∷ name (hex 6 0x8B_F0_F3_41_42_43) ⟶ gives (hex 3 0x41_42_43)
    ∷ list (hex 3 0x8B_F0_FA) ⟶ refusal 4
    -- O3: "1F 07 is such a tag, though one byte could say it."; O11; O4, R8
    ∷ list (hex 6 0x06_04_1F_07_01_01) ⟶ fields (container bare (more (leaf (hex 2 0x1F_07) bare (hex 1 0x01)) none) ∷ [])
    ∷ read (status (hex 6 0x06_04_1F_07_01_01)) ⟶ accepted 0x040F 6 true 1
    ∷ list (hex 6 0x06_04_1F_81_01_00) ⟶ refusal 8
    -- O7, M10: "inner lengths first"
    ∷ short (hex 9 0x04_0F_06_06_81_03_0B_01_41) ⟶ gives (hex 8 0x04_0F_05_06_03_0B_01_41)
    -- P28: "A sale counts at its 06 0F and never at its status information."; P21, P23, P32; P34
    ∷ day two_sales ⟶ book two_lines (pos 400)
    ∷ []
