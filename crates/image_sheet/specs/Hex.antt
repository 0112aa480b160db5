-- RAM images for the glass maker (paper 02, request 13), Intel HEX: a record, its line, a group's file, and the call that writes it. Reading is in `Images`.
-- A record is :LLAAAATTDD..CC, its length, address, type (00 data, 01 end), as many data bytes as the length says, and a checksum; LF ends its line.
use Rattle.std.specs.Prelude.{ℕ, zero, suc, ◌+◌, ◌-◌, ◌/◌, ◌%◌, cond, List, [], ◌∷◌, ◌++◌, ltb, length, take, drop}
use Rattle.sheet.specs.declared.Chips.{Chips}
use Rattle.sheet.specs.Parts.{part_of}
use Rattle.sheet.specs.Checks.{check_power_on}
use Rattle.sheet.specs.Written.{WrittenAfter, written_part}

-- ---- bytes as text: two digits a byte, capitals

-- 0 to 9, A to F
abbrev pub digit_of : ℕ → ℕ
digit_of n = cond (ltb n 10) (48 + n) (55 + n)

unfoldable pub text_of : List ℕ → List ℕ
text_of [] = []
text_of (x ∷ xs) = digit_of (x / 16) ∷ digit_of (x % 16) ∷ text_of xs

-- ---- a record

unfoldable pub sum_of : List ℕ → ℕ
sum_of [] = 0
sum_of (x ∷ xs) = x + sum_of xs

-- with it the sum of a record's bytes is 0 modulo 256
abbrev pub checksum_of : List ℕ → ℕ
checksum_of bytes = (256 - sum_of bytes % 256) % 256

-- LL AAAA TT
abbrev pub head_of : ℕ → ℕ → List ℕ → List ℕ
head_of kind address columns = length columns ∷ address / 256 ∷ address % 256 ∷ kind ∷ []

-- its bytes
unfoldable pub record_of : ℕ → ℕ → List ℕ → List ℕ
record_of kind address columns = let bytes = head_of kind address columns ++ columns in bytes ++ (checksum_of bytes ∷ [])

-- its line: a colon, the text of its bytes, LF
abbrev pub line_of : List ℕ → List ℕ
line_of bytes = 58 ∷ text_of bytes ++ (10 ∷ [])

-- ---- a file

-- k data records, from an address on, of 16 columns each, or as many as are left
unfoldable pub data_lines : ℕ → ℕ → List ℕ → List ℕ
data_lines zero address columns = []
data_lines (suc k) address columns = line_of (record_of 0 address (take 16 columns)) ++ data_lines k (address + 16) (drop 16 columns)

-- as many as the columns need, from address 0 on, and the end record
unfoldable pub file_of : List ℕ → List ℕ
file_of ram = data_lines ((length ram + 15) / 16) 0 ram ++ line_of (record_of 1 0 [])

-- ---- the call: 16, then 3, 4 and 5 as at a power-on of this group alone, then 9

abbrev pub one_group : ℕ → Chips
one_group n = record { zero = n; one = 0 }

unfoldable pub hex_write_part : ℕ → ℕ → List ℕ → List ℕ → WrittenAfter
hex_write_part part n ram out = written_part part (check_power_on (part_of part) (one_group n) ram) (file_of ram) out
