-- RAM images (paper 02, request 13), computed: a file that is written, files that are read, and the orders of refusals.
use Rattle.std.specs.Prelude.{ℕ, ◌+◌, ◌%◌, Bool, true, cond, ◌&&◌, List, [], ◌∷◌, ◌++◌, T, take, replicate}
use Rattle.sheet.specs.Refusals.{check_numbers, written_numbers}
use Rattle.sheet.specs.Parts.{within, part_of}
use Rattle.sheet.specs.Checks.{check_part, check_chips, check_ram, check_power_on, over_in}
use Rattle.image_sheet.specs.Hex.{text_of, sum_of, checksum_of, head_of, record_of, data_lines, file_of, hex_write_part}
use Rattle.image_sheet.specs.Images.{value_of, are_digits, bytes_of, digits_in, line_end, end_in, is_line, size_in, none_given, head_fault, data_fault, fault_in, missing_in, image_in, image_from, image_of, check_file, hex_read_part}
use Rattle.sheet.specs.Starred.{same}
use Rattle.sheet.specs.Orders.{refusal, in_order, is}

-- ---- a file that is written: columns 0 to 15, and a seventeenth, which is 15

abbrev pub columns : List ℕ
columns = 0 ∷ 1 ∷ 2 ∷ 3 ∷ 4 ∷ 5 ∷ 6 ∷ 7 ∷ 8 ∷ 9 ∷ 10 ∷ 11 ∷ 12 ∷ 13 ∷ 14 ∷ 15 ∷ 15 ∷ []

abbrev pub written : List ℕ
written =
    -- :10000000000102030405060708090A0B0C0D0E0F78
    58 ∷ 49 ∷ 48 ∷ 48 ∷ 48 ∷ 48 ∷ 48 ∷ 48 ∷ 48 ∷ 48 ∷ 48 ∷ 48 ∷ 49 ∷ 48 ∷ 50 ∷ 48 ∷ 51 ∷ 48 ∷ 52 ∷ 48 ∷ 53 ∷ 48 ∷ 54 ∷ 48 ∷ 55 ∷ 48 ∷ 56 ∷ 48 ∷ 57 ∷ 48 ∷ 65 ∷ 48 ∷ 66 ∷ 48 ∷ 67 ∷ 48 ∷ 68 ∷ 48 ∷ 69 ∷ 48 ∷ 70 ∷ 55 ∷ 56 ∷ 10
    -- :010010000FE0
    ∷ 58 ∷ 48 ∷ 49 ∷ 48 ∷ 48 ∷ 49 ∷ 48 ∷ 48 ∷ 48 ∷ 48 ∷ 70 ∷ 69 ∷ 48 ∷ 10
    -- :00000001FF
    ∷ 58 ∷ 48 ∷ 48 ∷ 48 ∷ 48 ∷ 48 ∷ 48 ∷ 48 ∷ 49 ∷ 70 ∷ 70 ∷ 10 ∷ []

-- ---- files that are read into two columns: number, place, and what was given

pub record File : Type 0 where
  pub text : List ℕ
  pub number : ℕ
  pub place : ℕ
  pub given : List ℕ

abbrev file : List ℕ → ℕ → ℕ → List ℕ → File
file text number place given = record { text = text; number = number; place = place; given = given }

abbrev pub every : List File → Bool
every [] = true
every (f ∷ fs) =
    let a = image_of 2 f.text in
    same (take 2 (check_numbers a.check)) (f.number ∷ f.place ∷ []) && (same a.columns f.given && every fs)

abbrev pub files : List File
files =
    -- two columns in one record; lines that end in CR LF; a record a column, the last first
    -- :020000000A0FE5\n:00000001FF\n
    file (58 ∷ 48 ∷ 50 ∷ 48 ∷ 48 ∷ 48 ∷ 48 ∷ 48 ∷ 48 ∷ 48 ∷ 65 ∷ 48 ∷ 70 ∷ 69 ∷ 53 ∷ 10 ∷ 58 ∷ 48 ∷ 48 ∷ 48 ∷ 48 ∷ 48 ∷ 48 ∷ 48 ∷ 49 ∷ 70 ∷ 70 ∷ 10 ∷ []) 0 0 (10 ∷ 15 ∷ [])
    -- :020000000A0FE5\r\n:00000001FF\r\n
    ∷ file (58 ∷ 48 ∷ 50 ∷ 48 ∷ 48 ∷ 48 ∷ 48 ∷ 48 ∷ 48 ∷ 48 ∷ 65 ∷ 48 ∷ 70 ∷ 69 ∷ 53 ∷ 13 ∷ 10 ∷ 58 ∷ 48 ∷ 48 ∷ 48 ∷ 48 ∷ 48 ∷ 48 ∷ 48 ∷ 49 ∷ 70 ∷ 70 ∷ 13 ∷ 10 ∷ []) 0 0 (10 ∷ 15 ∷ [])
    -- :010001000FEF\n:010000000AF5\n:00000001FF\n
    ∷ file (58 ∷ 48 ∷ 49 ∷ 48 ∷ 48 ∷ 48 ∷ 49 ∷ 48 ∷ 48 ∷ 48 ∷ 70 ∷ 69 ∷ 70 ∷ 10 ∷ 58 ∷ 48 ∷ 49 ∷ 48 ∷ 48 ∷ 48 ∷ 48 ∷ 48 ∷ 48 ∷ 48 ∷ 65 ∷ 70 ∷ 53 ∷ 10 ∷ 58 ∷ 48 ∷ 48 ∷ 48 ∷ 48 ∷ 48 ∷ 48 ∷ 48 ∷ 49 ∷ 70 ∷ 70 ∷ 10 ∷ []) 0 0 (10 ∷ 15 ∷ [])
    -- a data record of length 0 is taken at any address
    -- :00FFFF0002\n:020000000A0FE5\n:00000001FF\n
    ∷ file (58 ∷ 48 ∷ 48 ∷ 70 ∷ 70 ∷ 70 ∷ 70 ∷ 48 ∷ 48 ∷ 48 ∷ 50 ∷ 10 ∷ 58 ∷ 48 ∷ 50 ∷ 48 ∷ 48 ∷ 48 ∷ 48 ∷ 48 ∷ 48 ∷ 48 ∷ 65 ∷ 48 ∷ 70 ∷ 69 ∷ 53 ∷ 10 ∷ 58 ∷ 48 ∷ 48 ∷ 48 ∷ 48 ∷ 48 ∷ 48 ∷ 48 ∷ 49 ∷ 70 ∷ 70 ∷ 10 ∷ []) 0 0 (10 ∷ 15 ∷ [])
    -- 21: a small letter, no colon, a blank line, a bare CR, a last line with no LF, a CR that no LF follows there
    -- :020000000a0FE5\n:00000001FF\n
    ∷ file (58 ∷ 48 ∷ 50 ∷ 48 ∷ 48 ∷ 48 ∷ 48 ∷ 48 ∷ 48 ∷ 48 ∷ 97 ∷ 48 ∷ 70 ∷ 69 ∷ 53 ∷ 10 ∷ 58 ∷ 48 ∷ 48 ∷ 48 ∷ 48 ∷ 48 ∷ 48 ∷ 48 ∷ 49 ∷ 70 ∷ 70 ∷ 10 ∷ []) 21 0 (16 ∷ 16 ∷ [])
    -- ;020000000A0FE5\n:00000001FF\n
    ∷ file (59 ∷ 48 ∷ 50 ∷ 48 ∷ 48 ∷ 48 ∷ 48 ∷ 48 ∷ 48 ∷ 48 ∷ 65 ∷ 48 ∷ 70 ∷ 69 ∷ 53 ∷ 10 ∷ 58 ∷ 48 ∷ 48 ∷ 48 ∷ 48 ∷ 48 ∷ 48 ∷ 48 ∷ 49 ∷ 70 ∷ 70 ∷ 10 ∷ []) 21 0 (16 ∷ 16 ∷ [])
    -- :020000000A0FE5\n\n:00000001FF\n
    ∷ file (58 ∷ 48 ∷ 50 ∷ 48 ∷ 48 ∷ 48 ∷ 48 ∷ 48 ∷ 48 ∷ 48 ∷ 65 ∷ 48 ∷ 70 ∷ 69 ∷ 53 ∷ 10 ∷ 10 ∷ 58 ∷ 48 ∷ 48 ∷ 48 ∷ 48 ∷ 48 ∷ 48 ∷ 48 ∷ 49 ∷ 70 ∷ 70 ∷ 10 ∷ []) 21 16 (10 ∷ 15 ∷ [])
    -- :020000000A0FE5\r:00000001FF\n
    ∷ file (58 ∷ 48 ∷ 50 ∷ 48 ∷ 48 ∷ 48 ∷ 48 ∷ 48 ∷ 48 ∷ 48 ∷ 65 ∷ 48 ∷ 70 ∷ 69 ∷ 53 ∷ 13 ∷ 58 ∷ 48 ∷ 48 ∷ 48 ∷ 48 ∷ 48 ∷ 48 ∷ 48 ∷ 49 ∷ 70 ∷ 70 ∷ 10 ∷ []) 21 0 (16 ∷ 16 ∷ [])
    -- :020000000A0FE5\n:00000001FF
    ∷ file (58 ∷ 48 ∷ 50 ∷ 48 ∷ 48 ∷ 48 ∷ 48 ∷ 48 ∷ 48 ∷ 48 ∷ 65 ∷ 48 ∷ 70 ∷ 69 ∷ 53 ∷ 10 ∷ 58 ∷ 48 ∷ 48 ∷ 48 ∷ 48 ∷ 48 ∷ 48 ∷ 48 ∷ 49 ∷ 70 ∷ 70 ∷ []) 21 16 (10 ∷ 15 ∷ [])
    -- :020000000A0FE5\n:00000001FF\r
    ∷ file (58 ∷ 48 ∷ 50 ∷ 48 ∷ 48 ∷ 48 ∷ 48 ∷ 48 ∷ 48 ∷ 48 ∷ 65 ∷ 48 ∷ 70 ∷ 69 ∷ 53 ∷ 10 ∷ 58 ∷ 48 ∷ 48 ∷ 48 ∷ 48 ∷ 48 ∷ 48 ∷ 48 ∷ 49 ∷ 70 ∷ 70 ∷ 13 ∷ []) 21 16 (10 ∷ 15 ∷ [])
    -- 21: a byte fewer than the length says, and one more
    -- :030000000A0FE4\n:00000001FF\n
    ∷ file (58 ∷ 48 ∷ 51 ∷ 48 ∷ 48 ∷ 48 ∷ 48 ∷ 48 ∷ 48 ∷ 48 ∷ 65 ∷ 48 ∷ 70 ∷ 69 ∷ 52 ∷ 10 ∷ 58 ∷ 48 ∷ 48 ∷ 48 ∷ 48 ∷ 48 ∷ 48 ∷ 48 ∷ 49 ∷ 70 ∷ 70 ∷ 10 ∷ []) 21 0 (16 ∷ 16 ∷ [])
    -- :010000000A0FE6\n:00000001FF\n
    ∷ file (58 ∷ 48 ∷ 49 ∷ 48 ∷ 48 ∷ 48 ∷ 48 ∷ 48 ∷ 48 ∷ 48 ∷ 65 ∷ 48 ∷ 70 ∷ 69 ∷ 54 ∷ 10 ∷ 58 ∷ 48 ∷ 48 ∷ 48 ∷ 48 ∷ 48 ∷ 48 ∷ 48 ∷ 49 ∷ 70 ∷ 70 ∷ 10 ∷ []) 21 0 (16 ∷ 16 ∷ [])
    -- 21: an end record with a length, with an address, and before its checksum's 22
    -- :0100000100FE\n
    ∷ file (58 ∷ 48 ∷ 49 ∷ 48 ∷ 48 ∷ 48 ∷ 48 ∷ 48 ∷ 49 ∷ 48 ∷ 48 ∷ 70 ∷ 69 ∷ 10 ∷ []) 21 0 (16 ∷ 16 ∷ [])
    -- :00000101FE\n
    ∷ file (58 ∷ 48 ∷ 48 ∷ 48 ∷ 48 ∷ 48 ∷ 49 ∷ 48 ∷ 49 ∷ 70 ∷ 69 ∷ 10 ∷ []) 21 0 (16 ∷ 16 ∷ [])
    -- :00010001FF\n
    ∷ file (58 ∷ 48 ∷ 48 ∷ 48 ∷ 49 ∷ 48 ∷ 48 ∷ 48 ∷ 49 ∷ 70 ∷ 70 ∷ 10 ∷ []) 21 0 (16 ∷ 16 ∷ [])
    -- 22, and before 23; 23 of types 02 and 04
    -- :020000000A0FE4\n:00000001FF\n
    ∷ file (58 ∷ 48 ∷ 50 ∷ 48 ∷ 48 ∷ 48 ∷ 48 ∷ 48 ∷ 48 ∷ 48 ∷ 65 ∷ 48 ∷ 70 ∷ 69 ∷ 52 ∷ 10 ∷ 58 ∷ 48 ∷ 48 ∷ 48 ∷ 48 ∷ 48 ∷ 48 ∷ 48 ∷ 49 ∷ 70 ∷ 70 ∷ 10 ∷ []) 22 0 (16 ∷ 16 ∷ [])
    -- :00000002FF\n:00000001FF\n
    ∷ file (58 ∷ 48 ∷ 48 ∷ 48 ∷ 48 ∷ 48 ∷ 48 ∷ 48 ∷ 50 ∷ 70 ∷ 70 ∷ 10 ∷ 58 ∷ 48 ∷ 48 ∷ 48 ∷ 48 ∷ 48 ∷ 48 ∷ 48 ∷ 49 ∷ 70 ∷ 70 ∷ 10 ∷ []) 22 0 (16 ∷ 16 ∷ [])
    -- :00000002FE\n:00000001FF\n
    ∷ file (58 ∷ 48 ∷ 48 ∷ 48 ∷ 48 ∷ 48 ∷ 48 ∷ 48 ∷ 50 ∷ 70 ∷ 69 ∷ 10 ∷ 58 ∷ 48 ∷ 48 ∷ 48 ∷ 48 ∷ 48 ∷ 48 ∷ 48 ∷ 49 ∷ 70 ∷ 70 ∷ 10 ∷ []) 23 0 (16 ∷ 16 ∷ [])
    -- :020000040000FA\n:00000001FF\n
    ∷ file (58 ∷ 48 ∷ 50 ∷ 48 ∷ 48 ∷ 48 ∷ 48 ∷ 48 ∷ 52 ∷ 48 ∷ 48 ∷ 48 ∷ 48 ∷ 70 ∷ 65 ∷ 10 ∷ 58 ∷ 48 ∷ 48 ∷ 48 ∷ 48 ∷ 48 ∷ 48 ∷ 48 ∷ 49 ∷ 70 ∷ 70 ∷ 10 ∷ []) 23 0 (16 ∷ 16 ∷ [])
    -- 24 of the last data byte, also where the first is 25
    -- :020000000A0FE5\n:020001000001FC\n:00000001FF\n
    ∷ file (58 ∷ 48 ∷ 50 ∷ 48 ∷ 48 ∷ 48 ∷ 48 ∷ 48 ∷ 48 ∷ 48 ∷ 65 ∷ 48 ∷ 70 ∷ 69 ∷ 53 ∷ 10 ∷ 58 ∷ 48 ∷ 50 ∷ 48 ∷ 48 ∷ 48 ∷ 49 ∷ 48 ∷ 48 ∷ 48 ∷ 48 ∷ 48 ∷ 49 ∷ 70 ∷ 67 ∷ 10 ∷ 58 ∷ 48 ∷ 48 ∷ 48 ∷ 48 ∷ 48 ∷ 48 ∷ 48 ∷ 49 ∷ 70 ∷ 70 ∷ 10 ∷ []) 24 16 (10 ∷ 15 ∷ [])
    -- 25, also before 5; 5, also before a later record's 21
    -- :020000000A0FE5\n:010001000FEF\n:00000001FF\n
    ∷ file (58 ∷ 48 ∷ 50 ∷ 48 ∷ 48 ∷ 48 ∷ 48 ∷ 48 ∷ 48 ∷ 48 ∷ 65 ∷ 48 ∷ 70 ∷ 69 ∷ 53 ∷ 10 ∷ 58 ∷ 48 ∷ 49 ∷ 48 ∷ 48 ∷ 48 ∷ 49 ∷ 48 ∷ 48 ∷ 48 ∷ 70 ∷ 69 ∷ 70 ∷ 10 ∷ 58 ∷ 48 ∷ 48 ∷ 48 ∷ 48 ∷ 48 ∷ 48 ∷ 48 ∷ 49 ∷ 70 ∷ 70 ∷ 10 ∷ []) 25 16 (10 ∷ 15 ∷ [])
    -- :020000000A0FE5\n:0100010010EE\n:00000001FF\n
    ∷ file (58 ∷ 48 ∷ 50 ∷ 48 ∷ 48 ∷ 48 ∷ 48 ∷ 48 ∷ 48 ∷ 48 ∷ 65 ∷ 48 ∷ 70 ∷ 69 ∷ 53 ∷ 10 ∷ 58 ∷ 48 ∷ 49 ∷ 48 ∷ 48 ∷ 48 ∷ 49 ∷ 48 ∷ 48 ∷ 49 ∷ 48 ∷ 69 ∷ 69 ∷ 10 ∷ 58 ∷ 48 ∷ 48 ∷ 48 ∷ 48 ∷ 48 ∷ 48 ∷ 48 ∷ 49 ∷ 70 ∷ 70 ∷ 10 ∷ []) 25 16 (10 ∷ 15 ∷ [])
    -- :0100010010EE\n;\n
    ∷ file (58 ∷ 48 ∷ 49 ∷ 48 ∷ 48 ∷ 48 ∷ 49 ∷ 48 ∷ 48 ∷ 49 ∷ 48 ∷ 69 ∷ 69 ∷ 10 ∷ 59 ∷ 10 ∷ []) 5 0 (16 ∷ 16 ∷ [])
    -- 25 before a later 27
    -- :020000000A0FE5\n:010001000FEF\n
    ∷ file (58 ∷ 48 ∷ 50 ∷ 48 ∷ 48 ∷ 48 ∷ 48 ∷ 48 ∷ 48 ∷ 48 ∷ 65 ∷ 48 ∷ 70 ∷ 69 ∷ 53 ∷ 10 ∷ 58 ∷ 48 ∷ 49 ∷ 48 ∷ 48 ∷ 48 ∷ 49 ∷ 48 ∷ 48 ∷ 48 ∷ 70 ∷ 69 ∷ 70 ∷ 10 ∷ []) 25 16 (10 ∷ 15 ∷ [])
    -- 27: an empty file, no end record, bytes after it, and before 26; 26
    -- empty
    ∷ file ([]) 27 0 (16 ∷ 16 ∷ [])
    -- :020000000A0FE5\n
    ∷ file (58 ∷ 48 ∷ 50 ∷ 48 ∷ 48 ∷ 48 ∷ 48 ∷ 48 ∷ 48 ∷ 48 ∷ 65 ∷ 48 ∷ 70 ∷ 69 ∷ 53 ∷ 10 ∷ []) 27 0 (10 ∷ 15 ∷ [])
    -- :020000000A0FE5\n:00000001FF\n\n
    ∷ file (58 ∷ 48 ∷ 50 ∷ 48 ∷ 48 ∷ 48 ∷ 48 ∷ 48 ∷ 48 ∷ 48 ∷ 65 ∷ 48 ∷ 70 ∷ 69 ∷ 53 ∷ 10 ∷ 58 ∷ 48 ∷ 48 ∷ 48 ∷ 48 ∷ 48 ∷ 48 ∷ 48 ∷ 49 ∷ 70 ∷ 70 ∷ 10 ∷ 10 ∷ []) 27 0 (10 ∷ 15 ∷ [])
    -- :00000001FF\nx
    ∷ file (58 ∷ 48 ∷ 48 ∷ 48 ∷ 48 ∷ 48 ∷ 48 ∷ 48 ∷ 49 ∷ 70 ∷ 70 ∷ 10 ∷ 120 ∷ []) 27 0 (16 ∷ 16 ∷ [])
    -- :00000001FF\n
    ∷ file (58 ∷ 48 ∷ 48 ∷ 48 ∷ 48 ∷ 48 ∷ 48 ∷ 48 ∷ 49 ∷ 70 ∷ 70 ∷ 10 ∷ []) 26 0 (16 ∷ 16 ∷ [])
    -- :010000000AF5\n:00000001FF\n
    ∷ file (58 ∷ 48 ∷ 49 ∷ 48 ∷ 48 ∷ 48 ∷ 48 ∷ 48 ∷ 48 ∷ 48 ∷ 65 ∷ 70 ∷ 53 ∷ 10 ∷ 58 ∷ 48 ∷ 48 ∷ 48 ∷ 48 ∷ 48 ∷ 48 ∷ 48 ∷ 49 ∷ 70 ∷ 70 ∷ 10 ∷ []) 26 1 (10 ∷ 16 ∷ [])
    ∷ []

-- ---- the orders: each call, given every set of its faults, answers the first of them

abbrev part : Bool → ℕ
part unknown = cond unknown 2 1

-- one PCA85133, or nine; 80 columns a chip, or one more; column 2 holds 0, or 16
abbrev chips : Bool → ℕ
chips many = cond many 9 1

abbrev ram : Bool → Bool → Bool → List ℕ
ram many long over = 0 ∷ 0 ∷ cond over 16 0 ∷ replicate (cond many 717 77 + cond long 1 0) 0

abbrev writing : Bool
writing =
    in_order (refusal 16 0 ∷ refusal 3 0 ∷ refusal 4 0 ∷ refusal 5 2 ∷ refusal 9 0 ∷ [])
    (λ f. written_numbers (hex_write_part (part (is f 0)) (chips (is f 1)) (ram (is f 1) (is f 2) (is f 3)) (replicate (cond (is f 4) 231 2000) 0)).result)

-- an end record that is a bad one, or has what is none behind it
abbrev reading : Bool
reading =
    in_order (refusal 16 0 ∷ refusal 3 0 ∷ refusal 14 0 ∷ refusal 4 0 ∷ refusal 21 0 ∷ refusal 27 0 ∷ refusal 26 0 ∷ [])
    (λ f. written_numbers (hex_read_part (part (is f 0)) (cond (is f 1) 9 (cond (is f 6) 1 0))
    (cond (is f 4) 59 58 ∷ 48 ∷ 48 ∷ 48 ∷ 48 ∷ 48 ∷ 48 ∷ 48 ∷ 49 ∷ 70 ∷ 70 ∷ 10 ∷ cond (is f 5) (0 ∷ []) [] ++ cond (is f 2) (replicate 65525 0) [])
    (replicate (cond (is f 1) 720 (cond (is f 6) 80 0) + cond (is f 3) 1 0) 0)).result)

-- one record of two bytes, at place 7, in which every set of faults may be
abbrev record-of : List Bool → List ℕ
record-of f =
    let columns : List ℕ = cond (is f 5) 16 3 ∷ 3 ∷ [] in
    let bytes : List ℕ = head_of (cond (is f 2) 2 0) (cond (is f 3) 3 2) columns ++ columns in
    cond (is f 0) 59 58 ∷ text_of (bytes ++ ((checksum_of bytes + cond (is f 1) 1 0) % 256 ∷ [])) ++ (10 ∷ [])

abbrev inside-record : Bool
inside-record =
    in_order (refusal 21 7 ∷ refusal 22 7 ∷ refusal 23 7 ∷ refusal 24 7 ∷ refusal 25 7 ∷ refusal 5 7 ∷ [])
    (λ f. check_numbers (fault_in (16 ∷ 16 ∷ 16 ∷ cond (is f 4) 5 16 ∷ []) 7 (record-of f)))

-- what was given before a fault in the last record is not in the output
abbrev refused_late : Bool
refused_late = same (hex_read_part 1 1 (take 44 written ++ (10 ∷ [])) (replicate 80 9)).out (replicate 80 9)

pub imaging : T (same (file_of columns) written && (every files && (writing && (reading && (inside-record && refused_late)))))
unfolding part_of check_part check_chips check_ram check_power_on over_in text_of sum_of record_of data_lines file_of hex_write_part within value_of are_digits bytes_of digits_in line_end end_in is_line size_in none_given head_fault data_fault missing_in image_in image_from image_of check_file hex_read_part
imaging = tt
