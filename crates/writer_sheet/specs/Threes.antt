-- Every element of a three-backplane glass (paper 02, request 12), computed: the bytes by hand, what their run leaves over RAM of 15 and of 0, lengths, and every refusal in its order.
use Rattle.std.specs.Prelude.{ℕ, zero, ◌+◌, ◌-◌, ◌*◌, ◌%◌, Bool, cond, ◌&&◌, List, [], ◌∷◌, ◌++◌, T, eqb, length, take, drop, replicate}
use Rattle.sheet.specs.declared.Chips.{Chips}
use Rattle.sheet.specs.Refusals.{numbers, written_numbers}
use Rattle.sheet.specs.Registers.{marked, in_range, backplanes, bank_row, registers_of}
use Rattle.sheet.specs.Parts.{within, command_in, part_of}
use Rattle.sheet.specs.Protocol.{heard_by, control_of, whole, whole_of, cut_data}
use Rattle.sheet.specs.Checks.{check_part, check_chips, check_registers, over_in, check_ram, check_length, check_bits, check_sent, fault_in, check_state, check_transfer}
use Rattle.sheet.specs.Long.{heard, data_byte, columns_of, transfer_call, transfer_part}
use Rattle.sheet.specs.Places.{position, at_position}
use Rattle.sheet.specs.Data.{put_bits, changed, with_row, stored_bits, counted, acknowledger}
use Rattle.writer_sheet.specs.Writer.{bits_from, check_wanted}
use Rattle.writer_sheet.specs.Three.{pairs_from, three_transfer, write_three_part}
use Rattle.sheet.specs.Starred.{same}
use Rattle.sheet.specs.Orders.{refusal, in_order, is}
use Rattle.writer_sheet.specs.Writings.{lost, both_lost}

-- ---- the bytes of two PCA85133 in group 1: wanted are 4 and 7 in columns 0 and 1, 5 and 2 in the last two of chip 0, 6 and 1 in the first two of chip 1, 3 and 12 in its last two, and else 8, whose row 3 is ignored

abbrev pub rows : List ℕ
rows = 4 ∷ 7 ∷ (replicate 76 8 ++ (5 ∷ 2 ∷ 6 ∷ 1 ∷ (replicate 76 8 ++ (3 ∷ 12 ∷ []))))

abbrev chips : Chips
chips = record { zero = 1; one = 2 }

abbrev pub bytes : List ℕ
bytes = (write_three_part 1 chips both_lost 1 rows (replicate 490 99)).out

-- the head, then for column 0 device-select 0, pointer 0 and 001 111 00; for column 2 pointer 2 and 0; for column 78 of chip 0 101 010 00; then chip 1, column 0: 011 100 00; and its last, 110 001 00
abbrev pub bytes_right : Bool
bytes_right =
    same (take 15 bytes) (0x72 ∷ 0x80 ∷ 0xCB ∷ 0x80 ∷ 0xE0 ∷ 0x80 ∷ 0x00 ∷ 0xC0 ∷ 0x3C ∷ 0x80 ∷ 0xE0 ∷ 0x80 ∷ 0x02 ∷ 0xC0 ∷ 0x00 ∷ [])
    && (same (take 12 (drop 237 bytes)) (0x80 ∷ 0xE0 ∷ 0x80 ∷ 0x4E ∷ 0xC0 ∷ 0xA8 ∷ 0x80 ∷ 0xE1 ∷ 0x80 ∷ 0x00 ∷ 0xC0 ∷ 0x70 ∷ [])
    && (same (take 6 (drop 477 bytes)) (0x80 ∷ 0xE1 ∷ 0x80 ∷ 0x4E ∷ 0xC0 ∷ 0xC4 ∷ []) && same (drop 483 bytes) (replicate 7 99)))

-- run over RAM of one value: rows 0 to 2 are the wanted ones, row 3 stays, the other group too; all bytes but the last are acknowledged, 640 bits less 2 are stored
abbrev pub expected : ℕ → List ℕ → List ℕ
expected row3 [] = []
expected row3 (q ∷ qs) = (q % 8 + row3) ∷ expected row3 qs

abbrev pub runs : ℕ → ℕ → Bool
runs fill row3 =
    let s = transfer_part 1 chips both_lost (replicate 240 fill) (whole (take 483 bytes)) in
    let r = registers_of 1 s.result.registers in
    let K = part_of 1 in
    same (numbers K s.result.answer) (0 ∷ 0 ∷ 482 ∷ 638 ∷ 2 ∷ 8 ∷ []) && (same (columns_of K chips 1 s.ram) (expected row3 rows) && (same (columns_of K chips 0 s.ram) (replicate 80 fill)
    && (eqb r.m 3 && (eqb r.i 0 && (eqb r.o 1 && (eqb r.bf 3 && (eqb r.p 1 && (eqb r.a 2 && eqb (r.unknown.high + r.unknown.low + r.unknown.device) 0))))))))

-- the PCF8532's two pointer commands: column 158 of chip 0 has 09 and 4E
abbrev pub larger_right : Bool
larger_right =
    let b = (write_three_part 0 (record { zero = 1; one = 0 }) both_lost 0 (replicate 158 0 ++ (7 ∷ 1 ∷ [])) (replicate 643 99)).out in
    same (take 11 b) (0x70 ∷ 0x80 ∷ 0xCB ∷ 0x80 ∷ 0xE0 ∷ 0x80 ∷ 0x00 ∷ 0x80 ∷ 0x40 ∷ 0xC0 ∷ 0x00 ∷ []) && same (drop 635 b) (0x80 ∷ 0xE0 ∷ 0x80 ∷ 0x09 ∷ 0x80 ∷ 0x4E ∷ 0xC0 ∷ 0xF0 ∷ [])

-- ---- lengths: 3 + 640 × n, 3 + 240 × n; none for no chip

abbrev size : ℕ → ℕ → ℕ
size part n = let K = part_of part in length (three_transfer K (record { zero = n; one = 1 }) both_lost 0 (replicate (K.columns * n) 0))

abbrev pub lengths : Bool
lengths = eqb (size 0 0) 0 && (eqb (size 0 1) 643 && (eqb (size 0 4) 2563 && (eqb (size 1 0) 0 && (eqb (size 1 1) 243 && eqb (size 1 8) 1923))))

-- ---- the order of its refusals: 16, 3, 6, 8, 4, 5, 9

-- group 1 has an M of 4; one chip, of which column 2 may be over 15; one column too many; an output a byte too short
abbrev asked : List Bool → List ℕ
asked f =
    written_numbers
    (write_three_part (cond (is f 0) 2 1) (record { zero = cond (is f 1) 9 1; one = 0 }) (record { zero = lost; one = record { e = 1; b = 0; m = cond (is f 2) 4 2; p = 7; a = 2; i = 0; o = 1; ab = 1; bf = 3; unknown = marked 1 } })
    (cond (is f 3) 2 0) (replicate 2 0 ++ (cond (is f 5) 16 0 ∷ replicate (cond (is f 1) 717 77 + cond (is f 4) 1 0) 0)) (replicate (cond (is f 1) 2163 243 - cond (is f 6) 1 0) 99)).result

abbrev pub ordered : Bool
ordered = in_order (refusal 16 0 ∷ refusal 3 0 ∷ refusal 6 0 ∷ refusal 8 0 ∷ refusal 4 0 ∷ refusal 5 2 ∷ refusal 9 0 ∷ []) asked

pub threes : T (bytes_right && (runs 15 8 && (runs 0 0 && (larger_right && (lengths && ordered)))))
unfolding write_three_part three_transfer pairs_from check_wanted bits_from part_of check_part transfer_part transfer_call check_transfer check_state check_chips check_registers check_ram check_length check_bits check_sent over_in fault_in whole_of cut_data heard_by heard data_byte control_of command_in within in_range backplanes bank_row position at_position put_bits changed with_row stored_bits counted acknowledger
threes = tt
