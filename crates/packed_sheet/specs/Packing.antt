-- Packed RAM (paper 02, request 6), computed: columns and bytes both ways, the starred cases of both parts, packed bytes by hand, lengths, and the orders, which lose 5 and nothing else.
use Rattle.std.specs.Prelude.{ℕ, ◌+◌, ◌*◌, ◌/◌, Bool, true, false, cond, ◌&&◌, List, [], ◌∷◌, ◌++◌, T, eqb, length, replicate}
use Rattle.std.specs.Int.Count.{ones, ones_in}
use Rattle.sheet.specs.Refusals.{numbers, picture_numbers, check_numbers}
use Rattle.sheet.specs.Registers.{in_range, backplanes, bank_row, registers_of}
use Rattle.sheet.specs.Parts.{within, command_in, part_of}
use Rattle.sheet.specs.Protocol.{heard_by, control_of, sent, whole, whole_of, cut_data}
use Rattle.sheet.specs.Checks.{check_part, check_chips, check_registers, over_in, check_ram, check_length, check_bits, check_sent, fault_in, check_state, check_power_on, check_transfer, check_picture}
use Rattle.sheet.specs.Pictures.{shown, picture_of, lit_in}
use Rattle.sheet.specs.Long.{both_on, heard, data_byte, columns_of, power_on_call, transfer_call, picture_call, power_on_part, transfer_part, picture_part}
use Rattle.sheet.specs.Places.{position, at_position}
use Rattle.sheet.specs.Data.{put_bits, changed, with_row, stored_bits, counted, acknowledger}
use Rattle.packed_sheet.specs.Packed.{unpacked, packed, power_on_packed, transfer_packed, picture_packed}
use Rattle.sheet.specs.Starred.{Column, Row, same, holds, one_count, chips_on, columns_on, col}
use Rattle.sheet.specs.Starred as larger
use Rattle.sheet.specs.Smaller as smaller
use Rattle.sheet.specs.Orders.{Fault, refusal, in_order, is, part, chips, both}

-- ---- columns and bytes: the even column in the low four bits

abbrev both_ways : List ℕ → List ℕ → Bool
both_ways bytes columns = same (unpacked bytes) columns && same (packed columns) bytes

abbrev ways : Bool
ways = both_ways [] [] && (both_ways (0xA5 ∷ 0x3C ∷ []) (5 ∷ 10 ∷ 12 ∷ 3 ∷ []) && both_ways (0x01 ∷ 0x10 ∷ 0xFF ∷ []) (1 ∷ 0 ∷ 0 ∷ 1 ∷ 15 ∷ 15 ∷ []))

-- ---- the starred cases: each answer, count, column and picture is that of the one-byte form

abbrev passes : ℕ → Row → Bool
passes part row =
    let K = part_of part in
    let n = chips_on row in
    let g = row.group in
    let ram = packed (columns_on K row) in
    let on = power_on_packed part n ram in
    let s = transfer_packed part n on.registers ram (whole row.bytes) in
    let r = registers_of g s.result.registers in
    let seen = picture_packed part n s.result.registers s.ram g row.phase (replicate (K.columns * row.chips) 99) in
    same (check_numbers on.check) (one_count 0) && (same (numbers K s.result.answer) row.answer
    && (eqb r.a row.a && (eqb r.p row.p && (eqb (length s.ram) (K.columns / 2 * (row.chips + row.others))
    && (holds (columns_of K n g (unpacked s.ram)) row.columns && (same (picture_numbers seen.result) (one_count row.lit) && holds seen.out row.picture))))))

abbrev every : ℕ → List Row → Bool
every part [] = true
every part (r ∷ rs) = passes part r && every part rs

-- ---- packed bytes by hand, of one chip, over bytes of FF: its mode-set and the rest of the transfer, and the bytes afterwards. What no data bit lands on stays F

pub record Written : Type 0 where
  pub mode : ℕ
  pub bytes : List ℕ
  pub holds : List Column

abbrev written : ℕ → List ℕ → List Column → Written
written mode bytes holds = record { mode = mode; bytes = bytes; holds = holds }

abbrev every_written : List Written → Bool
every_written [] = true
every_written (w ∷ ws) =
    holds (transfer_packed 0 (record { zero = 1; one = 0 }) both_on (replicate 80 255) (whole (0x70 ∷ 0x80 ∷ w.mode ∷ w.bytes))).ram w.holds && every_written ws

abbrev by_hand : List Written
by_hand =
    -- 1:4 from an even column: a data byte is one packed byte, its bits in the other order
    written 0xC0 (0x40 ∷ 0xA5 ∷ 0x3C ∷ []) (col 0 0xA5 ∷ col 1 0x3C ∷ col 2 0xFF ∷ [])
    ∷ written 0xC0 (0x40 ∷ 0x80 ∷ 0x01 ∷ []) (col 0 0x01 ∷ col 1 0x80 ∷ col 2 0xFF ∷ [])
    -- from an odd one: the high half of a byte and the low half of the next
    ∷ written 0xC0 (0x80 ∷ 0x41 ∷ 0x40 ∷ 0x80 ∷ []) (col 0 0x1F ∷ col 1 0xF0 ∷ col 2 0xFF ∷ [])
    -- 1:3: two columns and a half, rows 2 and 3 of the third stay; then from an odd column
    ∷ written 0xC3 (0x40 ∷ 0x00 ∷ []) (col 0 0x88 ∷ col 1 0xFC ∷ [])
    ∷ written 0xC3 (0x80 ∷ 0x41 ∷ 0x40 ∷ 0x00 ∷ []) (col 0 0x8F ∷ col 1 0xC8 ∷ col 2 0xFF ∷ [])
    -- 1:2, bank 1: rows 0 and 1 stay
    ∷ written 0xC2 (0x80 ∷ 0xFA ∷ 0x40 ∷ 0x1B ∷ []) (col 0 0xB3 ∷ col 1 0xF7 ∷ col 2 0xFF ∷ [])
    ∷ written 0xC2 (0x80 ∷ 0xFA ∷ 0x80 ∷ 0x41 ∷ 0x40 ∷ 0x1B ∷ []) (col 0 0x3F ∷ col 1 0x7B ∷ col 2 0xFF ∷ [])
    -- static, bank 0: a row each
    ∷ written 0xC1 (0x40 ∷ 0x42 ∷ []) (col 0 0xFE ∷ col 1 0xEE ∷ col 2 0xEE ∷ col 3 0xEF ∷ col 4 0xFF ∷ [])
    ∷ written 0xC1 (0x80 ∷ 0x41 ∷ 0x40 ∷ 0x42 ∷ []) (col 0 0xEF ∷ col 1 0xEF ∷ col 2 0xEE ∷ col 3 0xFE ∷ col 4 0xFE ∷ [])
    -- over the last column: a half of the last byte
    ∷ written 0xC0 (0x80 ∷ 0x09 ∷ 0x80 ∷ 0x4F ∷ 0x40 ∷ 0x00 ∷ []) (col 78 0xFF ∷ col 79 0x0F ∷ [])
    ∷ []

-- ---- 4 means half the columns, 160 bytes for the two chips of both groups; every byte is taken

abbrev answered : ℕ → ℕ → Bool
answered size number = same (check_numbers (power_on_packed 0 (chips false) (replicate size 255)).check) (number ∷ 0 ∷ 0 ∷ 0 ∷ 0 ∷ 0 ∷ [])

abbrev lengths : Bool
lengths = answered 160 0 && (answered 159 4 && (answered 161 4 && answered 320 4))

-- ---- the orders

-- 80 bytes a chip, or one more
abbrev ram : Bool → Bool → List ℕ
ram many long = replicate (cond many 480 160 + cond long 1 0) 255

abbrev state : List Fault
state = refusal 16 0 ∷ refusal 3 0 ∷ refusal 6 0 ∷ refusal 4 0 ∷ []

abbrev orders : Bool
orders =
    in_order (refusal 16 0 ∷ refusal 3 0 ∷ refusal 4 0 ∷ []) (λ f. check_numbers (power_on_packed (part (is f 0)) (chips (is f 1)) (ram (is f 1) (is f 2))).check)
    && (in_order (state ++ (refusal 1 0 ∷ refusal 19 0 ∷ refusal 17 1 ∷ refusal 7 4 ∷ []))
    (λ f. numbers (part_of (part (is f 0)))
    (transfer_packed (part (is f 0)) (chips (is f 1)) (both (is f 2)) (ram (is f 1) (is f 3)) (sent (cond (is f 4) [] (0x70 ∷ cond (is f 6) 0x81 0x80 ∷ 0x00 ∷ 0x00 ∷ cond (is f 7) 0x0A 0x00 ∷ [])) (cond (is f 5) 9 8))).result.answer)
    && in_order (state ++ (refusal 8 0 ∷ refusal 9 0 ∷ []))
    (λ f. picture_numbers (picture_packed (part (is f 0)) (chips (is f 1)) (both (is f 2)) (ram (is f 1) (is f 3)) (cond (is f 4) 2 0) 0 (replicate (cond (is f 1) 800 160 + cond (is f 5) 1 0) 0)).result))

pub packing : T (ways && (every 0 larger.table && (every 1 smaller.table && (every_written by_hand && (lengths && orders)))))
unfolding unpacked packed power_on_packed transfer_packed picture_packed part_of check_part power_on_part transfer_part picture_part power_on_call check_power_on picture_call check_picture lit_in ones ones_in transfer_call check_transfer check_state check_chips check_registers check_ram check_length check_bits check_sent over_in fault_in whole_of cut_data heard_by heard data_byte control_of command_in within in_range backplanes bank_row position at_position put_bits changed with_row stored_bits counted acknowledger shown picture_of
packing = tt
