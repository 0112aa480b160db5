-- From picture to bus bytes (paper 02, request 2), computed: each mode and bank of both parts, the bytes by hand, what their run leaves; lengths, and every refusal in its order.
use Rattle.std.specs.Prelude.{ℕ, zero, ◌+◌, ◌-◌, ◌*◌, Bool, true, cond, ◌&&◌, List, [], ◌∷◌, ◌++◌, T, eqb, length, take, drop, replicate}
use Rattle.sheet.specs.declared.Registers.{Registers}
use Rattle.sheet.specs.declared.Both.{Both}
use Rattle.sheet.specs.declared.Chips.{Chips}
use Rattle.sheet.specs.Refusals.{numbers, written_numbers}
use Rattle.sheet.specs.Registers.{marked, in_range, backplanes, bank_row, registers_of}
use Rattle.sheet.specs.Parts.{within, command_in, part_of}
use Rattle.sheet.specs.Protocol.{heard_by, control_of, whole, whole_of, cut_data}
use Rattle.sheet.specs.Checks.{check_part, check_chips, check_registers, over_in, check_ram, check_length, check_bits, check_sent, fault_in, check_state, check_transfer}
use Rattle.sheet.specs.Long.{heard, data_byte, columns_of, transfer_call, transfer_part}
use Rattle.sheet.specs.Places.{position, at_position}
use Rattle.sheet.specs.Data.{put_bits, changed, with_row, stored_bits, counted, acknowledger}
use Rattle.writer_sheet.specs.Writer.{bits_from, data_from, rows_transfer, check_wanted, write_rows_part}
use Rattle.sheet.specs.Starred.{same, Column, holds}
use Rattle.sheet.specs.Orders.{Fault, refusal, in_order, is}

-- ---- the bytes

-- registers with nothing at its place: E = 1, B = 0, M = 2, P = 7, A = 2, I = 0, O = 1, AB = 1, BF = 3, and everything unknown
abbrev pub lost : Registers
lost = record { e = 1; b = 0; m = 2; p = 7; a = 2; i = 0; o = 1; ab = 1; bf = 3; unknown = marked 1 }

abbrev pub both_lost : Both
both_lost = record { zero = lost; one = lost }

-- one chip in group 1 and two in group 0; the first columns wanted of group 1, then 0; mode and bank; the transfer's first bytes, and its length;
-- and columns that its run leaves where each held 15 before: what is not reached stays
pub record Writing : Type 0 where
  pub part : ℕ
  pub mode : ℕ
  pub bank : ℕ
  pub rows : List ℕ
  pub bytes : List ℕ
  pub size : ℕ
  pub after : List Column

abbrev writing : ℕ → ℕ → ℕ → List ℕ → List ℕ → ℕ → List Column → Writing
writing part mode bank rows bytes size after = record { part = part; mode = mode; bank = bank; rows = rows; bytes = bytes; size = size; after = after }

abbrev column : ℕ → ℕ → Column
column at value = record { at = at; value = value }

abbrev chips : Chips
chips = record { zero = 2; one = 1 }

abbrev pub writes : Writing → Bool
writes w =
    let K = part_of w.part in
    let wanted = w.rows ++ replicate (K.columns - length w.rows) 0 in
    let a = write_rows_part w.part chips both_lost 1 w.mode w.bank wanted (replicate 200 99) in
    let s = transfer_part w.part chips both_lost (replicate (K.columns * 3) 15) (whole (take w.size a.out)) in
    let r = registers_of 1 s.result.registers in
    same (written_numbers a.result) (0 ∷ 0 ∷ w.size ∷ 0 ∷ 0 ∷ 0 ∷ []) && (same (take (length w.bytes) a.out) w.bytes && (same (drop w.size a.out) (replicate (200 - w.size) 99)
    && (same (take 2 (numbers K s.result.answer)) (0 ∷ 0 ∷ []) && (holds (columns_of K chips 1 s.ram) w.after && (same (columns_of K chips 0 s.ram) (replicate (K.columns * 2) 15)
    && (eqb r.m w.mode && (eqb r.i w.bank && (eqb r.e 1 && (eqb r.o 1 && (eqb r.bf 3 && eqb (r.unknown.high + r.unknown.low + r.unknown.device) 0))))))))))

abbrev pub every_writing : List Writing → Bool
every_writing [] = true
every_writing (w ∷ ws) = writes w && every_writing ws

-- the head: 72, then after 80 each mode-set C8 + M, bank-select F9 + 2 I, device-select 0 and the pointer, then 40
abbrev head : ℕ → ℕ → ℕ → List ℕ → List ℕ
head part mode_set bank_select bytes = 0x72 ∷ 0x80 ∷ mode_set ∷ 0x80 ∷ bank_select ∷ 0x80 ∷ 0xE0 ∷ 0x80 ∷ 0x00 ∷ cond (eqb part 0) (0x80 ∷ 0x40 ∷ 0x40 ∷ bytes) (0x40 ∷ bytes)

abbrev pub written : List Writing
written =
    -- static, bank 0: row 0 of columns 0 to 7, 1000 0011; row 1 and 3 of column 2 are ignored. The other rows stay
    writing 0 1 0 (1 ∷ 0 ∷ 10 ∷ 0 ∷ 0 ∷ 0 ∷ 1 ∷ 1 ∷ []) (head 0 0xC9 0xF9 (0x83 ∷ 0x00 ∷ [])) 32 (column 0 15 ∷ column 2 14 ∷ column 6 15 ∷ column 159 14 ∷ [])
    -- static, bank 1: row 2
    ∷ writing 0 1 1 (4 ∷ 3 ∷ 12 ∷ 0 ∷ 0 ∷ 0 ∷ 0 ∷ 4 ∷ []) (head 0 0xC9 0xFB (0xA1 ∷ 0x00 ∷ [])) 32 (column 0 15 ∷ column 1 11 ∷ column 2 15 ∷ column 7 15 ∷ [])
    -- 1:2, bank 0: rows 0 and 1 of columns 0 to 3, 10 01 11 00; bank 1: rows 2 and 3
    ∷ writing 0 2 0 (1 ∷ 2 ∷ 15 ∷ 12 ∷ []) (head 0 0xCA 0xF9 (0x9C ∷ 0x00 ∷ [])) 52 (column 0 13 ∷ column 1 14 ∷ column 2 15 ∷ column 3 12 ∷ [])
    ∷ writing 0 2 1 (4 ∷ 8 ∷ 15 ∷ 3 ∷ []) (head 0 0xCA 0xFB (0x9C ∷ 0x00 ∷ [])) 52 (column 0 7 ∷ column 1 11 ∷ column 2 15 ∷ column 3 3 ∷ [])
    -- 1:3: three rows of columns 0 and 1, two of column 2, whose row 2 stays: 101 010 11. I is kept, and no row goes by it. Column 159 is of a byte that overhangs
    ∷ writing 0 3 1 (5 ∷ 2 ∷ 15 ∷ 4 ∷ []) (head 0 0xCB 0xFB (0xAB ∷ 0x20 ∷ [])) 66 (column 0 13 ∷ column 1 10 ∷ column 2 15 ∷ column 3 12 ∷ column 4 8 ∷ column 5 12 ∷ column 158 12 ∷ column 159 8 ∷ [])
    -- 1:4: four rows of columns 0 and 1, 1010 0111
    ∷ writing 0 0 0 (5 ∷ 14 ∷ []) (head 0 0xC8 0xF9 (0xA7 ∷ 0x00 ∷ [])) 92 (column 0 5 ∷ column 1 14 ∷ column 2 0 ∷ column 159 0 ∷ [])
    -- the PCA85133: one pointer command, 80 columns
    ∷ writing 1 1 0 (1 ∷ 0 ∷ 10 ∷ 0 ∷ 0 ∷ 0 ∷ 1 ∷ 1 ∷ []) (head 1 0xC9 0xF9 (0x83 ∷ 0x00 ∷ [])) 20 (column 0 15 ∷ column 2 14 ∷ column 79 14 ∷ [])
    ∷ writing 1 2 1 (4 ∷ 8 ∷ 15 ∷ 3 ∷ []) (head 1 0xCA 0xFB (0x9C ∷ 0x00 ∷ [])) 30 (column 0 7 ∷ column 1 11 ∷ column 3 3 ∷ [])
    ∷ writing 1 3 0 (5 ∷ 2 ∷ 15 ∷ 4 ∷ []) (head 1 0xCB 0xF9 (0xAB ∷ 0x20 ∷ [])) 37 (column 0 13 ∷ column 2 15 ∷ column 77 12 ∷ column 79 8 ∷ [])
    ∷ writing 1 0 1 (5 ∷ 14 ∷ []) (head 1 0xC8 0xFB (0xA7 ∷ 0x00 ∷ [])) 50 (column 0 5 ∷ column 1 14 ∷ column 79 0 ∷ [])
    ∷ []

-- ---- lengths: 12 and 160 × n / w rounded up, 10 and 80 × n / w; none for no chip

pub record Length : Type 0 where
  pub part : ℕ
  pub chips : ℕ
  pub mode : ℕ
  pub bytes : ℕ

abbrev len : ℕ → ℕ → ℕ → ℕ → Length
len part chips mode bytes = record { part = part; chips = chips; mode = mode; bytes = bytes }

abbrev pub every_length : List Length → Bool
every_length [] = true
every_length (l ∷ ls) =
    let K = part_of l.part in
    eqb (length (rows_transfer K (record { zero = l.chips; one = 1 }) both_lost 0 l.mode 0 (replicate (K.columns * l.chips) 0))) l.bytes && every_length ls

abbrev pub lengths : List Length
lengths =
    len 0 0 1 0 ∷ len 0 0 3 0 ∷ len 1 0 0 0 ∷ len 0 4 1 92 ∷ len 0 4 2 172 ∷ len 0 1 3 66 ∷ len 0 2 3 119 ∷ len 0 3 3 172 ∷ len 0 4 3 226 ∷ len 0 4 0 332
    ∷ len 1 8 1 90 ∷ len 1 8 2 170 ∷ len 1 1 3 37 ∷ len 1 3 3 90 ∷ len 1 8 3 224 ∷ len 1 8 0 330 ∷ []

-- ---- the order of its refusals: 16, 3, 6, 8, 4, 5, 9; 6 for a register, a wanted mode or a wanted bank

-- group 1 has an M of 4, in place of 2
abbrev both : Bool → Both
both bad = record { zero = lost; one = record { e = 1; b = 0; m = cond bad 4 2; p = 7; a = 2; i = 0; o = 1; ab = 1; bf = 3; unknown = marked 1 } }

-- one chip, of which column 2 may be over 15; one column too many; an output a byte too short
abbrev asked : (Bool → ℕ) → (Bool → ℕ) → (Bool → Bool) → List Bool → List ℕ
asked mode bank register f =
    written_numbers
    (write_rows_part (cond (is f 0) 2 0) (record { zero = cond (is f 1) 5 1; one = 0 }) (both (register (is f 2))) (cond (is f 3) 2 0) (mode (is f 2)) (bank (is f 2))
    (replicate 2 0 ++ (cond (is f 5) 16 0 ∷ replicate (cond (is f 1) 797 157 + cond (is f 4) 1 0) 0)) (replicate (cond (is f 1) 412 92 - cond (is f 6) 1 0) 99)).result

abbrev faults : List Fault
faults = refusal 16 0 ∷ refusal 3 0 ∷ refusal 6 0 ∷ refusal 8 0 ∷ refusal 4 0 ∷ refusal 5 2 ∷ refusal 9 0 ∷ []

abbrev pub ordered : Bool
ordered =
    in_order faults (asked (λ bad. 0) (λ bad. 0) (λ bad. bad)) && (in_order faults (asked (λ bad. cond bad 4 0) (λ bad. 1) (λ bad. Bool.false))
    && in_order faults (asked (λ bad. 0) (λ bad. cond bad 2 0) (λ bad. Bool.false)))

pub writings : T (every_writing written && (every_length lengths && ordered))
unfolding write_rows_part rows_transfer check_wanted bits_from data_from part_of check_part transfer_part transfer_call check_transfer check_state check_chips check_registers check_ram check_length check_bits check_sent over_in fault_in whole_of cut_data heard_by heard data_byte control_of command_in within in_range backplanes bank_row position at_position put_bits changed with_row stored_bits counted acknowledger
writings = tt
