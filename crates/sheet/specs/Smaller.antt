-- The starred cases carried over to the PCA85133 (paper 02, request 5; sheet 002): 80 columns, eight chips, one pointer command. One table, one claim, of both accounts.
use Rattle.std.specs.Prelude.{ℕ, ◌+◌, ◌-◌, ◌*◌, Bool, ◌&&◌, List, [], ◌∷◌, T, take, replicate}
use Rattle.std.specs.Int.Count.{ones, ones_in}
use Rattle.sheet.specs.declared.Both.{Both}
use Rattle.sheet.specs.declared.Chips.{Chips}
use Rattle.sheet.specs.declared.Chip.{Chip}
use Rattle.sheet.specs.Refusals.{check_numbers, picture_numbers, plain_numbers}
use Rattle.sheet.specs.Registers.{power_on, at_place, in_range, backplanes, bank_row}
use Rattle.sheet.specs.Parts.{within, command_in, part_of}
use Rattle.sheet.specs.Protocol.{heard_by, control_of, whole, whole_of, cut_data}
use Rattle.sheet.specs.Checks.{check_part, check_chips, check_registers, over_in, check_ram, check_length, check_bits, check_sent, fault_in, check_state, check_power_on, check_transfer, check_picture}
use Rattle.sheet.specs.Pictures.{shown, picture_of, lit_in}
use Rattle.sheet.specs.Long.{heard, data_byte, power_on_call, transfer_call, picture_call, power_on_part, transfer_part, picture_part}
use Rattle.sheet.specs.Plain.{put_rows, after_column, after_columns, chip_data, acknowledges_data, smallest, plain_heard, chip_fits, chip_power_on, check_chip_picture, chip_picture_call, misfit_in, check_plain, plain_call, chip_power_on_part, plain_part}
use Rattle.sheet.specs.Places.{advanced, position, at_position}
use Rattle.sheet.specs.Agree.{group_chips}
use Rattle.sheet.specs.Data.{put_bits, changed, with_row, stored_bits, counted, acknowledger}
use Rattle.sheet.specs.Starred.{Row, same, col, alone, every}

abbrev pub table : List Row
table =
    -- 1:4, two chips, P 79, data A5: columns 79, 80 = 5, 10; A 1, P 1
    record { group = 0; chips = 2; others = 0; fill = 0; bytes = 0x70 ∷ 0x80 ∷ 0x4F ∷ 0x40 ∷ 0xA5 ∷ []; answer = 0 ∷ 0 ∷ 5 ∷ 8 ∷ 0 ∷ 1 ∷ []; a = 1; p = 1; columns = col 78 0 ∷ col 79 5 ∷ col 80 10 ∷ col 81 0 ∷ []; phase = 0; lit = 0; picture = [] }
    -- 1:3, two chips, P 79, FF: columns 79 to 81 = 7, 7, 3; P 2
    ∷ record { group = 0; chips = 2; others = 0; fill = 0; bytes = 0x70 ∷ 0x80 ∷ 0xC3 ∷ 0x80 ∷ 0x4F ∷ 0x40 ∷ 0xFF ∷ []; answer = 0 ∷ 0 ∷ 7 ∷ 8 ∷ 0 ∷ 1 ∷ []; a = 1; p = 2; columns = col 78 0 ∷ col 79 7 ∷ col 80 7 ∷ col 81 3 ∷ col 82 0 ∷ []; phase = 0; lit = 0; picture = [] }
    -- 1:3, the same with 00 over RAM of 15: 8, 8, 12
    ∷ record { group = 0; chips = 2; others = 0; fill = 15; bytes = 0x70 ∷ 0x80 ∷ 0xC3 ∷ 0x80 ∷ 0x4F ∷ 0x40 ∷ 0x00 ∷ []; answer = 0 ∷ 0 ∷ 7 ∷ 8 ∷ 0 ∷ 1 ∷ []; a = 1; p = 2; columns = col 78 15 ∷ col 79 8 ∷ col 80 8 ∷ col 81 12 ∷ col 82 15 ∷ []; phase = 0; lit = 0; picture = [] }
    -- the incident on this glass: the minus bar is row 2 of column 80, and dark where the firmware sends a zero for it
    ∷ record { group = 0; chips = 2; others = 0; fill = 0; bytes = 0x70 ∷ 0x80 ∷ 0xCB ∷ 0x80 ∷ 0xE0 ∷ 0x80 ∷ 0x4F ∷ 0x40 ∷ 0x04 ∷ 0xA6 ∷ []; answer = 0 ∷ 0 ∷ 10 ∷ 16 ∷ 0 ∷ 1 ∷ []; a = 1; p = 5; columns = col 79 0 ∷ col 80 4 ∷ col 81 0 ∷ col 82 5 ∷ col 83 4 ∷ col 84 1 ∷ []; phase = 0; lit = 5; picture = col 80 4 ∷ col 82 5 ∷ [] }
    ∷ record { group = 0; chips = 2; others = 0; fill = 0; bytes = 0x70 ∷ 0x80 ∷ 0xCB ∷ 0x80 ∷ 0xE0 ∷ 0x80 ∷ 0x4F ∷ 0x40 ∷ 0x00 ∷ 0xA6 ∷ []; answer = 0 ∷ 0 ∷ 10 ∷ 16 ∷ 0 ∷ 1 ∷ []; a = 1; p = 5; columns = col 79 0 ∷ col 80 0 ∷ col 81 0 ∷ col 82 5 ∷ col 83 4 ∷ col 84 1 ∷ []; phase = 0; lit = 4; picture = col 80 0 ∷ col 82 5 ∷ [] }
    -- static, two chips, P 76, 81: columns 76 and 83 = 1; A 1, P 4
    ∷ record { group = 0; chips = 2; others = 0; fill = 0; bytes = 0x70 ∷ 0x80 ∷ 0xC1 ∷ 0x80 ∷ 0x4C ∷ 0x40 ∷ 0x81 ∷ []; answer = 0 ∷ 0 ∷ 7 ∷ 8 ∷ 0 ∷ 1 ∷ []; a = 1; p = 4; columns = col 76 1 ∷ col 77 0 ∷ col 82 0 ∷ col 83 1 ∷ col 84 0 ∷ []; phase = 0; lit = 0; picture = [] }
    -- 1:2, I 1, two chips, P 78, FF: columns 78 to 81 = 12
    ∷ record { group = 0; chips = 2; others = 0; fill = 0; bytes = 0x70 ∷ 0x80 ∷ 0xC2 ∷ 0x80 ∷ 0xFA ∷ 0x80 ∷ 0x4E ∷ 0x40 ∷ 0xFF ∷ []; answer = 0 ∷ 0 ∷ 9 ∷ 8 ∷ 0 ∷ 1 ∷ []; a = 1; p = 2; columns = col 77 0 ∷ col 78 12 ∷ col 79 12 ∷ col 80 12 ∷ col 81 12 ∷ col 82 0 ∷ []; phase = 0; lit = 0; picture = [] }
    -- 1:3, one chip, P 79, FF: column 79 = 7; 3 stored, 5 discarded, data byte not acknowledged
    ∷ record { group = 0; chips = 1; others = 0; fill = 0; bytes = 0x70 ∷ 0x80 ∷ 0xC3 ∷ 0x80 ∷ 0x4F ∷ 0x40 ∷ 0xFF ∷ []; answer = 0 ∷ 0 ∷ 6 ∷ 3 ∷ 5 ∷ 8 ∷ []; a = 1; p = 2; columns = col 78 0 ∷ col 79 7 ∷ []; phase = 0; lit = 0; picture = [] }
    -- 1:4, eight chips, A 7, P 78, two bytes: the second discarded; A 8, P 2
    ∷ record { group = 0; chips = 8; others = 0; fill = 0; bytes = 0x70 ∷ 0x80 ∷ 0xE7 ∷ 0x80 ∷ 0x4E ∷ 0x40 ∷ 0xFF ∷ 0xFF ∷ []; answer = 0 ∷ 0 ∷ 7 ∷ 8 ∷ 8 ∷ 8 ∷ []; a = 8; p = 2; columns = col 0 0 ∷ col 637 0 ∷ col 638 15 ∷ col 639 15 ∷ []; phase = 0; lit = 0; picture = [] }
    -- 1:3, eight chips, over the edge of chips 6 and 7
    ∷ record { group = 0; chips = 8; others = 0; fill = 0; bytes = 0x70 ∷ 0x80 ∷ 0xC3 ∷ 0x80 ∷ 0xE6 ∷ 0x80 ∷ 0x4F ∷ 0x40 ∷ 0xFF ∷ []; answer = 0 ∷ 0 ∷ 9 ∷ 8 ∷ 0 ∷ 7 ∷ []; a = 7; p = 2; columns = col 558 0 ∷ col 559 7 ∷ col 560 7 ∷ col 561 3 ∷ col 562 0 ∷ []; phase = 0; lit = 0; picture = [] }
    -- the pointer is one command: 40 is column 64 and no low nibble, 09 column 9
    ∷ record { group = 0; chips = 1; others = 0; fill = 0; bytes = 0x70 ∷ 0x80 ∷ 0x4F ∷ 0x80 ∷ 0x40 ∷ []; answer = 0 ∷ 0 ∷ 5 ∷ 0 ∷ 0 ∷ 8 ∷ []; a = 0; p = 64; columns = []; phase = 0; lit = 0; picture = [] }
    ∷ record { group = 0; chips = 1; others = 0; fill = 0; bytes = 0x70 ∷ 0x80 ∷ 0x4F ∷ 0x80 ∷ 0x09 ∷ []; answer = 0 ∷ 0 ∷ 5 ∷ 0 ∷ 0 ∷ 8 ∷ []; a = 0; p = 9; columns = []; phase = 0; lit = 0; picture = [] }
    -- 4F taken, 50 and 7F refused; E7 taken, E8 and EF refused; FB taken, FC refused
    ∷ alone 0x4F (0 ∷ 0 ∷ 3 ∷ 0 ∷ 0 ∷ 8 ∷ []) 0 79
    ∷ alone 0x50 (7 ∷ 2 ∷ 0 ∷ 0 ∷ 0 ∷ 8 ∷ []) 0 0
    ∷ alone 0x7F (7 ∷ 2 ∷ 0 ∷ 0 ∷ 0 ∷ 8 ∷ []) 0 0
    ∷ alone 0xE7 (0 ∷ 0 ∷ 3 ∷ 0 ∷ 0 ∷ 8 ∷ []) 7 0
    ∷ alone 0xE8 (7 ∷ 2 ∷ 0 ∷ 0 ∷ 0 ∷ 8 ∷ []) 0 0
    ∷ alone 0xEF (7 ∷ 2 ∷ 0 ∷ 0 ∷ 0 ∷ 8 ∷ []) 0 0
    ∷ alone 0xFB (0 ∷ 0 ∷ 3 ∷ 0 ∷ 0 ∷ 8 ∷ []) 0 0
    ∷ alone 0xFC (7 ∷ 2 ∷ 0 ∷ 0 ∷ 0 ∷ 8 ∷ []) 0 0
    -- a refusal changes nothing, though a data byte came before the undefined command
    ∷ record { group = 0; chips = 1; others = 0; fill = 6; bytes = 0x70 ∷ 0xC0 ∷ 0xFF ∷ 0x00 ∷ 0x50 ∷ []; answer = 7 ∷ 4 ∷ 0 ∷ 0 ∷ 0 ∷ 8 ∷ []; a = 0; p = 0; columns = col 0 6 ∷ col 1 6 ∷ []; phase = 0; lit = 0; picture = [] }
    -- 1:2, E 1, O 0, AB 1, BF 1, phase 1, column 12: picture 3
    ∷ record { group = 0; chips = 1; others = 0; fill = 12; bytes = 0x70 ∷ 0x80 ∷ 0xCA ∷ 0x80 ∷ 0xF8 ∷ 0x80 ∷ 0xF5 ∷ []; answer = 0 ∷ 0 ∷ 7 ∷ 0 ∷ 0 ∷ 8 ∷ []; a = 0; p = 0; columns = col 0 12 ∷ []; phase = 1; lit = 160; picture = col 0 3 ∷ col 79 3 ∷ [] }
    -- runs of three bytes over the edge in each mode: static, 1:2, 1:3, 1:4
    ∷ record { group = 0; chips = 2; others = 0; fill = 15; bytes = 0x70 ∷ 0x80 ∷ 0xC9 ∷ 0x80 ∷ 0x46 ∷ 0x40 ∷ 0xFF ∷ 0x00 ∷ 0xFF ∷ []; answer = 0 ∷ 0 ∷ 9 ∷ 24 ∷ 0 ∷ 1 ∷ []; a = 1; p = 14; columns = col 69 15 ∷ col 77 15 ∷ col 78 14 ∷ col 79 14 ∷ col 80 14 ∷ col 85 14 ∷ col 86 15 ∷ col 94 15 ∷ []; phase = 0; lit = 152; picture = col 77 1 ∷ col 78 0 ∷ col 85 0 ∷ col 86 1 ∷ [] }
    ∷ record { group = 0; chips = 2; others = 0; fill = 0; bytes = 0x70 ∷ 0x80 ∷ 0xCA ∷ 0x80 ∷ 0xFB ∷ 0x80 ∷ 0x4A ∷ 0x40 ∷ 0x1B ∷ 0xE4 ∷ 0x1B ∷ []; answer = 0 ∷ 0 ∷ 11 ∷ 24 ∷ 0 ∷ 1 ∷ []; a = 1; p = 6; columns = col 73 0 ∷ col 74 0 ∷ col 75 8 ∷ col 76 4 ∷ col 77 12 ∷ col 78 12 ∷ col 79 4 ∷ col 80 8 ∷ col 81 0 ∷ col 82 0 ∷ col 83 8 ∷ col 84 4 ∷ col 85 12 ∷ col 86 0 ∷ []; phase = 0; lit = 12; picture = col 75 2 ∷ col 77 3 ∷ col 80 2 ∷ col 85 3 ∷ [] }
    ∷ record { group = 0; chips = 2; others = 0; fill = 0; bytes = 0x70 ∷ 0x80 ∷ 0xCB ∷ 0x80 ∷ 0x4D ∷ 0x40 ∷ 0x53 ∷ 0xAC ∷ 0x53 ∷ []; answer = 0 ∷ 0 ∷ 9 ∷ 24 ∷ 0 ∷ 1 ∷ []; a = 1; p = 6; columns = col 76 0 ∷ col 77 2 ∷ col 78 1 ∷ col 79 3 ∷ col 80 5 ∷ col 81 6 ∷ col 82 0 ∷ col 83 2 ∷ col 84 1 ∷ col 85 3 ∷ col 86 0 ∷ []; phase = 0; lit = 12; picture = col 79 3 ∷ col 80 5 ∷ col 85 3 ∷ [] }
    ∷ record { group = 0; chips = 2; others = 0; fill = 0; bytes = 0x70 ∷ 0x80 ∷ 0xC8 ∷ 0x80 ∷ 0x4D ∷ 0x40 ∷ 0xA5 ∷ 0x3C ∷ 0xA5 ∷ []; answer = 0 ∷ 0 ∷ 9 ∷ 24 ∷ 0 ∷ 1 ∷ []; a = 1; p = 3; columns = col 76 0 ∷ col 77 5 ∷ col 78 10 ∷ col 79 12 ∷ col 80 3 ∷ col 81 5 ∷ col 82 10 ∷ col 83 0 ∷ []; phase = 0; lit = 12; picture = col 77 5 ∷ col 80 3 ∷ col 82 10 ∷ [] }
    -- all bytes are carried out after one not acknowledged: a data byte over the end, then a device-select and a data byte
    ∷ record { group = 0; chips = 1; others = 0; fill = 0; bytes = 0x70 ∷ 0x80 ∷ 0x4F ∷ 0xC0 ∷ 0xFF ∷ 0x80 ∷ 0xE0 ∷ 0x40 ∷ 0xA5 ∷ []; answer = 0 ∷ 0 ∷ 8 ∷ 12 ∷ 4 ∷ 0 ∷ []; a = 0; p = 3; columns = col 0 0 ∷ col 1 5 ∷ col 2 10 ∷ col 3 0 ∷ col 79 15 ∷ []; phase = 0; lit = 0; picture = [] }
    -- group 1: its columns stand after group 0's, which stay; 1:4 over the edge of its two chips, shown
    ∷ record { group = 1; chips = 2; others = 1; fill = 0; bytes = 0x72 ∷ 0x80 ∷ 0xC8 ∷ 0x80 ∷ 0x4F ∷ 0x40 ∷ 0xA5 ∷ []; answer = 0 ∷ 0 ∷ 7 ∷ 8 ∷ 0 ∷ 1 ∷ []; a = 1; p = 1; columns = col 0 0 ∷ col 78 0 ∷ col 79 5 ∷ col 80 10 ∷ col 81 0 ∷ []; phase = 0; lit = 4; picture = col 0 0 ∷ col 79 5 ∷ col 80 10 ∷ [] }
    -- 1:3 over RAM of 15: rows 2 and 3 of the third column stay; row 3 is not shown
    ∷ record { group = 1; chips = 1; others = 2; fill = 15; bytes = 0x72 ∷ 0x80 ∷ 0xCB ∷ 0x40 ∷ 0x00 ∷ []; answer = 0 ∷ 0 ∷ 5 ∷ 8 ∷ 0 ∷ 0 ∷ []; a = 0; p = 3; columns = col 0 8 ∷ col 1 8 ∷ col 2 12 ∷ col 3 15 ∷ []; phase = 0; lit = 232; picture = col 0 0 ∷ col 1 0 ∷ col 2 4 ∷ col 3 7 ∷ [] }
    -- normal blinking at phase 1: dark
    ∷ record { group = 1; chips = 1; others = 1; fill = 15; bytes = 0x72 ∷ 0x80 ∷ 0xC8 ∷ 0x80 ∷ 0xF1 ∷ []; answer = 0 ∷ 0 ∷ 5 ∷ 0 ∷ 0 ∷ 8 ∷ []; a = 0; p = 0; columns = col 0 15 ∷ []; phase = 1; lit = 0; picture = col 0 0 ∷ col 79 0 ∷ [] }
    -- 70 alone: one acknowledged. 71 alone: none
    ∷ record { group = 0; chips = 1; others = 0; fill = 0; bytes = 0x70 ∷ []; answer = 0 ∷ 0 ∷ 1 ∷ 0 ∷ 0 ∷ 8 ∷ []; a = 0; p = 0; columns = []; phase = 0; lit = 0; picture = [] }
    ∷ record { group = 0; chips = 1; others = 0; fill = 0; bytes = 0x71 ∷ []; answer = 0 ∷ 0 ∷ 0 ∷ 0 ∷ 0 ∷ 8 ∷ []; a = 0; p = 0; columns = []; phase = 0; lit = 0; picture = [] }
    ∷ []

-- ---- the limits of each part, on both sides: 3, 4, 6, 9, 10 and 11

abbrev answers : ℕ → List ℕ → Bool
answers number answer = same (take 1 answer) (number ∷ [])

abbrev chips : ℕ → Chips
chips n = record { zero = 0; one = n }

abbrev ram : ℕ → List ℕ
ram size = replicate size 0

-- group 1's P and A
abbrev both : ℕ → ℕ → Both
both p a = record { zero = power_on; one = at_place power_on p a }

abbrev chip : ℕ → Chip
chip subaddress = record { columns = ram 160; sa0 = 1; subaddress = subaddress; registers = power_on }

abbrev on : ℕ → ℕ → ℕ → List ℕ
on part n size = check_numbers (power_on_part part (chips n) (ram size)).check

abbrev pictured : ℕ → ℕ → ℕ → ℕ → ℕ → List ℕ
pictured part columns p a size = picture_numbers (picture_part part (chips 1) (both p a) (ram columns) 1 0 (ram size)).result

abbrev listed : ℕ → ℕ → ℕ → List ℕ
listed part n subaddress = plain_numbers (part_of part) (plain_part part (replicate n (chip subaddress)) (whole (0x72 ∷ []))).answer

abbrev pub limits : ℕ → ℕ → ℕ → Bool
limits part columns limit =
    answers 0 (on part limit (columns * limit)) && (answers 3 (on part (limit + 1) (columns * (limit + 1)))
    && (answers 4 (on part limit (columns * limit + 1)) && (answers 4 (on part limit (columns * limit - 1))
    && (answers 0 (pictured part columns (columns - 1) limit columns) && (answers 6 (pictured part columns columns limit columns) && (answers 6 (pictured part columns 0 (limit + 1) columns)
    && (answers 9 (pictured part columns 0 0 (columns + 1)) && (answers 9 (pictured part columns 0 0 (columns - 1))
    && (answers 0 (listed part (2 * limit) (limit - 1)) && (answers 10 (listed part (2 * limit + 1) 0) && answers 11 (listed part 1 limit)))))))))))

pub smaller : T (every 1 table && (limits 0 160 4 && limits 1 80 8))
unfolding part_of check_part power_on_part transfer_part picture_part chip_power_on_part plain_part power_on_call check_power_on picture_call check_picture chip_power_on chip_picture_call check_chip_picture lit_in ones ones_in plain_call check_plain misfit_in chip_fits plain_heard group_chips chip_data after_column after_columns put_rows advanced acknowledges_data smallest transfer_call check_transfer check_state check_chips check_registers check_ram check_length check_bits check_sent over_in fault_in whole_of cut_data heard_by heard data_byte control_of command_in within in_range backplanes bank_row position at_position put_bits changed with_row stored_bits counted acknowledger shown picture_of
smaller = tt
