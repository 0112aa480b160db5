-- The starred cases of paper 01, "Both sides of each edge", and what its excluded answers would get wrong: one table, one claim.
-- Each row is a power-on, a transfer and a picture, claimed of the long account and of the chips powered on, followed and shown one by one.
use Rattle.std.specs.Prelude.{ℕ, ◌+◌, ◌-◌, ◌*◌, Bool, cond, ◌&&◌, List, [], ◌∷◌, ◌++◌, map, T, eqb, get_or, take, drop, replicate}
use Rattle.std.specs.Int.Count.{ones, ones_in}
use Rattle.sheet.specs.declared.Registers.{Registers}
use Rattle.sheet.specs.declared.Chips.{Chips}
use Rattle.sheet.specs.declared.Chip.{Chip}
use Rattle.sheet.specs.Refusals.{numbers, plain_numbers, picture_numbers, check_numbers}
use Rattle.sheet.specs.Registers.{in_range, backplanes, bank_row, marked, registers_of}
use Rattle.sheet.specs.Parts.{Part, within, command_in, part_of}
use Rattle.sheet.specs.Protocol.{heard_by, control_of, whole, whole_of, cut_data}
use Rattle.sheet.specs.Checks.{check_part, check_chips, check_registers, over_in, check_ram, check_length, check_bits, check_sent, fault_in, check_state, check_power_on, check_transfer, check_picture}
use Rattle.sheet.specs.Pictures.{shown, picture_of, lit_in}
use Rattle.sheet.specs.Long.{heard, data_byte, columns_of, power_on_call, transfer_call, picture_call, state_of, power_on_part, transfer_part, picture_part}
use Rattle.sheet.specs.Plain.{put_rows, after_column, after_columns, chip_data, acknowledges_data, smallest, plain_heard, chip_fits, chip_power_on, check_chip_picture, chip_picture_call, misfit_in, check_plain, plain_call, own_columns, chip_power_on_part, plain_part}
use Rattle.sheet.specs.Places.{advanced, position, at_position}
use Rattle.sheet.specs.Agree.{group_chips, chips_of, chip_pictures, chips_lit}
use Rattle.sheet.specs.Data.{put_bits, changed, with_row, stored_bits, counted, acknowledger}

-- a column and what it holds or shows
pub record Column : Type 0 where
  pub at : ℕ
  pub value : ℕ

-- the group that is called, its chips and those of the other group; what each column holds before; the transfer;
-- then the answer's numbers, A and P, columns of the group's RAM, and the lit elements and columns of its picture at a phase
pub record Row : Type 0 where
  pub group : ℕ
  pub chips : ℕ
  pub others : ℕ
  pub fill : ℕ
  pub bytes : List ℕ
  pub answer : List ℕ
  pub a : ℕ
  pub p : ℕ
  pub columns : List Column
  pub phase : ℕ
  pub lit : ℕ
  pub picture : List Column

abbrev pub same : List ℕ → List ℕ → Bool
same [] [] = Bool.true
same [] (y ∷ ys) = Bool.false
same (x ∷ xs) [] = Bool.false
same (x ∷ xs) (y ∷ ys) = eqb x y && same xs ys

-- 99 where there is no such column
abbrev pub holds : List ℕ → List Column → Bool
holds ram [] = Bool.true
holds ram (c ∷ cs) = eqb (get_or ram c.at 99) c.value && holds ram cs

-- a call that is taken and counts one thing, or none
abbrev pub one_count : ℕ → List ℕ
one_count k = 0 ∷ 0 ∷ k ∷ 0 ∷ 0 ∷ 0 ∷ []

abbrev pub chips_on : Row → Chips
chips_on row = cond (eqb row.group 0) (record { zero = row.chips; one = row.others }) (record { zero = row.others; one = row.chips })

abbrev pub columns_on : Part → Row → List ℕ
columns_on K row = replicate (K.columns * (row.chips + row.others)) row.fill

-- the long account: the other group's columns stay
abbrev pub passes : ℕ → Row → Bool
passes part row =
    let K = part_of part in
    let n = chips_on row in
    let g = row.group in
    let on = power_on_part part n (columns_on K row) in
    let s = transfer_part part n on.registers (columns_on K row) (whole row.bytes) in
    let r = registers_of g s.result.registers in
    let seen = picture_part part n s.result.registers s.ram g row.phase (replicate (K.columns * row.chips) 99) in
    same (check_numbers on.check) (one_count 0) && (same (numbers K s.result.answer) row.answer
    && (eqb r.a row.a && (eqb r.p row.p
    && (holds (columns_of K n g s.ram) row.columns && (same (columns_of K n (1 - g) s.ram) (replicate (K.columns * row.others) row.fill)
    && (same (picture_numbers seen.result) (one_count row.lit) && holds seen.out row.picture))))))

-- the plain account: the group's chips are the first or the last of the list
abbrev pub called_of : Row → List Chip → List Chip
called_of row cs = cond (eqb row.group 0) (take row.chips cs) (drop row.others cs)

abbrev pub others_of : Row → List Chip → List Chip
others_of row cs = cond (eqb row.group 0) (drop row.chips cs) (take row.others cs)

-- every chip's A and P
abbrev pub all_at : ℕ → ℕ → List Chip → Bool
all_at a p [] = Bool.true
all_at a p (c ∷ cs) = eqb c.registers.a a && (eqb c.registers.p p && all_at a p cs)

-- the chips' own columns
abbrev pub chip_columns : Part → List Chip → List ℕ
chip_columns K [] = []
chip_columns K (c ∷ cs) = own_columns K c ++ chip_columns K cs

-- what stands behind them in the array is there, and 99, which no column can hold
abbrev pub with_behind : Part → Chip → Chip
with_behind K c = record { columns = c.columns ++ replicate (160 - K.columns) 99; sa0 = c.sa0; subaddress = c.subaddress; registers = c.registers }

abbrev pub all_behind : Part → List Chip → Bool
all_behind K [] = Bool.true
all_behind K (c ∷ cs) = same (drop K.columns c.columns) (replicate (160 - K.columns) 99) && all_behind K cs

-- registers unlike those of power-on
abbrev pub busy : Registers
busy = record { e = 1; b = 1; m = 1; p = 7; a = 2; i = 1; o = 1; ab = 1; bf = 1; unknown = marked 1 }

abbrev pub all_on : ℕ → List Chip → Bool
all_on part [] = Bool.true
all_on part (c ∷ cs) = same (check_numbers (chip_power_on_part part c).check) (one_count 0) && all_on part cs

abbrev pub passes_plain : ℕ → Row → Bool
passes_plain part row =
    let K = part_of part in
    let found = map (with_behind K) (chips_of K (chips_on row) (state_of (record { zero = busy; one = busy }) (columns_on K row))) in
    let s = plain_part part (map (λ c. (chip_power_on_part part c).chip) found) (whole row.bytes) in
    let called = called_of row s.chips in
    all_on part found && (same (plain_numbers K s.answer) (take 3 row.answer ++ (0 ∷ 0 ∷ drop 5 row.answer)) && (all_at row.a row.p called
    && (holds (chip_columns K called) row.columns && (same (chip_columns K (others_of row s.chips)) (replicate (K.columns * row.others) row.fill)
    && (all_behind K s.chips && (eqb (chips_lit K row.phase called) row.lit && holds (chip_pictures K row.phase called) row.picture))))))

abbrev pub every : ℕ → List Row → Bool
every part [] = Bool.true
every part (r ∷ rs) = passes part r && (passes_plain part r && every part rs)

abbrev pub col : ℕ → ℕ → Column
col c q = record { at = c; value = q }

-- one command to one chip: the answer's numbers, A and P
abbrev pub alone : ℕ → List ℕ → ℕ → ℕ → Row
alone x answer a p = record { group = 0; chips = 1; others = 0; fill = 0; bytes = 0x70 ∷ 0x00 ∷ x ∷ []; answer = answer; a = a; p = p; columns = []; phase = 0; lit = 0; picture = [] }

abbrev pub table : List Row
table =
    -- 1:4, two chips, P 159, data A5: columns 159, 160 = 5, 10; A 1, P 1
    record { group = 0; chips = 2; others = 0; fill = 0; bytes = 0x70 ∷ 0x80 ∷ 0x09 ∷ 0x80 ∷ 0x4F ∷ 0x40 ∷ 0xA5 ∷ []; answer = 0 ∷ 0 ∷ 7 ∷ 8 ∷ 0 ∷ 1 ∷ []; a = 1; p = 1; columns = col 158 0 ∷ col 159 5 ∷ col 160 10 ∷ col 161 0 ∷ []; phase = 0; lit = 0; picture = [] }
    -- 1:3, two chips, P 159, FF: columns 159-161 = 7, 7, 3; P 2
    ∷ record { group = 0; chips = 2; others = 0; fill = 0; bytes = 0x70 ∷ 0x80 ∷ 0xC3 ∷ 0x80 ∷ 0x09 ∷ 0x80 ∷ 0x4F ∷ 0x40 ∷ 0xFF ∷ []; answer = 0 ∷ 0 ∷ 9 ∷ 8 ∷ 0 ∷ 1 ∷ []; a = 1; p = 2; columns = col 158 0 ∷ col 159 7 ∷ col 160 7 ∷ col 161 3 ∷ col 162 0 ∷ []; phase = 0; lit = 0; picture = [] }
    -- 1:3, the same with 00 over RAM of 15: 8, 8, 12
    ∷ record { group = 0; chips = 2; others = 0; fill = 15; bytes = 0x70 ∷ 0x80 ∷ 0xC3 ∷ 0x80 ∷ 0x09 ∷ 0x80 ∷ 0x4F ∷ 0x40 ∷ 0x00 ∷ []; answer = 0 ∷ 0 ∷ 9 ∷ 8 ∷ 0 ∷ 1 ∷ []; a = 1; p = 2; columns = col 158 15 ∷ col 159 8 ∷ col 160 8 ∷ col 161 12 ∷ col 162 15 ∷ []; phase = 0; lit = 0; picture = [] }
    -- the incident: -4 in 1:3 over the chip edge, two bytes in one run; the minus bar is row 2 of column 160, and dark where the firmware sends a zero for it
    ∷ record { group = 0; chips = 2; others = 0; fill = 0; bytes = 0x70 ∷ 0x80 ∷ 0xCB ∷ 0x80 ∷ 0xE0 ∷ 0x80 ∷ 0x09 ∷ 0x80 ∷ 0x4F ∷ 0x40 ∷ 0x04 ∷ 0xA6 ∷ []; answer = 0 ∷ 0 ∷ 12 ∷ 16 ∷ 0 ∷ 1 ∷ []; a = 1; p = 5; columns = col 159 0 ∷ col 160 4 ∷ col 161 0 ∷ col 162 5 ∷ col 163 4 ∷ col 164 1 ∷ []; phase = 0; lit = 5; picture = col 160 4 ∷ col 162 5 ∷ [] }
    ∷ record { group = 0; chips = 2; others = 0; fill = 0; bytes = 0x70 ∷ 0x80 ∷ 0xCB ∷ 0x80 ∷ 0xE0 ∷ 0x80 ∷ 0x09 ∷ 0x80 ∷ 0x4F ∷ 0x40 ∷ 0x00 ∷ 0xA6 ∷ []; answer = 0 ∷ 0 ∷ 12 ∷ 16 ∷ 0 ∷ 1 ∷ []; a = 1; p = 5; columns = col 159 0 ∷ col 160 0 ∷ col 161 0 ∷ col 162 5 ∷ col 163 4 ∷ col 164 1 ∷ []; phase = 0; lit = 4; picture = col 160 0 ∷ col 162 5 ∷ [] }
    -- static, two chips, P 156, 81: columns 156 and 163 = 1; A 1, P 4
    ∷ record { group = 0; chips = 2; others = 0; fill = 0; bytes = 0x70 ∷ 0x80 ∷ 0xC1 ∷ 0x80 ∷ 0x09 ∷ 0x80 ∷ 0x4C ∷ 0x40 ∷ 0x81 ∷ []; answer = 0 ∷ 0 ∷ 9 ∷ 8 ∷ 0 ∷ 1 ∷ []; a = 1; p = 4; columns = col 156 1 ∷ col 157 0 ∷ col 162 0 ∷ col 163 1 ∷ col 164 0 ∷ []; phase = 0; lit = 0; picture = [] }
    -- 1:2, I 1, two chips, P 158, FF: columns 158-161 = 12
    ∷ record { group = 0; chips = 2; others = 0; fill = 0; bytes = 0x70 ∷ 0x80 ∷ 0xC2 ∷ 0x80 ∷ 0xFA ∷ 0x80 ∷ 0x09 ∷ 0x80 ∷ 0x4E ∷ 0x40 ∷ 0xFF ∷ []; answer = 0 ∷ 0 ∷ 11 ∷ 8 ∷ 0 ∷ 1 ∷ []; a = 1; p = 2; columns = col 157 0 ∷ col 158 12 ∷ col 159 12 ∷ col 160 12 ∷ col 161 12 ∷ col 162 0 ∷ []; phase = 0; lit = 0; picture = [] }
    -- 1:3, one chip, P 159, FF: column 159 = 7; 3 stored, 5 discarded, data byte not acknowledged
    ∷ record { group = 0; chips = 1; others = 0; fill = 0; bytes = 0x70 ∷ 0x80 ∷ 0xC3 ∷ 0x80 ∷ 0x09 ∷ 0x80 ∷ 0x4F ∷ 0x40 ∷ 0xFF ∷ []; answer = 0 ∷ 0 ∷ 8 ∷ 3 ∷ 5 ∷ 4 ∷ []; a = 1; p = 2; columns = col 158 0 ∷ col 159 7 ∷ []; phase = 0; lit = 0; picture = [] }
    -- 1:4, four chips, A 3, P 158, two bytes: the second discarded; A 4, P 2
    ∷ record { group = 0; chips = 4; others = 0; fill = 0; bytes = 0x70 ∷ 0x80 ∷ 0xE3 ∷ 0x80 ∷ 0x09 ∷ 0x80 ∷ 0x4E ∷ 0x40 ∷ 0xFF ∷ 0xFF ∷ []; answer = 0 ∷ 0 ∷ 9 ∷ 8 ∷ 8 ∷ 4 ∷ []; a = 4; p = 2; columns = col 0 0 ∷ col 637 0 ∷ col 638 15 ∷ col 639 15 ∷ []; phase = 0; lit = 0; picture = [] }
    -- P 159, command 00: P 15
    ∷ record { group = 0; chips = 1; others = 0; fill = 0; bytes = 0x70 ∷ 0x80 ∷ 0x09 ∷ 0x80 ∷ 0x4F ∷ 0x80 ∷ 0x00 ∷ []; answer = 0 ∷ 0 ∷ 7 ∷ 0 ∷ 0 ∷ 4 ∷ []; a = 0; p = 15; columns = []; phase = 0; lit = 0; picture = [] }
    -- 09 taken, 0A refused; E3 taken, E4 refused; FB taken, FC refused
    ∷ alone 0x09 (0 ∷ 0 ∷ 3 ∷ 0 ∷ 0 ∷ 4 ∷ []) 0 144
    ∷ alone 0x0A (7 ∷ 2 ∷ 0 ∷ 0 ∷ 0 ∷ 4 ∷ []) 0 0
    ∷ alone 0xE3 (0 ∷ 0 ∷ 3 ∷ 0 ∷ 0 ∷ 4 ∷ []) 3 0
    ∷ alone 0xE4 (7 ∷ 2 ∷ 0 ∷ 0 ∷ 0 ∷ 4 ∷ []) 0 0
    ∷ alone 0xFB (0 ∷ 0 ∷ 3 ∷ 0 ∷ 0 ∷ 4 ∷ []) 0 0
    ∷ alone 0xFC (7 ∷ 2 ∷ 0 ∷ 0 ∷ 0 ∷ 4 ∷ []) 0 0
    -- a refusal changes nothing, though a data byte came before the undefined command
    ∷ record { group = 0; chips = 1; others = 0; fill = 6; bytes = 0x70 ∷ 0xC0 ∷ 0xFF ∷ 0x00 ∷ 0xFC ∷ []; answer = 7 ∷ 4 ∷ 0 ∷ 0 ∷ 0 ∷ 4 ∷ []; a = 0; p = 0; columns = col 0 6 ∷ col 1 6 ∷ []; phase = 0; lit = 0; picture = [] }
    -- 1:2, E 1, O 0, AB 1, BF 1, phase 1, column 12: picture 3
    ∷ record { group = 0; chips = 1; others = 0; fill = 12; bytes = 0x70 ∷ 0x80 ∷ 0xCA ∷ 0x80 ∷ 0xF8 ∷ 0x80 ∷ 0xF5 ∷ []; answer = 0 ∷ 0 ∷ 7 ∷ 0 ∷ 0 ∷ 4 ∷ []; a = 0; p = 0; columns = col 0 12 ∷ []; phase = 1; lit = 320; picture = col 0 3 ∷ col 159 3 ∷ [] }
    -- and columns that differ, where bank 1 is written: 8 shows 2, 0 shows 0; at phase 0 bank 0 is shown
    ∷ record { group = 0; chips = 1; others = 0; fill = 12; bytes = 0x70 ∷ 0x80 ∷ 0xCA ∷ 0x80 ∷ 0xFA ∷ 0x80 ∷ 0xF5 ∷ 0x40 ∷ 0x40 ∷ []; answer = 0 ∷ 0 ∷ 9 ∷ 8 ∷ 0 ∷ 0 ∷ []; a = 0; p = 4; columns = col 0 8 ∷ col 1 0 ∷ col 4 12 ∷ []; phase = 1; lit = 313; picture = col 0 2 ∷ col 1 0 ∷ col 4 3 ∷ [] }
    ∷ record { group = 0; chips = 1; others = 0; fill = 13; bytes = 0x70 ∷ 0x80 ∷ 0xCA ∷ 0x80 ∷ 0xF8 ∷ 0x80 ∷ 0xF5 ∷ []; answer = 0 ∷ 0 ∷ 7 ∷ 0 ∷ 0 ∷ 4 ∷ []; a = 0; p = 0; columns = col 0 13 ∷ []; phase = 0; lit = 160; picture = col 0 1 ∷ [] }
    -- runs of two and three bytes in each mode: every byte of a run is stored. Static
    ∷ record { group = 0; chips = 1; others = 0; fill = 0; bytes = 0x70 ∷ 0x80 ∷ 0xC1 ∷ 0x40 ∷ 0x81 ∷ 0x42 ∷ []; answer = 0 ∷ 0 ∷ 6 ∷ 16 ∷ 0 ∷ 0 ∷ []; a = 0; p = 16; columns = col 0 1 ∷ col 1 0 ∷ col 7 1 ∷ col 8 0 ∷ col 9 1 ∷ col 14 1 ∷ col 15 0 ∷ col 16 0 ∷ []; phase = 0; lit = 0; picture = [] }
    ∷ record { group = 0; chips = 2; others = 0; fill = 15; bytes = 0x70 ∷ 0x80 ∷ 0xC9 ∷ 0x80 ∷ 0x09 ∷ 0x80 ∷ 0x46 ∷ 0x40 ∷ 0xFF ∷ 0x00 ∷ 0xFF ∷ []; answer = 0 ∷ 0 ∷ 11 ∷ 24 ∷ 0 ∷ 1 ∷ []; a = 1; p = 14; columns = col 149 15 ∷ col 150 15 ∷ col 157 15 ∷ col 158 14 ∷ col 159 14 ∷ col 160 14 ∷ col 165 14 ∷ col 166 15 ∷ col 173 15 ∷ col 174 15 ∷ []; phase = 0; lit = 312; picture = col 157 1 ∷ col 158 0 ∷ col 165 0 ∷ col 166 1 ∷ [] }
    -- 1:2
    ∷ record { group = 0; chips = 1; others = 0; fill = 0; bytes = 0x70 ∷ 0x80 ∷ 0xC2 ∷ 0x40 ∷ 0x1B ∷ 0xE4 ∷ []; answer = 0 ∷ 0 ∷ 6 ∷ 16 ∷ 0 ∷ 0 ∷ []; a = 0; p = 8; columns = col 0 0 ∷ col 1 2 ∷ col 2 1 ∷ col 3 3 ∷ col 4 3 ∷ col 5 1 ∷ col 6 2 ∷ col 7 0 ∷ col 8 0 ∷ []; phase = 0; lit = 0; picture = [] }
    ∷ record { group = 0; chips = 2; others = 0; fill = 0; bytes = 0x70 ∷ 0x80 ∷ 0xCA ∷ 0x80 ∷ 0xFB ∷ 0x80 ∷ 0x09 ∷ 0x80 ∷ 0x4A ∷ 0x40 ∷ 0x1B ∷ 0xE4 ∷ 0x1B ∷ []; answer = 0 ∷ 0 ∷ 13 ∷ 24 ∷ 0 ∷ 1 ∷ []; a = 1; p = 6; columns = col 153 0 ∷ col 154 0 ∷ col 155 8 ∷ col 156 4 ∷ col 157 12 ∷ col 158 12 ∷ col 159 4 ∷ col 160 8 ∷ col 161 0 ∷ col 162 0 ∷ col 163 8 ∷ col 164 4 ∷ col 165 12 ∷ col 166 0 ∷ []; phase = 0; lit = 12; picture = col 155 2 ∷ col 157 3 ∷ col 160 2 ∷ col 165 3 ∷ [] }
    -- 1:3
    ∷ record { group = 0; chips = 1; others = 0; fill = 15; bytes = 0x70 ∷ 0x80 ∷ 0xC3 ∷ 0x40 ∷ 0x53 ∷ 0xAC ∷ []; answer = 0 ∷ 0 ∷ 6 ∷ 16 ∷ 0 ∷ 0 ∷ []; a = 0; p = 6; columns = col 0 10 ∷ col 1 9 ∷ col 2 15 ∷ col 3 13 ∷ col 4 14 ∷ col 5 12 ∷ col 6 15 ∷ []; phase = 0; lit = 0; picture = [] }
    ∷ record { group = 0; chips = 2; others = 0; fill = 0; bytes = 0x70 ∷ 0x80 ∷ 0xCB ∷ 0x80 ∷ 0x09 ∷ 0x80 ∷ 0x4D ∷ 0x40 ∷ 0x53 ∷ 0xAC ∷ 0x53 ∷ []; answer = 0 ∷ 0 ∷ 11 ∷ 24 ∷ 0 ∷ 1 ∷ []; a = 1; p = 6; columns = col 156 0 ∷ col 157 2 ∷ col 158 1 ∷ col 159 3 ∷ col 160 5 ∷ col 161 6 ∷ col 162 0 ∷ col 163 2 ∷ col 164 1 ∷ col 165 3 ∷ col 166 0 ∷ []; phase = 0; lit = 12; picture = col 159 3 ∷ col 160 5 ∷ col 165 3 ∷ [] }
    -- 1:4
    ∷ record { group = 0; chips = 1; others = 0; fill = 0; bytes = 0x70 ∷ 0x80 ∷ 0xC0 ∷ 0x40 ∷ 0xA5 ∷ 0x3C ∷ []; answer = 0 ∷ 0 ∷ 6 ∷ 16 ∷ 0 ∷ 0 ∷ []; a = 0; p = 4; columns = col 0 5 ∷ col 1 10 ∷ col 2 12 ∷ col 3 3 ∷ col 4 0 ∷ []; phase = 0; lit = 0; picture = [] }
    ∷ record { group = 0; chips = 2; others = 0; fill = 0; bytes = 0x70 ∷ 0x80 ∷ 0xC8 ∷ 0x80 ∷ 0x09 ∷ 0x80 ∷ 0x4D ∷ 0x40 ∷ 0xA5 ∷ 0x3C ∷ 0xA5 ∷ []; answer = 0 ∷ 0 ∷ 11 ∷ 24 ∷ 0 ∷ 1 ∷ []; a = 1; p = 3; columns = col 156 0 ∷ col 157 5 ∷ col 158 10 ∷ col 159 12 ∷ col 160 3 ∷ col 161 5 ∷ col 162 10 ∷ col 163 0 ∷ []; phase = 0; lit = 12; picture = col 157 5 ∷ col 160 3 ∷ col 162 10 ∷ [] }
    -- all bytes are carried out after one not acknowledged: a data byte over the end, then a device-select and a data byte
    ∷ record { group = 0; chips = 1; others = 0; fill = 0; bytes = 0x70 ∷ 0x80 ∷ 0x09 ∷ 0x80 ∷ 0x4F ∷ 0xC0 ∷ 0xFF ∷ 0x80 ∷ 0xE0 ∷ 0x40 ∷ 0xA5 ∷ []; answer = 0 ∷ 0 ∷ 10 ∷ 12 ∷ 4 ∷ 0 ∷ []; a = 0; p = 3; columns = col 0 0 ∷ col 1 5 ∷ col 2 10 ∷ col 3 0 ∷ col 159 15 ∷ []; phase = 0; lit = 0; picture = [] }
    -- group 1: its columns stand after group 0's, which stay; 1:4 over the edge of its two chips, shown
    ∷ record { group = 1; chips = 2; others = 1; fill = 0; bytes = 0x72 ∷ 0x80 ∷ 0xC8 ∷ 0x80 ∷ 0x09 ∷ 0x80 ∷ 0x4F ∷ 0x40 ∷ 0xA5 ∷ []; answer = 0 ∷ 0 ∷ 9 ∷ 8 ∷ 0 ∷ 1 ∷ []; a = 1; p = 1; columns = col 0 0 ∷ col 158 0 ∷ col 159 5 ∷ col 160 10 ∷ col 161 0 ∷ []; phase = 0; lit = 4; picture = col 0 0 ∷ col 159 5 ∷ col 160 10 ∷ [] }
    -- 1:3 over RAM of 15: rows 2 and 3 of the third column stay; row 3 is not shown
    ∷ record { group = 1; chips = 1; others = 2; fill = 15; bytes = 0x72 ∷ 0x80 ∷ 0xCB ∷ 0x40 ∷ 0x00 ∷ []; answer = 0 ∷ 0 ∷ 5 ∷ 8 ∷ 0 ∷ 0 ∷ []; a = 0; p = 3; columns = col 0 8 ∷ col 1 8 ∷ col 2 12 ∷ col 3 15 ∷ []; phase = 0; lit = 472; picture = col 0 0 ∷ col 1 0 ∷ col 2 4 ∷ col 3 7 ∷ [] }
    -- normal blinking at phase 1: dark; an undefined command is refused there too
    ∷ record { group = 1; chips = 1; others = 1; fill = 15; bytes = 0x72 ∷ 0x80 ∷ 0xC8 ∷ 0x80 ∷ 0xF1 ∷ []; answer = 0 ∷ 0 ∷ 5 ∷ 0 ∷ 0 ∷ 4 ∷ []; a = 0; p = 0; columns = col 0 15 ∷ []; phase = 1; lit = 0; picture = col 0 0 ∷ col 159 0 ∷ [] }
    ∷ record { group = 1; chips = 1; others = 1; fill = 15; bytes = 0x72 ∷ 0x00 ∷ 0x0A ∷ []; answer = 7 ∷ 2 ∷ 0 ∷ 0 ∷ 0 ∷ 4 ∷ []; a = 0; p = 0; columns = col 0 15 ∷ []; phase = 0; lit = 0; picture = [] }
    -- 70 alone: one acknowledged. 71 alone: none
    ∷ record { group = 0; chips = 1; others = 0; fill = 0; bytes = 0x70 ∷ []; answer = 0 ∷ 0 ∷ 1 ∷ 0 ∷ 0 ∷ 4 ∷ []; a = 0; p = 0; columns = []; phase = 0; lit = 0; picture = [] }
    ∷ record { group = 0; chips = 1; others = 0; fill = 0; bytes = 0x71 ∷ []; answer = 0 ∷ 0 ∷ 0 ∷ 0 ∷ 0 ∷ 4 ∷ []; a = 0; p = 0; columns = []; phase = 0; lit = 0; picture = [] }
    ∷ []

pub starred : T (every 0 table)
unfolding part_of check_part power_on_part transfer_part picture_part chip_power_on_part plain_part power_on_call check_power_on picture_call check_picture chip_power_on chip_picture_call check_chip_picture lit_in ones ones_in plain_call check_plain misfit_in chip_fits plain_heard group_chips chip_data after_column after_columns put_rows advanced acknowledges_data smallest transfer_call check_transfer check_state check_chips check_registers check_ram check_length check_bits check_sent over_in fault_in whole_of cut_data heard_by heard data_byte control_of command_in within in_range backplanes bank_row position at_position put_bits changed with_row stored_bits counted acknowledger shown picture_of
starred = tt
