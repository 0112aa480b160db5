-- Computed: what `Lands` says is exact. A data bit lands on a row just if a transfer leaves the same there over RAM of 0 as over RAM of 15.
use Rattle.std.specs.Prelude.{ℕ, zero, suc, ◌/◌, ◌%◌, Bool, true, cond, ◌&&◌, not, List, [], ◌∷◌, T, eqb, get_or, replicate}
use Rattle.sheet.specs.declared.Chip.{Chip}
use Rattle.sheet.specs.declared.Expect.TheVariants.{Control}
use Rattle.sheet.specs.Registers.{power_on, backplanes, bank_row}
use Rattle.sheet.specs.Parts.{within, command_in, pcf8532}
use Rattle.sheet.specs.Protocol.{address_of, control_of}
use Rattle.sheet.specs.Long.{begun, data_byte, heard}
use Rattle.sheet.specs.Plain.{begun_by, put_rows, after_column, after_columns, chip_data, acknowledges_data, plain_heard}
use Rattle.sheet.specs.Places.{advanced, position, at_position}
use Rattle.sheet.specs.Data.{row_of, with_row, changed, put_bits, stored_bits, counted}
use Rattle.sheet.specs.Lands.{bits_on, heard_on, rows_on, columns_on, chip_heard_on}
use Rattle.sheet.specs.Starred.{chip_columns}

-- the bytes after the address, to two chips that hold the same in each column: the long RAM, and chip i followed alone
abbrev pub over : List ℕ → ℕ → List ℕ
over bytes fill = (heard pcf8532 Control bytes (begun power_on (replicate 320 fill))).ram

abbrev pub chip_of : ℕ → ℕ → Chip
chip_of i fill = record { columns = replicate 160 fill; sa0 = 0; subaddress = i; registers = power_on }

abbrev pub chip_over : List ℕ → ℕ → ℕ → List ℕ
chip_over bytes i fill = chip_columns pcf8532 (plain_heard pcf8532 (address_of 0) Control bytes (begun_by 0 (chip_of i fill ∷ []))).chips

-- row q of column c is the same in both just if a bit lands on it
abbrev pub just : List ℕ → List ℕ → ℕ → ℕ → Bool → Bool
just zeros fifteens c q lands = let same = eqb (row_of (get_or zeros c 0) q) (row_of (get_or fifteens c 0) q) in cond lands same (not same)

abbrev pub exact_at : List ℕ → ℕ → ℕ → Bool
exact_at bytes c q =
    let i = c / 160 in
    just (over bytes 0) (over bytes 15) c q (heard_on pcf8532 Control bytes (begun power_on []) c q)
    && just (chip_over bytes i 0) (chip_over bytes i 15) (c % 160) q (chip_heard_on pcf8532 Control bytes (chip_of i 0) (c % 160) q)

-- the n columns from c on, each with its four rows
abbrev pub exact_from : ℕ → ℕ → List ℕ → Bool
exact_from zero c bytes = true
exact_from (suc n) c bytes = exact_at bytes c 0 && (exact_at bytes c 1 && (exact_at bytes c 2 && (exact_at bytes c 3 && exact_from n (suc c) bytes)))

-- over the edge of the two chips: 1:3 and a run of two bytes; 1:2, bank 1, a data byte alone and then a device-select and a run; static; 1:4
abbrev pub exact : Bool
exact =
    exact_from 10 156 (0x80 ∷ 0xC3 ∷ 0x80 ∷ 0x09 ∷ 0x80 ∷ 0x4E ∷ 0x40 ∷ 0x53 ∷ 0xAC ∷ [])
    && (exact_from 12 157 (0x80 ∷ 0xC2 ∷ 0x80 ∷ 0xFA ∷ 0x80 ∷ 0x09 ∷ 0x80 ∷ 0x4F ∷ 0xC0 ∷ 0x1B ∷ 0x80 ∷ 0xE1 ∷ 0x40 ∷ 0xE4 ∷ [])
    && (exact_from 10 155 (0x80 ∷ 0xC1 ∷ 0x80 ∷ 0x09 ∷ 0x80 ∷ 0x4C ∷ 0x40 ∷ 0x81 ∷ [])
    && exact_from 4 158 (0x80 ∷ 0x09 ∷ 0x80 ∷ 0x4F ∷ 0x40 ∷ 0xA5 ∷ [])))

pub landing : T exact
unfolding bits_on heard_on rows_on columns_on chip_heard_on heard data_byte plain_heard chip_data after_column after_columns put_rows acknowledges_data advanced position at_position command_in within control_of backplanes bank_row put_bits changed with_row stored_bits counted
landing = tt
