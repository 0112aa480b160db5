-- Control bytes with stray bits (paper 02, request 7), computed of both accounts and both groups: a chip of the group hears the bytes, and nobody hears them at the other group's address.
use Rattle.std.specs.Prelude.{ℕ, ◌+◌, ◌-◌, Bool, true, cond, ◌&&◌, List, [], ◌∷◌, T, eqb, take, replicate}
use Rattle.sheet.specs.declared.Chips.{Chips}
use Rattle.sheet.specs.Refusals.{numbers, plain_numbers}
use Rattle.sheet.specs.Registers.{power_on, in_range, backplanes, bank_row}
use Rattle.sheet.specs.Parts.{within, command_in, pcf8532}
use Rattle.sheet.specs.Protocol.{address_of, heard_by, control_of, whole, whole_of, cut_data}
use Rattle.sheet.specs.Checks.{check_chips, check_registers, over_in, check_ram, check_length, check_bits, check_sent, fault_in, check_state, check_transfer}
use Rattle.sheet.specs.Long.{heard, data_byte, transfer_call}
use Rattle.sheet.specs.Plain.{put_rows, after_column, after_columns, chip_data, acknowledges_data, smallest, plain_heard, chip_fits, misfit_in, check_plain, plain_call}
use Rattle.sheet.specs.Places.{advanced, position, at_position}
use Rattle.sheet.specs.Data.{put_bits, changed, with_row, stored_bits, counted, acknowledger}
use Rattle.sheet.specs.Starred.{same}

-- the bytes after the address, and the refusal's number and place: 0 and 0 where they are taken
pub record Sent : Type 0 where
  pub bytes : List ℕ
  pub number : ℕ
  pub place : ℕ

abbrev sent : List ℕ → ℕ → ℕ → Sent
sent bytes number place = record { bytes = bytes; number = number; place = place }

-- one chip, in group g
abbrev pub only : ℕ → Chips
only g = cond (eqb g 0) (record { zero = 1; one = 0 }) (record { zero = 0; one = 1 })

-- both accounts answer so to bytes for group `to`
abbrev pub answers : ℕ → ℕ → List ℕ → List ℕ → Bool
answers g to bytes wanted =
    same (take 2 (numbers pcf8532 (transfer_call pcf8532 (only g) (record { zero = power_on; one = power_on }) (replicate 160 0) (whole (address_of to ∷ bytes))).result.answer)) wanted
    && same (take 2 (plain_numbers pcf8532 (plain_call pcf8532 (record { columns = replicate 160 0; sa0 = g; subaddress = 0; registers = power_on } ∷ []) (whole (address_of to ∷ bytes))).answer)) wanted

abbrev pub holds : ℕ → Sent → Bool
holds g s = answers g g s.bytes (s.number ∷ s.place ∷ []) && answers g (1 - g) s.bytes (0 ∷ 0 ∷ [])

abbrev pub every : List Sent → Bool
every [] = true
every (s ∷ ss) = holds 0 s && (holds 1 s && every ss)

-- each stray bit of a control byte: the last byte of a transfer, and one that stands before others
abbrev pub strays : ℕ → List ℕ → Bool
strays x [] = true
strays x (bit ∷ bits) = every (sent ((x + bit) ∷ []) 17 1 ∷ sent (0x80 ∷ 0xE0 ∷ (x + bit) ∷ 0xE0 ∷ []) 17 3 ∷ []) && strays x bits

-- all four values of Co and RS
abbrev pub each_bit : List ℕ → Bool
each_bit [] = true
each_bit (x ∷ xs) = strays x (1 ∷ 2 ∷ 4 ∷ 8 ∷ 16 ∷ 32 ∷ []) && each_bit xs

abbrev pub table : List Sent
table =
    -- no stray bit
    sent (0x00 ∷ []) 0 0 ∷ sent (0x40 ∷ []) 0 0 ∷ sent (0x80 ∷ []) 0 0 ∷ sent (0xC0 ∷ []) 0 0
    -- all six
    ∷ sent (0x3F ∷ []) 17 1 ∷ sent (0x7F ∷ []) 17 1 ∷ sent (0xBF ∷ []) 17 1 ∷ sent (0xFF ∷ []) 17 1
    -- 17 before 7, one byte after the other and further on
    ∷ sent (0x81 ∷ 0x0A ∷ []) 17 1 ∷ sent (0x81 ∷ 0xE0 ∷ 0x80 ∷ 0x0A ∷ []) 17 1 ∷ sent (0x80 ∷ 0xE0 ∷ 0x20 ∷ 0x0A ∷ []) 17 3
    -- 7 before 17
    ∷ sent (0x80 ∷ 0x0A ∷ 0x81 ∷ []) 7 2 ∷ sent (0x80 ∷ 0xE0 ∷ 0x80 ∷ 0x0A ∷ 0x41 ∷ []) 7 4
    -- two stray bytes: the first
    ∷ sent (0x80 ∷ 0xE0 ∷ 0xC1 ∷ 0xFF ∷ 0x01 ∷ []) 17 3
    -- data and commands are no control bytes, in a run and alone; after the one byte comes a control byte
    ∷ sent (0x40 ∷ 0x3F ∷ 0x81 ∷ []) 0 0 ∷ sent (0x00 ∷ 0xE1 ∷ 0xC8 ∷ []) 0 0 ∷ sent (0xC0 ∷ 0x3F ∷ []) 0 0 ∷ sent (0x80 ∷ 0xE1 ∷ []) 0 0
    ∷ sent (0xC0 ∷ 0x3F ∷ 0x01 ∷ []) 17 3
    ∷ []

pub stray : T (each_bit (0x00 ∷ 0x40 ∷ 0x80 ∷ 0xC0 ∷ []) && every table)
unfolding plain_call check_plain misfit_in chip_fits plain_heard chip_data after_column after_columns put_rows advanced acknowledges_data smallest transfer_call check_transfer check_state check_chips check_registers check_ram check_length check_bits check_sent over_in fault_in whole_of cut_data heard_by heard data_byte control_of command_in within in_range backplanes bank_row position at_position put_bits changed with_row stored_bits counted acknowledger
stray = tt
