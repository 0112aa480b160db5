-- Who acknowledged the last data byte of each transfer (paper 02, request 4), computed: of both accounts, and of plain chips that are unequal.
use Rattle.std.specs.Prelude.{ℕ, ◌*◌, Bool, true, ◌&&◌, List, [], ◌∷◌, T, get_or, replicate}
use Rattle.sheet.specs.declared.Chips.{Chips}
use Rattle.sheet.specs.declared.Chip.{Chip}
use Rattle.sheet.specs.Refusals.{numbers, plain_numbers}
use Rattle.sheet.specs.Registers.{power_on, at_place, in_range, backplanes, bank_row}
use Rattle.sheet.specs.Parts.{within, command_in, pcf8532}
use Rattle.sheet.specs.Protocol.{heard_by, control_of, whole, whole_of, cut_data}
use Rattle.sheet.specs.Checks.{check_chips, check_registers, over_in, check_ram, check_length, check_bits, check_sent, fault_in, check_state, check_transfer}
use Rattle.sheet.specs.Long.{State, state_of, both_on, heard, data_byte, transfer_call, state_after}
use Rattle.sheet.specs.Plain.{put_rows, after_column, after_columns, chip_data, acknowledges_data, smallest, plain_heard, chip_fits, misfit_in, check_plain, plain_call}
use Rattle.sheet.specs.Places.{advanced, position, at_position}
use Rattle.sheet.specs.Agree.{group_chips, chips_of}
use Rattle.sheet.specs.Data.{put_bits, changed, with_row, stored_bits, counted, acknowledger}
use Rattle.sheet.specs.Starred.{same}

-- ---- the last number of each of some transfers, one after the other

abbrev pub long_lasts : Chips → State → List (List ℕ) → List ℕ
long_lasts n s [] = []
long_lasts n s (t ∷ ts) = get_or (numbers pcf8532 (transfer_call pcf8532 n s.registers s.ram (whole t)).result.answer) 5 99 ∷ long_lasts n (state_after pcf8532 n s (whole t)) ts

abbrev pub plain_lasts : List Chip → List (List ℕ) → List ℕ
plain_lasts cs [] = []
plain_lasts cs (t ∷ ts) = let a = plain_call pcf8532 cs (whole t) in get_or (plain_numbers pcf8532 a.answer) 5 99 ∷ plain_lasts a.chips ts

-- ---- both accounts

-- so many chips in group 0 after power-on, the transfers, and the last number of each
pub record Sent : Type 0 where
  pub chips : ℕ
  pub transfers : List (List ℕ)
  pub lasts : List ℕ

abbrev sent : ℕ → List (List ℕ) → List ℕ → Sent
sent chips transfers lasts = record { chips = chips; transfers = transfers; lasts = lasts }

abbrev pub holds : Sent → Bool
holds t =
    let n : Chips = record { zero = t.chips; one = 0 } in
    let on : State = state_of both_on (replicate (160 * t.chips) 0) in
    same (long_lasts n on t.transfers) t.lasts && same (plain_lasts (chips_of pcf8532 n on) t.transfers) t.lasts

abbrev pub every : List Sent → Bool
every [] = true
every (t ∷ ts) = holds t && every ts

-- a mode-set, P made 144 and a low nibble, and one data byte
abbrev at : ℕ → ℕ → List ℕ
at mode low = 0x70 ∷ 0x80 ∷ mode ∷ 0x80 ∷ 0x09 ∷ 0x80 ∷ low ∷ 0x40 ∷ 0xFF ∷ []

abbrev pub table : List Sent
table =
    -- by the byte's last column, 159 and 160: static, 1:2, 1:3, 1:4
    sent 2 (at 0xC1 0x48 ∷ []) (0 ∷ []) ∷ sent 2 (at 0xC1 0x49 ∷ []) (1 ∷ []) ∷ sent 2 (at 0xC2 0x4C ∷ []) (0 ∷ []) ∷ sent 2 (at 0xC2 0x4D ∷ []) (1 ∷ [])
    ∷ sent 2 (at 0xC3 0x4D ∷ []) (0 ∷ []) ∷ sent 2 (at 0xC3 0x4E ∷ []) (1 ∷ []) ∷ sent 2 (at 0xC0 0x4E ∷ []) (0 ∷ []) ∷ sent 2 (at 0xC0 0x4F ∷ []) (1 ∷ [])
    -- and where chip 1 is not there
    ∷ sent 1 (at 0xC1 0x48 ∷ []) (0 ∷ []) ∷ sent 1 (at 0xC1 0x49 ∷ []) (4 ∷ []) ∷ sent 1 (at 0xC2 0x4C ∷ []) (0 ∷ []) ∷ sent 1 (at 0xC2 0x4D ∷ []) (4 ∷ [])
    ∷ sent 1 (at 0xC3 0x4D ∷ []) (0 ∷ []) ∷ sent 1 (at 0xC3 0x4E ∷ []) (4 ∷ []) ∷ sent 1 (at 0xC0 0x4E ∷ []) (0 ∷ []) ∷ sent 1 (at 0xC0 0x4F ∷ []) (4 ∷ [])
    -- chip 3, and past it; a chip that is not there
    ∷ sent 4 ((0x70 ∷ 0x80 ∷ 0xE3 ∷ 0x40 ∷ 0x11 ∷ []) ∷ (0x70 ∷ 0x80 ∷ 0x09 ∷ 0x80 ∷ 0x4F ∷ 0x40 ∷ 0x22 ∷ []) ∷ []) (3 ∷ 4 ∷ [])
    ∷ sent 2 ((0x70 ∷ 0x80 ∷ 0xE2 ∷ 0x40 ∷ 0x11 ∷ []) ∷ []) (4 ∷ [])
    -- the last data byte, not the first: acknowledged by chip 1 after chip 0, by nobody after chip 0, by chip 0 after nobody
    ∷ sent 2 ((0x70 ∷ 0x80 ∷ 0x09 ∷ 0x80 ∷ 0x4E ∷ 0x40 ∷ 0x11 ∷ 0x22 ∷ []) ∷ []) (1 ∷ [])
    ∷ sent 1 ((0x70 ∷ 0x80 ∷ 0x09 ∷ 0x80 ∷ 0x4E ∷ 0x40 ∷ 0x11 ∷ 0x22 ∷ []) ∷ []) (4 ∷ [])
    ∷ sent 1 ((0x70 ∷ 0x80 ∷ 0x09 ∷ 0x80 ∷ 0x4F ∷ 0xC0 ∷ 0xFF ∷ 0x80 ∷ 0xE0 ∷ 0x40 ∷ 0xA5 ∷ []) ∷ []) (0 ∷ [])
    -- commands after it change nothing
    ∷ sent 2 ((0x70 ∷ 0xC0 ∷ 0x11 ∷ 0x80 ∷ 0xE1 ∷ 0x80 ∷ 0xC8 ∷ []) ∷ []) (0 ∷ [])
    -- none where there is no data, where nobody hears and where a transfer is refused, whatever the transfer before said
    ∷ sent 2
    ((0x70 ∷ 0x80 ∷ 0x09 ∷ 0x80 ∷ 0x4F ∷ 0x40 ∷ 0xA5 ∷ []) ∷ (0x70 ∷ 0x80 ∷ 0xE1 ∷ []) ∷ (0x72 ∷ 0x40 ∷ 0x11 ∷ []) ∷ (0x70 ∷ 0xC0 ∷ 0xFF ∷ 0x00 ∷ 0xFC ∷ []) ∷ [] ∷ (0x70 ∷ 0x40 ∷ 0x11 ∷ []) ∷ [])
    (1 ∷ 4 ∷ 4 ∷ 4 ∷ 4 ∷ 1 ∷ [])
    ∷ []

-- ---- plain chips, each with its own A

-- its SA0, its subaddress and its A
abbrev chip : ℕ → ℕ → ℕ → Chip
chip sa0 subaddress a = record { columns = replicate 160 0; sa0 = sa0; subaddress = subaddress; registers = at_place power_on 0 a }

-- one data byte to the chips of slave address bit 0
abbrev pub says : List Chip → ℕ → Bool
says cs last = same (plain_lasts cs ((0x70 ∷ 0x40 ∷ 0x11 ∷ []) ∷ [])) (last ∷ [])

-- the smallest that acknowledges, wherever it stands in the list; not one that does not, or that does not hear
abbrev pub unequal : Bool
unequal =
    says (chip 0 2 2 ∷ chip 0 1 1 ∷ []) 1 && (says (chip 0 1 1 ∷ chip 0 2 2 ∷ []) 1 && (says (chip 0 3 3 ∷ chip 0 2 2 ∷ chip 0 3 3 ∷ []) 2
    && (says (chip 0 0 1 ∷ chip 0 3 3 ∷ []) 3 && (says (chip 1 0 0 ∷ chip 0 1 1 ∷ chip 0 1 1 ∷ []) 1 && (says (chip 0 0 1 ∷ chip 0 1 0 ∷ []) 4 && says [] 4)))))

pub last : T (every table && unequal)
unfolding plain_call check_plain misfit_in chip_fits plain_heard group_chips chip_data after_column after_columns put_rows advanced acknowledges_data smallest transfer_call check_transfer check_state check_chips check_registers check_ram check_length check_bits check_sent over_in fault_in whole_of cut_data heard_by heard data_byte control_of command_in within in_range backplanes bank_row position at_position put_bits changed with_row stored_bits counted acknowledger
last = tt
