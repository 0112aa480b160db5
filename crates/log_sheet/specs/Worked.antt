-- The worked log of paper 01, "Bus logs", and its text with the last number of paper 02, request 4, computed of the definitions.
use Rattle.std.specs.Prelude.{ℕ, ◌≡◌, refl, List, [], ◌∷◌, ◌++◌, T, take, drop}
use Rattle.sheet.specs.Registers.{in_range, backplanes, bank_row}
use Rattle.sheet.specs.Parts.{within, command_in}
use Rattle.sheet.specs.Protocol.{heard_by, control_of, whole_of, cut_data}
use Rattle.sheet.specs.Checks.{check_chips, check_registers, over_in, check_ram, check_length, check_bits, check_sent, fault_in, check_state, check_transfer}
use Rattle.sheet.specs.Pictures.{shown, picture_of, lit_in}
use Rattle.sheet.specs.Long.{heard, data_byte, transfer_call, state_after_all}
use Rattle.sheet.specs.Places.{position, at_position}
use Rattle.sheet.specs.Data.{put_bits, changed, with_row, stored_bits, counted, acknowledger}
use Rattle.log_sheet.specs.Records.{torn_at, with_body, read_in, records_from}
use Rattle.log_sheet.specs.Logs.{log_records, check_head, check_log, digits_in, decimal, spaced, transfer_lines, column_lines, text_of}
use Rattle.sheet.specs.Starred.{same}
use Rattle.std.specs.Int.Count.{ones, ones_in}

abbrev pub worked_log : List ℕ
worked_log =
    0x01 ∷ 0x02 ∷ 0x00
    ∷ 0x00 ∷ 0x09 ∷ 0x70 ∷ 0x80 ∷ 0xC8 ∷ 0x80 ∷ 0x09 ∷ 0x80 ∷ 0x4F ∷ 0x40 ∷ 0xA5
    ∷ 0x00 ∷ 0x03 ∷ 0x70 ∷ 0x00 ∷ 0xFC
    ∷ 0x00 ∷ 0x01 ∷ 0x50 ∷ []

-- a digit's character, a space, an end of line
abbrev pub worked_text : List ℕ
worked_text =
    -- T 0 0 0 9 8 0 1
    84 ∷ 32 ∷ 48 ∷ 32 ∷ 48 ∷ 32 ∷ 48 ∷ 32 ∷ 57 ∷ 32 ∷ 56 ∷ 32 ∷ 48 ∷ 32 ∷ 49 ∷ 10
    -- T 1 7 2 0 0 0 4
    ∷ 84 ∷ 32 ∷ 49 ∷ 32 ∷ 55 ∷ 32 ∷ 50 ∷ 32 ∷ 48 ∷ 32 ∷ 48 ∷ 32 ∷ 48 ∷ 32 ∷ 52 ∷ 10
    -- T 2 0 0 0 0 0 4
    ∷ 84 ∷ 32 ∷ 50 ∷ 32 ∷ 48 ∷ 32 ∷ 48 ∷ 32 ∷ 48 ∷ 32 ∷ 48 ∷ 32 ∷ 48 ∷ 32 ∷ 52 ∷ 10
    -- S 0 159 5
    ∷ 83 ∷ 32 ∷ 48 ∷ 32 ∷ 49 ∷ 53 ∷ 57 ∷ 32 ∷ 53 ∷ 10
    -- S 0 160 10
    ∷ 83 ∷ 32 ∷ 48 ∷ 32 ∷ 49 ∷ 54 ∷ 48 ∷ 32 ∷ 49 ∷ 48 ∷ 10
    -- G 0 4
    ∷ 71 ∷ 32 ∷ 48 ∷ 32 ∷ 52 ∷ 10
    -- G 1 0
    ∷ 71 ∷ 32 ∷ 49 ∷ 32 ∷ 48 ∷ 10 ∷ []

pub worked : T (same (text_of worked_log) worked_text)
unfolding text_of records_from read_in check_log check_head digits_in decimal spaced transfer_lines column_lines state_after_all transfer_call check_transfer check_state check_chips check_registers check_ram check_length check_bits check_sent over_in fault_in whole_of cut_data heard_by heard data_byte control_of command_in within in_range backplanes bank_row position at_position put_bits changed with_row stored_bits counted acknowledger shown picture_of lit_in ones ones_in
worked = tt

-- the same log in version 2: the analyser saw nine acknowledged bytes of the first transfer, as the model has it, 3 of the refused one and 258 of the one that nobody hears
abbrev pub seen_log : List ℕ
seen_log =
    0x02 ∷ 0x02 ∷ 0x00
    ∷ 0x00 ∷ 0x0B ∷ 0x00 ∷ 0x09 ∷ 0x70 ∷ 0x80 ∷ 0xC8 ∷ 0x80 ∷ 0x09 ∷ 0x80 ∷ 0x4F ∷ 0x40 ∷ 0xA5
    ∷ 0x00 ∷ 0x05 ∷ 0x00 ∷ 0x03 ∷ 0x70 ∷ 0x00 ∷ 0xFC
    ∷ 0x00 ∷ 0x03 ∷ 0x01 ∷ 0x02 ∷ 0x50 ∷ []

-- its text: the worked one with two lines more, A 1 3 0 after T 1 and A 2 258 0 after T 2
abbrev pub seen_text : List ℕ
seen_text =
    take 32 worked_text
    ++ (65 ∷ 32 ∷ 49 ∷ 32 ∷ 51 ∷ 32 ∷ 48 ∷ 10 ∷ [])
    ++ take 16 (drop 32 worked_text)
    ++ (65 ∷ 32 ∷ 50 ∷ 32 ∷ 50 ∷ 53 ∷ 56 ∷ 32 ∷ 48 ∷ 10 ∷ [])
    ++ drop 48 worked_text

pub seen : T (same (text_of seen_log) seen_text)
unfolding text_of records_from read_in check_log check_head digits_in decimal spaced transfer_lines column_lines state_after_all transfer_call check_transfer check_state check_chips check_registers check_ram check_length check_bits check_sent over_in fault_in whole_of cut_data heard_by heard data_byte control_of command_in within in_range backplanes bank_row position at_position put_bits changed with_row stored_bits counted acknowledger shown picture_of lit_in ones ones_in
seen = tt

-- without its last byte the log is torn at offset 19, where that record's length field stands; the bodies before it are there
pub torn : log_records (take 21 worked_log)
    ≡ with_body (0x70 ∷ 0x80 ∷ 0xC8 ∷ 0x80 ∷ 0x09 ∷ 0x80 ∷ 0x4F ∷ 0x40 ∷ 0xA5 ∷ []) (with_body (0x70 ∷ 0x00 ∷ 0xFC ∷ []) (torn_at 19))
unfolding records_from read_in
torn = refl
