-- Two sequences of transfers, one a group (paper 02, request 14), computed of the long account in every order that keeps each: every answer and the end are the same.
use Rattle.std.specs.Prelude.{ℕ, zero, suc, ◌+◌, ◌*◌, Bool, true, ◌&&◌, List, [], ◌∷◌, T, length, replicate}
use Rattle.std.specs.Int.Count.{ones, ones_in}
use Rattle.sheet.specs.declared.Chips.{Chips}
use Rattle.sheet.specs.Refusals.{numbers}
use Rattle.sheet.specs.Registers.{in_range, backplanes, bank_row, registers_of}
use Rattle.sheet.specs.Parts.{within, command_in, part_of}
use Rattle.sheet.specs.Protocol.{heard_by, control_of, sent, whole_of, cut_data}
use Rattle.sheet.specs.Checks.{check_part, check_chips, check_registers, over_in, check_ram, check_length, check_bits, check_sent, fault_in, check_state, check_transfer}
use Rattle.sheet.specs.Pictures.{shown, picture_of, lit_in}
use Rattle.sheet.specs.Long.{State, state_of, both_on, heard, data_byte, columns_of, transfer_call, transfer_part}
use Rattle.sheet.specs.Places.{position, at_position}
use Rattle.sheet.specs.Data.{put_bits, changed, with_row, stored_bits, counted, acknowledger}
use Rattle.sheet.specs.Starred.{Column, col, same, holds}
use Rattle.sheet.specs.Cut.{place_of}

-- a transfer: its bytes, the bits of the last one, and the six numbers of its answer
pub record Told : Type 0 where
  pub bytes : List ℕ
  pub bits : ℕ
  pub answer : List ℕ

-- the end: high, low, device, P and A of each group, columns of the whole RAM, and the lit elements of group 0 and of group 1 at phases 0 and 1
pub record End : Type 0 where
  pub zero : List ℕ
  pub one : List ℕ
  pub columns : List Column
  pub lit : List ℕ

-- the part, with a chip in each group, powered on with columns of 0; the two sequences
pub record Row : Type 0 where
  pub part : ℕ
  pub first : List Told
  pub second : List Told
  pub end : End

-- ---- the long account

abbrev chips : Chips
chips = record { zero = 1; one = 1 }

abbrev pub lit_at : ℕ → State → ℕ → ℕ → ℕ
lit_at part s g phase = lit_in (picture_of (registers_of g s.registers) phase (columns_of (part_of part) chips g s.ram))

abbrev pub ends_as : ℕ → End → State → Bool
ends_as part end s =
    same (place_of s.registers.zero) end.zero && (same (place_of s.registers.one) end.one && (holds s.ram end.columns
    && same (lit_at part s 0 0 ∷ lit_at part s 0 1 ∷ lit_at part s 1 0 ∷ lit_at part s 1 1 ∷ []) end.lit))

-- the next transfer of a sequence, if one is left, is answered as it should; then what follows
abbrev pub sends_next : ℕ → State → List Told → (State → List Told → Bool) → Bool
sends_next part s [] follows = true
sends_next part s (t ∷ ts) follows =
    let a = transfer_part part chips s.registers s.ram (sent t.bytes t.bits) in
    same (numbers (part_of part) a.result.answer) t.answer && follows (state_of a.result.registers a.ram) ts

-- every order of the k transfers that are left: the next one is either sequence's
abbrev pub every_order : ℕ → ℕ → End → State → List Told → List Told → Bool
every_order zero part end s xs ys = ends_as part end s
every_order (suc k) part end s xs ys =
    sends_next part s xs (λ after rest. every_order k part end after rest ys) && sends_next part s ys (λ after rest. every_order k part end after xs rest)

abbrev pub row_holds : Row → Bool
row_holds row =
    let on : State = state_of both_on (replicate ((part_of row.part).columns * 2) 0) in
    every_order (length row.first + length row.second) row.part row.end on row.first row.second

abbrev pub every : List Row → Bool
every [] = true
every (row ∷ rows) = row_holds row && every rows

-- ---- the table

abbrev told : List ℕ → ℕ → List ℕ → Told
told bytes bits answer = record { bytes = bytes; bits = bits; answer = answer }

abbrev pub table : List Row
table =
    -- group 0: data, cut in its second byte; 18; restored, and blinking. Group 1: data; a cut byte; 18
    record {
      part = 0;
      first =
          told (0x70 ∷ 0x80 ∷ 0xC8 ∷ 0x40 ∷ 0xA5 ∷ 0xFF ∷ []) 7 (0 ∷ 0 ∷ 5 ∷ 8 ∷ 0 ∷ 0 ∷ [])
          ∷ told (0x70 ∷ 0x40 ∷ 0x3C ∷ []) 8 (18 ∷ 2 ∷ 0 ∷ 0 ∷ 0 ∷ 4 ∷ [])
          ∷ told (0x70 ∷ 0x00 ∷ 0xE0 ∷ 0x00 ∷ 0x44 ∷ 0xF1 ∷ []) 8 (0 ∷ 0 ∷ 6 ∷ 0 ∷ 0 ∷ 4 ∷ []) ∷ [];
      second =
          told (0x72 ∷ 0x80 ∷ 0xC8 ∷ 0x40 ∷ 0x3C ∷ []) 8 (0 ∷ 0 ∷ 5 ∷ 8 ∷ 0 ∷ 0 ∷ [])
          ∷ told (0x72 ∷ 0xC0 ∷ 0xFF ∷ []) 1 (0 ∷ 0 ∷ 2 ∷ 0 ∷ 0 ∷ 4 ∷ [])
          ∷ told (0x72 ∷ 0x40 ∷ 0x11 ∷ []) 8 (18 ∷ 2 ∷ 0 ∷ 0 ∷ 0 ∷ 4 ∷ []) ∷ [];
      end = record {
        zero = 0 ∷ 0 ∷ 0 ∷ 4 ∷ 0 ∷ [];
        one = 1 ∷ 1 ∷ 1 ∷ 2 ∷ 0 ∷ [];
        columns = col 0 5 ∷ col 1 10 ∷ col 2 0 ∷ col 160 12 ∷ col 161 3 ∷ col 162 0 ∷ [];
        lit = 4 ∷ 0 ∷ 4 ∷ 4 ∷ [];
      };
    }
    -- the PCA85133. Group 0: a cut byte; 18 at another; restored, and data over the end of the group, where group 1's columns begin.
    -- Group 1: nobody, where the address is cut; data, cut in its second byte; an undefined command
    ∷ record {
      part = 1;
      first =
          told (0x70 ∷ 0xC0 ∷ 0xFF ∷ []) 1 (0 ∷ 0 ∷ 2 ∷ 0 ∷ 0 ∷ 8 ∷ [])
          ∷ told (0x70 ∷ 0xC0 ∷ 0xA5 ∷ []) 7 (18 ∷ 2 ∷ 0 ∷ 0 ∷ 0 ∷ 8 ∷ [])
          ∷ told (0x70 ∷ 0x80 ∷ 0x4F ∷ 0x80 ∷ 0xE0 ∷ 0x40 ∷ 0xA5 ∷ []) 8 (0 ∷ 0 ∷ 6 ∷ 4 ∷ 4 ∷ 8 ∷ []) ∷ [];
      second =
          told (0x70 ∷ []) 3 (0 ∷ 0 ∷ 0 ∷ 0 ∷ 0 ∷ 8 ∷ [])
          ∷ told (0x72 ∷ 0x40 ∷ 0x3C ∷ 0xFF ∷ []) 7 (0 ∷ 0 ∷ 3 ∷ 8 ∷ 0 ∷ 0 ∷ [])
          ∷ told (0x72 ∷ 0x80 ∷ 0xE8 ∷ []) 8 (7 ∷ 2 ∷ 0 ∷ 0 ∷ 0 ∷ 8 ∷ []) ∷ [];
      end = record {
        zero = 0 ∷ 0 ∷ 0 ∷ 1 ∷ 1 ∷ [];
        one = 1 ∷ 1 ∷ 1 ∷ 2 ∷ 0 ∷ [];
        columns = col 0 0 ∷ col 78 0 ∷ col 79 5 ∷ col 80 12 ∷ col 81 3 ∷ col 82 0 ∷ [];
        lit = 0 ∷ 0 ∷ 0 ∷ 0 ∷ [];
      };
    }
    ∷ []

pub merging : T (every table)
unfolding part_of check_part transfer_part transfer_call check_transfer check_state check_chips check_registers check_ram check_length check_bits check_sent over_in fault_in whole_of cut_data heard_by heard data_byte control_of command_in within in_range backplanes bank_row position at_position put_bits changed with_row stored_bits counted acknowledger shown picture_of lit_in ones ones_in
merging = tt
