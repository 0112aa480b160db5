-- From picture to bus bytes (paper 02, request 2): one transfer that puts a group's wanted rows into its RAM from any valid registers. That it does is stated in `Puts`.
-- Wanted rows are RAM rows, a byte a column; letters as in `Data`.
use Rattle.std.specs.Prelude.{ℕ, zero, suc, ◌+◌, ◌-◌, ◌*◌, ◌/◌, ◌%◌, cond, ◌&&◌, List, [], ◌∷◌, ◌++◌, eqb, ltb, length, get_or}
use Rattle.sheet.specs.declared.Registers.{Registers}
use Rattle.sheet.specs.declared.Both.{Both}
use Rattle.sheet.specs.declared.Chips.{Chips}
use Rattle.sheet.specs.Results.{Check}
use Rattle.sheet.specs.declared.Refusal.TheVariants.{Register, GroupOrPhase}
use Rattle.sheet.specs.Parts.{Part, part_of}
use Rattle.sheet.specs.Registers.{marked, backplanes, bank_row, registers_of}
use Rattle.sheet.specs.Protocol.{address_of, chips_in}
use Rattle.sheet.specs.Checks.{unless, or_else, check_chips, check_registers, check_columns}
use Rattle.sheet.specs.Written.{WrittenAfter, written_part}
use Rattle.sheet.specs.Data.{row_of, width_of}

-- ---- the commands

-- each after its own control byte 80
abbrev pub each_after80 : List ℕ → List ℕ
each_after80 [] = []
each_after80 (x ∷ xs) = 0x80 ∷ x ∷ each_after80 xs

-- mode-set with a wanted M, E and B as the registers have them; bank-select with a wanted I, O as they have it
abbrev pub mode_set_of : Registers → ℕ → ℕ
mode_set_of r mode = 0xC0 + 8 * r.e + 4 * r.b + mode

abbrev pub bank_select_of : Registers → ℕ → ℕ
bank_select_of r bank = 0xF8 + 2 * bank + r.o

-- these two, device-select 0 and the pointer at 0
abbrev pub settings : Part → Registers → ℕ → ℕ → List ℕ
settings K r mode bank = mode_set_of r mode ∷ bank_select_of r bank ∷ 0xE0 ∷ K.pointer 0

-- the registers that they make: the wanted M and I, the first column of chip 0, nothing unknown; E, B, O and blinking stay
abbrev pub set_to : ℕ → ℕ → Registers → Registers
set_to mode bank r = record { e = r.e; b = r.b; m = mode; p = 0; a = 0; i = bank; o = r.o; ab = r.ab; bf = r.bf; unknown = marked 0 }

-- ---- the data

-- bit k of the data byte that begins at column v: row b + k mod m of column v + k div m, and 0 past the last column
abbrev pub bit_from : ℕ → ℕ → ℕ → List ℕ → ℕ → ℕ
bit_from m b v wanted k = row_of (get_or wanted (v + k / m) 0) (b + k % m)

-- its first n bits, the first of them highest
unfoldable pub bits_from : ℕ → ℕ → ℕ → ℕ → List ℕ → ℕ
bits_from zero m b v wanted = 0
bits_from (suc k) m b v wanted = 2 * bits_from k m b v wanted + bit_from m b v wanted k

-- n data bytes: byte j begins at column w * j
unfoldable pub data_from : ℕ → ℕ → ℕ → List ℕ → List ℕ
data_from zero m b wanted = []
data_from (suc j) m b wanted = data_from j m b wanted ++ (bits_from 8 m b (width_of m * j) wanted ∷ [])

-- enough of them for so many columns: size / w, rounded up
abbrev pub bytes_for : ℕ → ℕ → ℕ
bytes_for m size = (size + (width_of m - 1)) / width_of m

-- those of a group's wanted rows, in the mode and the input bank of its registers
abbrev pub data_of : Registers → List ℕ → List ℕ
data_of r wanted = let m = backplanes r in data_from (bytes_for m (length wanted)) m (bank_row m r.i) wanted

-- ---- the transfer: address, commands, then 40 and the data. A group with no chip gets none

unfoldable pub rows_transfer : Part → Chips → Both → ℕ → ℕ → ℕ → List ℕ → List ℕ
rows_transfer K n r g mode bank wanted =
    let s = registers_of g r in
    cond (eqb (chips_in g n) 0) [] (address_of g ∷ each_after80 (settings K s mode bank) ++ (0x40 ∷ data_of (set_to mode bank s) wanted))

-- ---- the call

-- 3, 6 (also a wanted mode or bank out of range), 8, then 4 and 5 of the wanted rows
unfoldable pub check_wanted : Part → Chips → Both → ℕ → ℕ → ℕ → List ℕ → Check
check_wanted K n r g mode bank wanted =
    or_else (check_chips K n) (or_else (check_registers K r) (or_else (unless (ltb mode 4 && ltb bank 2) Register)
    (or_else (unless (ltb g 2) GroupOrPhase) (check_columns (K.columns * chips_in g n) wanted))))

unfoldable pub write_rows_part : ℕ → Chips → Both → ℕ → ℕ → ℕ → List ℕ → List ℕ → WrittenAfter
write_rows_part part n r g mode bank wanted out =
    let K = part_of part in
    written_part part (check_wanted K n r g mode bank wanted) (rows_transfer K n r g mode bank wanted) out
