-- Data bytes in one chip, by value: its columns apart from its registers, and several bytes at once.
use Rattle.std.specs.Prelude.{ℕ, zero, suc, ◌-◌, ◌*◌, ◌/◌, cond, List, [], ◌∷◌, eqb, get_or, set}
use Rattle.sheet.specs.declared.Registers.{Registers}
use Rattle.sheet.specs.declared.Chip.{Chip}
use Rattle.sheet.specs.Parts.{Part}
use Rattle.sheet.specs.Registers.{in_range, backplanes, bank_row}
use Rattle.sheet.specs.Plain.{put_rows, chip_data}
use Rattle.sheet.specs.Places.{advanced_by}
use Rattle.sheet.specs.Data.{width_of}

-- what column j of byte x makes of a column: new rows if A is the subaddress
abbrev pub stored_in : Registers → ℕ → ℕ → ℕ → ℕ → ℕ
stored_in r subaddress x j q = let m = backplanes r in cond (eqb r.a subaddress) (put_rows m (bank_row m r.i) (m * j) x q) q

-- the columns of a chip after the first n columns of byte x, from registers r on
unfoldable pub columns_after : Part → ℕ → ℕ → Registers → ℕ → List ℕ → List ℕ
columns_after K subaddress x r zero l = l
columns_after K subaddress x r (suc n) l =
    let s = advanced_by K n r in
    let before = columns_after K subaddress x r n l in
    set before s.p (stored_in s subaddress x n (get_or before s.p 0))

-- the chip after data bytes, one after the other
unfoldable pub ran_over : Part → List ℕ → Chip → Chip
ran_over K [] c = c
ran_over K (x ∷ xs) c = ran_over K xs (chip_data K x c)

-- of any chip: one with a register out of range stays as it is
abbrev pub chip_ran : Part → List ℕ → Chip → Chip
chip_ran K xs c = cond (in_range K c.registers) (ran_over K xs c) c

-- the data bytes that end in the columns from P to the chip's last
abbrev pub room_in : Part → Registers → ℕ
room_in K r = (K.columns - r.p) / width_of (backplanes r)
