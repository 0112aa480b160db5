-- What is shown of a column that holds 9, in every mode, enabled or not, for each blink mode, with and without blinking, at both phases (sheet 003, table 11, notes 2 and 3; paper 02, request 3), computed of both accounts' calls.
use Rattle.std.specs.Prelude.{ℕ, ◌*◌, Bool, true, ◌&&◌, List, [], ◌∷◌, T, replicate}
use Rattle.std.specs.Int.Count.{ones, ones_in}
use Rattle.sheet.specs.declared.Registers.{Registers}
use Rattle.sheet.specs.Refusals.{picture_numbers}
use Rattle.sheet.specs.Parts.{pcf8532}
use Rattle.sheet.specs.Registers.{in_range, backplanes, bank_row, marked}
use Rattle.sheet.specs.Checks.{check_chips, check_registers, over_in, check_ram, check_state, check_picture}
use Rattle.sheet.specs.Pictures.{shown, picture_of, lit_in, Seen}
use Rattle.sheet.specs.Long.{picture_call}
use Rattle.sheet.specs.Plain.{chip_fits, check_chip_picture, chip_picture_call}
use Rattle.sheet.specs.Starred.{same}

-- M, E, AB, BF, the phase, and what the column shows: bank 0 of 9 is 1, bank 1 is 0 in static and 2 in 1:2
pub record Blink : Type 0 where
  pub m : ℕ
  pub e : ℕ
  pub ab : ℕ
  pub bf : ℕ
  pub phase : ℕ
  pub value : ℕ

abbrev shows : ℕ → ℕ → ℕ → ℕ → ℕ → ℕ → Blink
shows m e ab bf phase value = record { m = m; e = e; ab = ab; bf = bf; phase = phase; value = value }

abbrev pub registers_of : Blink → Registers
registers_of b = record { e = b.e; b = 0; m = b.m; p = 0; a = 0; i = 0; o = 0; ab = b.ab; bf = b.bf; unknown = marked 0 }

-- every column shows the value, and the lit elements are theirs
abbrev pub is : Seen → ℕ → Bool
is s value = same s.out (replicate 160 value) && same (picture_numbers s.result) (0 ∷ 0 ∷ 160 * ones value ∷ 0 ∷ 0 ∷ 0 ∷ [])

abbrev pub holds : Blink → Bool
holds b =
    let columns : List ℕ = replicate 160 9 in
    is (picture_call pcf8532 (record { zero = 1; one = 0 }) (record { zero = registers_of b; one = registers_of b }) columns 0 b.phase columns) b.value
    && is (chip_picture_call pcf8532 (record { columns = columns; sa0 = 0; subaddress = 0; registers = registers_of b }) b.phase columns) b.value

abbrev pub every : List Blink → Bool
every [] = true
every (b ∷ bs) = holds b && every bs

-- E 0 first, then E 1; in each AB 0 and 1, BF 0 and 1, phase 0 and 1
abbrev pub table : List Blink
table =
    -- static
    shows 1 0 0 0 0 0 ∷ shows 1 0 0 0 1 0 ∷ shows 1 0 0 1 0 0 ∷ shows 1 0 0 1 1 0
    ∷ shows 1 0 1 0 0 0 ∷ shows 1 0 1 0 1 0 ∷ shows 1 0 1 1 0 0 ∷ shows 1 0 1 1 1 0
    ∷ shows 1 1 0 0 0 1 ∷ shows 1 1 0 0 1 1 ∷ shows 1 1 0 1 0 1 ∷ shows 1 1 0 1 1 0
    ∷ shows 1 1 1 0 0 1 ∷ shows 1 1 1 0 1 1 ∷ shows 1 1 1 1 0 1 ∷ shows 1 1 1 1 1 0
    -- 1:2
    ∷ shows 2 0 0 0 0 0 ∷ shows 2 0 0 0 1 0 ∷ shows 2 0 0 1 0 0 ∷ shows 2 0 0 1 1 0
    ∷ shows 2 0 1 0 0 0 ∷ shows 2 0 1 0 1 0 ∷ shows 2 0 1 1 0 0 ∷ shows 2 0 1 1 1 0
    ∷ shows 2 1 0 0 0 1 ∷ shows 2 1 0 0 1 1 ∷ shows 2 1 0 1 0 1 ∷ shows 2 1 0 1 1 0
    ∷ shows 2 1 1 0 0 1 ∷ shows 2 1 1 0 1 1 ∷ shows 2 1 1 1 0 1 ∷ shows 2 1 1 1 1 2
    -- 1:3
    ∷ shows 3 0 0 0 0 0 ∷ shows 3 0 0 0 1 0 ∷ shows 3 0 0 1 0 0 ∷ shows 3 0 0 1 1 0
    ∷ shows 3 0 1 0 0 0 ∷ shows 3 0 1 0 1 0 ∷ shows 3 0 1 1 0 0 ∷ shows 3 0 1 1 1 0
    ∷ shows 3 1 0 0 0 1 ∷ shows 3 1 0 0 1 1 ∷ shows 3 1 0 1 0 1 ∷ shows 3 1 0 1 1 0
    ∷ shows 3 1 1 0 0 1 ∷ shows 3 1 1 0 1 1 ∷ shows 3 1 1 1 0 1 ∷ shows 3 1 1 1 1 0
    -- 1:4
    ∷ shows 0 0 0 0 0 0 ∷ shows 0 0 0 0 1 0 ∷ shows 0 0 0 1 0 0 ∷ shows 0 0 0 1 1 0
    ∷ shows 0 0 1 0 0 0 ∷ shows 0 0 1 0 1 0 ∷ shows 0 0 1 1 0 0 ∷ shows 0 0 1 1 1 0
    ∷ shows 0 1 0 0 0 9 ∷ shows 0 1 0 0 1 9 ∷ shows 0 1 0 1 0 9 ∷ shows 0 1 0 1 1 0
    ∷ shows 0 1 1 0 0 9 ∷ shows 0 1 1 0 1 9 ∷ shows 0 1 1 1 0 9 ∷ shows 0 1 1 1 1 0
    ∷ []

pub blinking : T (every table)
unfolding picture_call check_picture check_state check_chips check_registers check_ram over_in chip_picture_call check_chip_picture chip_fits in_range backplanes bank_row shown picture_of lit_in ones ones_in
blinking = tt
