-- Transfers that end inside a byte (paper 02, request 8), computed of both accounts, transfer by transfer; and plain chips with unequal marks.
use Rattle.std.specs.Prelude.{ℕ, ◌+◌, ◌*◌, Bool, true, cond, ◌&&◌, List, [], ◌∷◌, ◌++◌, T, eqb, take, drop, replicate}
use Rattle.sheet.specs.declared.Registers.{Registers}
use Rattle.sheet.specs.declared.Both.{Both}
use Rattle.sheet.specs.declared.Chips.{Chips}
use Rattle.sheet.specs.declared.Chip.{Chip}
use Rattle.sheet.specs.Refusals.{numbers, plain_numbers}
use Rattle.sheet.specs.Registers.{power_on, with_marks, in_range, backplanes, bank_row}
use Rattle.sheet.specs.Parts.{within, command_in, part_of}
use Rattle.sheet.specs.Protocol.{heard_by, control_of, sent, whole_of, cut_data}
use Rattle.sheet.specs.Checks.{check_part, check_chips, check_registers, over_in, check_ram, check_length, check_bits, check_sent, fault_in, check_state, check_transfer}
use Rattle.sheet.specs.Long.{State, state_of, both_on, heard, data_byte, transfer_call, transfer_part}
use Rattle.sheet.specs.Plain.{put_rows, after_column, after_columns, chip_data, acknowledges_data, smallest, plain_heard, chip_fits, misfit_in, check_plain, plain_call, plain_part}
use Rattle.sheet.specs.Places.{advanced, position, at_position}
use Rattle.sheet.specs.Agree.{group_chips, chips_of}
use Rattle.sheet.specs.Data.{put_bits, changed, with_row, stored_bits, counted, acknowledger}
use Rattle.sheet.specs.Starred.{Column, col, same, holds, chip_columns}

-- ---- both accounts

-- a transfer: its bytes, the bits of the last one, the six numbers of its answer; then high, low, device, P and A of each group
pub record Step : Type 0 where
  pub bytes : List ℕ
  pub bits : ℕ
  pub answer : List ℕ
  pub zero : List ℕ
  pub one : List ℕ

-- the part, the chips of the groups, power-on with columns of 0, the transfers, and columns of the whole RAM at the end
pub record Row : Type 0 where
  pub part : ℕ
  pub chips : Chips
  pub steps : List Step
  pub columns : List Column

abbrev pub place_of : Registers → List ℕ
place_of r = r.unknown.high ∷ r.unknown.low ∷ r.unknown.device ∷ r.p ∷ r.a ∷ []

-- the long account
abbrev pub long_holds : ℕ → Chips → State → List Step → List Column → Bool
long_holds part n s [] columns = holds s.ram columns
long_holds part n s (t ∷ ts) columns =
    let a = transfer_part part n s.registers s.ram (sent t.bytes t.bits) in
    same (numbers (part_of part) a.result.answer) t.answer
    && (same (place_of a.result.registers.zero) t.zero && (same (place_of a.result.registers.one) t.one
    && long_holds part n (state_of a.result.registers a.ram) ts columns))

-- the plain account: no stored and no discarded, and every chip of a group has its marks, P and A
abbrev pub plainly : List ℕ → List ℕ
plainly answer = take 3 answer ++ (0 ∷ 0 ∷ drop 5 answer)

abbrev pub all_at : List ℕ → List ℕ → List Chip → Bool
all_at zero one [] = true
all_at zero one (c ∷ cs) = same (place_of c.registers) (cond (eqb c.sa0 0) zero one) && all_at zero one cs

abbrev pub plain_holds : ℕ → List Chip → List Step → List Column → Bool
plain_holds part cs [] columns = holds (chip_columns (part_of part) cs) columns
plain_holds part cs (t ∷ ts) columns =
    let a = plain_part part cs (sent t.bytes t.bits) in
    same (plain_numbers (part_of part) a.answer) (plainly t.answer) && (all_at t.zero t.one a.chips && plain_holds part a.chips ts columns)

abbrev pub row_holds : Row → Bool
row_holds row =
    let n = row.chips in
    let on : State = state_of both_on (replicate ((part_of row.part).columns * (n.zero + n.one)) 0) in
    long_holds row.part n on row.steps row.columns && plain_holds row.part (chips_of (part_of row.part) n on) row.steps row.columns

abbrev pub every : List Row → Bool
every [] = true
every (row ∷ rows) = row_holds row && every rows

-- ---- how the table is written

-- by its part, and the chips of group 0 and of group 1
abbrev row : ℕ → ℕ → ℕ → List Step → List Column → Row
row part chips others steps columns = record { part = part; chips = record { zero = chips; one = others }; steps = steps; columns = columns }

-- what is left unknown, and P and A
abbrev left : ℕ → ℕ → ℕ → ℕ → ℕ → List ℕ
left high low device p a = high ∷ low ∷ device ∷ p ∷ a ∷ []

abbrev known : ℕ → ℕ → List ℕ
known p a = left 0 0 0 p a

abbrev lost : ℕ → ℕ → List ℕ
lost p a = left 1 1 1 p a

-- acknowledged, stored, discarded and who acknowledged the last data byte
abbrev took : ℕ → ℕ → ℕ → ℕ → List ℕ
took acknowledged stored discarded last = 0 ∷ 0 ∷ acknowledged ∷ stored ∷ discarded ∷ last ∷ []

-- so many acknowledged and no data; a refusal's number and place: of the PCF8532, whose number for none is 4
abbrev quiet : ℕ → List ℕ
quiet acknowledged = took acknowledged 0 0 4

abbrev no : ℕ → ℕ → List ℕ
no number place = number ∷ place ∷ 0 ∷ 0 ∷ 0 ∷ 4 ∷ []

-- of the PCA85133, whose number for none is 8
abbrev no_smaller : ℕ → ℕ → List ℕ
no_smaller number place = number ∷ place ∷ 0 ∷ 0 ∷ 0 ∷ 8 ∷ []

-- a transfer after which group 1 is as at power-on
abbrev step : List ℕ → ℕ → List ℕ → List ℕ → Step
step bytes bits answer zero = record { bytes = bytes; bits = bits; answer = answer; zero = zero; one = known 0 0 }

-- and one after which it is not
abbrev both : List ℕ → ℕ → List ℕ → List ℕ → List ℕ → Step
both bytes bits answer zero one = record { bytes = bytes; bits = bits; answer = answer; zero = zero; one = one }

-- pointer and counter lost at P 0 and A 1, then restored by three commands in some order, which make them 53 and 0: data is refused, whole and cut, until the third came
abbrev order : ℕ → List ℕ → ℕ → List ℕ → ℕ → Row
order first one second two third =
    row 0 1 0 (
    step (0x70 ∷ 0x80 ∷ 0xE1 ∷ 0xC0 ∷ 0x11 ∷ []) 1 (quiet 4) (lost 0 1) ∷ step (0x70 ∷ 0x80 ∷ first ∷ []) 8 (quiet 3) one ∷ step (0x70 ∷ 0x40 ∷ 0x11 ∷ []) 8 (no 18 2) one
    ∷ step (0x70 ∷ 0x80 ∷ second ∷ []) 8 (quiet 3) two ∷ step (0x70 ∷ 0x40 ∷ 0x11 ∷ []) 8 (no 18 2) two ∷ step (0x70 ∷ 0xC0 ∷ 0x11 ∷ []) 7 (no 18 2) two ∷ step (0x70 ∷ 0x80 ∷ third ∷ []) 8 (quiet 3) (known 53 0)
    ∷ step (0x70 ∷ 0x40 ∷ 0xA5 ∷ []) 8 (took 3 8 0 0) (known 55 0) ∷ [])
    (col 0 0 ∷ col 52 0 ∷ col 53 5 ∷ col 54 10 ∷ col 55 0 ∷ [])

abbrev pub table : List Row
table =
    -- a cut byte that is no data does nothing: address, control byte, one command, a command of a run; what came before it is done
    row 0 1 0 (
    step (0x70 ∷ []) 1 (quiet 0) (known 0 0) ∷ step (0x70 ∷ []) 7 (quiet 0) (known 0 0) ∷ step (0x70 ∷ 0x80 ∷ []) 1 (quiet 1) (known 0 0) ∷ step (0x70 ∷ 0x40 ∷ []) 7 (quiet 1) (known 0 0)
    ∷ step (0x70 ∷ 0x80 ∷ 0xE1 ∷ []) 1 (quiet 2) (known 0 0) ∷ step (0x70 ∷ 0x80 ∷ 0xE1 ∷ []) 7 (quiet 2) (known 0 0) ∷ step (0x70 ∷ 0x00 ∷ 0x09 ∷ []) 1 (quiet 2) (known 0 0)
    ∷ step (0x70 ∷ 0x00 ∷ 0x09 ∷ []) 7 (quiet 2) (known 0 0) ∷ step (0x70 ∷ 0x00 ∷ 0xE1 ∷ 0x09 ∷ []) 1 (quiet 3) (known 0 1) ∷ step (0x70 ∷ 0x00 ∷ 0xE2 ∷ 0x09 ∷ []) 7 (quiet 3) (known 0 2)
    ∷ step (0x70 ∷ 0x80 ∷ 0x43 ∷ 0xC0 ∷ []) 7 (quiet 3) (known 3 2)
    -- after data, which it leaves known
    ∷ step (0x70 ∷ 0x80 ∷ 0xE0 ∷ 0xC0 ∷ 0xA5 ∷ 0x80 ∷ 0x49 ∷ []) 7 (took 6 8 0 0) (known 5 0) ∷ step (0x70 ∷ 0xC0 ∷ 0x3C ∷ 0x40 ∷ []) 1 (took 3 8 0 0) (known 7 0) ∷ [])
    (col 2 0 ∷ col 3 5 ∷ col 4 10 ∷ col 5 12 ∷ col 6 3 ∷ col 7 0 ∷ [])
    -- it is not refused, an undefined command or a stray control byte, where the whole byte is
    ∷ row 0 1 0 (
    step (0x70 ∷ 0x80 ∷ 0x0A ∷ []) 1 (quiet 2) (known 0 0) ∷ step (0x70 ∷ 0x80 ∷ 0x0A ∷ []) 7 (quiet 2) (known 0 0) ∷ step (0x70 ∷ 0x80 ∷ 0x0A ∷ []) 8 (no 7 2) (known 0 0)
    ∷ step (0x70 ∷ 0x00 ∷ 0xE1 ∷ 0x0A ∷ []) 7 (quiet 3) (known 0 1) ∷ step (0x70 ∷ 0x00 ∷ 0xE2 ∷ 0x0A ∷ []) 8 (no 7 3) (known 0 1) ∷ step (0x70 ∷ 0x81 ∷ []) 1 (quiet 1) (known 0 1)
    ∷ step (0x70 ∷ 0x81 ∷ []) 7 (quiet 1) (known 0 1) ∷ step (0x70 ∷ 0x81 ∷ []) 8 (no 17 1) (known 0 1) ∷ step (0x70 ∷ 0x80 ∷ 0xE2 ∷ 0x81 ∷ []) 7 (quiet 3) (known 0 2)
    -- a whole one before the cut is
    ∷ step (0x70 ∷ 0x80 ∷ 0x0A ∷ 0x80 ∷ []) 7 (no 7 2) (known 0 2) ∷ step (0x70 ∷ 0x81 ∷ 0xE0 ∷ []) 7 (no 17 1) (known 0 2) ∷ step (0x70 ∷ 0x41 ∷ 0x11 ∷ []) 1 (no 17 1) (known 0 2) ∷ [])
    (col 0 0 ∷ [])
    -- a byte nobody hears: of a group with no chip, at another address
    ∷ row 0 1 0 (
    step (0x72 ∷ 0x40 ∷ 0x11 ∷ []) 1 (quiet 0) (known 0 0) ∷ step (0x72 ∷ 0xC0 ∷ 0x11 ∷ []) 7 (quiet 0) (known 0 0) ∷ step (0x71 ∷ 0x40 ∷ 0x11 ∷ 0x22 ∷ []) 7 (quiet 0) (known 0 0)
    ∷ step (0x00 ∷ 0x40 ∷ 0x11 ∷ []) 1 (quiet 0) (known 0 0) ∷ step (0x70 ∷ 0x40 ∷ 0xA5 ∷ []) 8 (took 3 8 0 0) (known 2 0) ∷ [])
    (col 0 5 ∷ col 1 10 ∷ [])
    -- a data byte stores nothing and loses pointer and counter: the one byte, the first of a run. It is not acknowledged, not counted and not the last data byte
    ∷ row 0 1 0 (step (0x70 ∷ 0xC0 ∷ 0xFF ∷ []) 1 (quiet 2) (lost 0 0) ∷ []) (col 0 0 ∷ col 1 0 ∷ [])
    ∷ row 0 1 0 (step (0x70 ∷ 0xC0 ∷ 0xFF ∷ []) 7 (quiet 2) (lost 0 0) ∷ []) (col 0 0 ∷ col 1 0 ∷ [])
    ∷ row 0 1 0 (step (0x70 ∷ 0x40 ∷ 0xFF ∷ []) 1 (quiet 2) (lost 0 0) ∷ []) (col 0 0 ∷ col 1 0 ∷ [])
    ∷ row 0 1 0 (step (0x70 ∷ 0x40 ∷ 0xFF ∷ []) 7 (quiet 2) (lost 0 0) ∷ []) (col 0 0 ∷ col 1 0 ∷ [])
    -- after whole ones, which moved P and A and are counted
    ∷ row 0 1 0 (step (0x70 ∷ 0x40 ∷ 0xA5 ∷ 0xFF ∷ []) 1 (took 3 8 0 0) (lost 2 0) ∷ []) (col 0 5 ∷ col 1 10 ∷ col 2 0 ∷ col 3 0 ∷ [])
    ∷ row 0 1 0 (step (0x70 ∷ 0x40 ∷ 0xA5 ∷ 0x3C ∷ 0xFF ∷ []) 7 (took 4 16 0 0) (lost 4 0) ∷ []) (col 0 5 ∷ col 1 10 ∷ col 2 12 ∷ col 3 3 ∷ col 4 0 ∷ [])
    ∷ row 0 1 0 (step (0x70 ∷ 0xC0 ∷ 0xA5 ∷ 0xC0 ∷ 0xFF ∷ []) 7 (took 4 8 0 0) (lost 2 0) ∷ []) (col 0 5 ∷ col 1 10 ∷ col 2 0 ∷ col 3 0 ∷ [])
    ∷ row 0 1 0 (step (0x70 ∷ 0x80 ∷ 0xC3 ∷ 0x40 ∷ 0xFF ∷ 0xFF ∷ []) 7 (took 5 8 0 0) (lost 3 0) ∷ []) (col 0 7 ∷ col 1 7 ∷ col 2 3 ∷ col 3 0 ∷ [])
    -- over the edge of two chips, of which both lose them; the pointer's high nibble then joins the low one it had
    ∷ row 0 2 0 (
    step (0x70 ∷ 0x80 ∷ 0x09 ∷ 0x80 ∷ 0x4F ∷ 0x40 ∷ 0xA5 ∷ 0xFF ∷ []) 7 (took 7 8 0 1) (lost 1 1) ∷ step (0x70 ∷ 0x80 ∷ 0x09 ∷ []) 8 (quiet 3) (left 0 1 1 145 1) ∷ [])
    (col 158 0 ∷ col 159 5 ∷ col 160 10 ∷ col 161 0 ∷ col 162 0 ∷ [])
    -- the last data byte is chip 0's, where the cut one would have been chip 1's; nobody's, where there is no chip 1
    ∷ row 0 2 0 (step (0x70 ∷ 0x80 ∷ 0x09 ∷ 0x80 ∷ 0x4E ∷ 0x40 ∷ 0xA5 ∷ 0xFF ∷ []) 7 (took 7 8 0 0) (lost 0 1) ∷ []) (col 158 5 ∷ col 159 10 ∷ col 160 0 ∷ [])
    ∷ row 0 1 0 (step (0x70 ∷ 0x80 ∷ 0x09 ∷ 0x80 ∷ 0x4F ∷ 0x40 ∷ 0xA5 ∷ 0xFF ∷ []) 1 (took 6 4 4 4) (lost 1 1) ∷ []) (col 0 0 ∷ col 159 5 ∷ [])
    -- 18 at the first data byte, whole or cut; a run that ends before one is taken; a refusal changes nothing
    ∷ row 0 1 0 (
    step (0x70 ∷ 0xC0 ∷ 0x11 ∷ []) 1 (quiet 2) (lost 0 0) ∷ step (0x70 ∷ 0x40 ∷ 0x11 ∷ []) 8 (no 18 2) (lost 0 0) ∷ step (0x70 ∷ 0x40 ∷ 0x11 ∷ []) 7 (no 18 2) (lost 0 0)
    ∷ step (0x70 ∷ 0xC0 ∷ 0x11 ∷ []) 8 (no 18 2) (lost 0 0) ∷ step (0x70 ∷ 0xC0 ∷ 0x11 ∷ []) 1 (no 18 2) (lost 0 0) ∷ step (0x70 ∷ 0x40 ∷ 0x11 ∷ 0x22 ∷ []) 8 (no 18 2) (lost 0 0)
    ∷ step (0x70 ∷ 0x80 ∷ 0xE0 ∷ 0x40 ∷ 0x11 ∷ []) 8 (no 18 4) (lost 0 0) ∷ step (0x70 ∷ 0x80 ∷ 0xE0 ∷ 0xC0 ∷ 0x11 ∷ []) 7 (no 18 4) (lost 0 0)
    ∷ step (0x70 ∷ 0x80 ∷ 0xE0 ∷ 0x80 ∷ 0x00 ∷ 0x40 ∷ 0x11 ∷ []) 1 (no 18 6) (lost 0 0) ∷ step (0x70 ∷ 0x40 ∷ []) 8 (quiet 2) (lost 0 0) ∷ step (0x70 ∷ 0x40 ∷ []) 7 (quiet 1) (lost 0 0)
    ∷ step (0x70 ∷ 0xC0 ∷ []) 8 (quiet 2) (lost 0 0) ∷ step (0x70 ∷ []) 8 (quiet 1) (lost 0 0) ∷ step (0x72 ∷ 0x40 ∷ 0x11 ∷ []) 8 (quiet 0) (lost 0 0)
    -- 7 or 17 before it, and it before them
    ∷ step (0x70 ∷ 0x80 ∷ 0x0A ∷ 0x40 ∷ 0x11 ∷ []) 8 (no 7 2) (lost 0 0) ∷ step (0x70 ∷ 0x80 ∷ 0x0A ∷ 0xC0 ∷ 0x11 ∷ []) 7 (no 7 2) (lost 0 0) ∷ step (0x70 ∷ 0xC0 ∷ 0x11 ∷ 0x80 ∷ 0x0A ∷ []) 8 (no 18 2) (lost 0 0)
    ∷ step (0x70 ∷ 0xC0 ∷ 0x11 ∷ 0x80 ∷ 0x0A ∷ []) 7 (no 18 2) (lost 0 0) ∷ step (0x70 ∷ 0x41 ∷ 0x11 ∷ []) 8 (no 17 1) (lost 0 0) ∷ step (0x70 ∷ 0x41 ∷ 0x11 ∷ []) 7 (no 17 1) (lost 0 0)
    ∷ step (0x70 ∷ 0xC0 ∷ 0x11 ∷ 0x81 ∷ []) 8 (no 18 2) (lost 0 0) ∷ step (0x70 ∷ 0xC0 ∷ 0x11 ∷ 0x81 ∷ 0xE0 ∷ []) 1 (no 18 2) (lost 0 0)
    -- mode-set, bank-select, blink-select and the frequency restore nothing
    ∷ step (0x70 ∷ 0x80 ∷ 0xC8 ∷ 0x40 ∷ 0x11 ∷ []) 8 (no 18 4) (lost 0 0) ∷ step (0x70 ∷ 0x80 ∷ 0xFA ∷ 0x40 ∷ 0x11 ∷ []) 8 (no 18 4) (lost 0 0) ∷ step (0x70 ∷ 0x80 ∷ 0xF5 ∷ 0xC0 ∷ 0x11 ∷ []) 8 (no 18 4) (lost 0 0)
    ∷ step (0x70 ∷ 0x80 ∷ 0xE8 ∷ 0xC0 ∷ 0x11 ∷ []) 8 (no 18 4) (lost 0 0) ∷ step (0x70 ∷ 0x00 ∷ 0xC8 ∷ 0xFA ∷ 0xF5 ∷ 0xE8 ∷ []) 8 (quiet 6) (lost 0 0)
    -- nor does a command that is cut
    ∷ step (0x70 ∷ 0x80 ∷ 0xE0 ∷ []) 7 (quiet 2) (lost 0 0) ∷ step (0x70 ∷ 0x00 ∷ 0xE0 ∷ 0x00 ∷ 0x40 ∷ []) 7 (quiet 4) (left 0 1 0 0 0) ∷ step (0x70 ∷ 0x40 ∷ 0x11 ∷ []) 8 (no 18 2) (left 0 1 0 0 0) ∷ [])
    (col 0 0 ∷ col 1 0 ∷ [])
    -- pointer high 3, pointer low 5 and device-select 0, in each order
    ∷ order 0x03 (left 0 1 1 48 1) 0x45 (left 0 0 1 53 1) 0xE0
    ∷ order 0x03 (left 0 1 1 48 1) 0xE0 (left 0 1 0 48 0) 0x45
    ∷ order 0x45 (left 1 0 1 5 1) 0x03 (left 0 0 1 53 1) 0xE0
    ∷ order 0x45 (left 1 0 1 5 1) 0xE0 (left 1 0 0 5 0) 0x03
    ∷ order 0xE0 (left 1 1 0 0 0) 0x03 (left 0 1 0 48 0) 0x45
    ∷ order 0xE0 (left 1 1 0 0 0) 0x45 (left 1 0 0 5 0) 0x03
    -- restored earlier in the same transfer: a data byte is taken, whole or cut, and the cut one loses them again
    ∷ row 0 1 0 (
    step (0x70 ∷ 0x40 ∷ 0x11 ∷ []) 7 (quiet 2) (lost 0 0) ∷ step (0x70 ∷ 0x80 ∷ 0x00 ∷ 0x80 ∷ 0x40 ∷ 0x80 ∷ 0xE0 ∷ 0xC0 ∷ 0xFF ∷ []) 1 (quiet 8) (lost 0 0)
    ∷ step (0x70 ∷ 0x80 ∷ 0xE0 ∷ 0x80 ∷ 0x40 ∷ 0x80 ∷ 0x00 ∷ 0x40 ∷ 0xA5 ∷ 0xFF ∷ []) 7 (took 9 8 0 0) (lost 2 0)
    ∷ step (0x70 ∷ 0x80 ∷ 0x41 ∷ 0x80 ∷ 0xE0 ∷ 0x80 ∷ 0x01 ∷ 0x40 ∷ 0x3C ∷ []) 8 (took 9 8 0 0) (known 19 0) ∷ [])
    (col 0 5 ∷ col 1 10 ∷ col 2 0 ∷ col 3 0 ∷ col 17 12 ∷ col 18 3 ∷ col 19 0 ∷ [])
    -- each group has its own marks
    ∷ row 0 1 1 (
    both (0x70 ∷ 0xC0 ∷ 0xFF ∷ []) 7 (quiet 2) (lost 0 0) (known 0 0) ∷ both (0x72 ∷ 0x40 ∷ 0xA5 ∷ []) 8 (took 3 8 0 0) (lost 0 0) (known 2 0) ∷ both (0x70 ∷ 0x40 ∷ 0xFF ∷ []) 8 (no 18 2) (lost 0 0) (known 2 0)
    ∷ both (0x72 ∷ 0x40 ∷ 0x3C ∷ 0xFF ∷ []) 1 (took 3 8 0 0) (lost 0 0) (lost 4 0) ∷ both (0x70 ∷ 0x00 ∷ 0xE0 ∷ 0x00 ∷ 0x40 ∷ []) 8 (quiet 5) (known 0 0) (lost 4 0)
    ∷ both (0x72 ∷ 0x40 ∷ 0xFF ∷ []) 8 (no 18 2) (known 0 0) (lost 4 0) ∷ both (0x70 ∷ 0x40 ∷ 0xA5 ∷ []) 8 (took 3 8 0 0) (known 2 0) (lost 4 0)
    ∷ both (0x72 ∷ 0x00 ∷ 0xE0 ∷ 0x00 ∷ 0x48 ∷ []) 8 (quiet 5) (known 2 0) (known 8 0) ∷ [])
    (col 0 5 ∷ col 1 10 ∷ col 2 0 ∷ col 160 5 ∷ col 161 10 ∷ col 162 12 ∷ col 163 3 ∷ col 164 0 ∷ [])
    -- the PCA85133: its pointer command restores both marks of the pointer, and data waits for device-select, in either order
    ∷ row 1 1 0 (
    step (0x70 ∷ 0xC0 ∷ 0xFF ∷ []) 1 (took 2 0 0 8) (lost 0 0) ∷ step (0x70 ∷ 0x40 ∷ 0x11 ∷ []) 8 (no_smaller 18 2) (lost 0 0) ∷ step (0x70 ∷ 0x80 ∷ 0x05 ∷ []) 8 (took 3 0 0 8) (left 0 0 1 5 0)
    ∷ step (0x70 ∷ 0x40 ∷ 0x11 ∷ []) 8 (no_smaller 18 2) (left 0 0 1 5 0) ∷ step (0x70 ∷ 0xC0 ∷ 0x11 ∷ []) 7 (no_smaller 18 2) (left 0 0 1 5 0)
    ∷ step (0x70 ∷ 0x80 ∷ 0xE0 ∷ 0x40 ∷ 0xA5 ∷ 0xFF ∷ []) 7 (took 5 8 0 0) (lost 7 0) ∷ step (0x70 ∷ 0x80 ∷ 0xE0 ∷ []) 8 (took 3 0 0 8) (left 1 1 0 7 0)
    ∷ step (0x70 ∷ 0x40 ∷ 0x11 ∷ []) 8 (no_smaller 18 2) (left 1 1 0 7 0)
    -- E8 is no command of this part, and may be one that is cut
    ∷ step (0x70 ∷ 0x80 ∷ 0xE8 ∷ []) 7 (took 2 0 0 8) (left 1 1 0 7 0) ∷ step (0x70 ∷ 0x80 ∷ 0xE8 ∷ []) 8 (no_smaller 7 2) (left 1 1 0 7 0)
    ∷ step (0x70 ∷ 0x80 ∷ 0x4E ∷ 0x40 ∷ 0xA5 ∷ []) 8 (took 5 8 0 0) (known 0 1) ∷ [])
    (col 0 0 ∷ col 5 5 ∷ col 6 10 ∷ col 7 0 ∷ col 78 5 ∷ col 79 10 ∷ [])
    -- and over the edge of its chips
    ∷ row 1 2 0 (step (0x70 ∷ 0x80 ∷ 0x4F ∷ 0x40 ∷ 0xA5 ∷ 0xFF ∷ []) 1 (took 5 8 0 1) (lost 1 1) ∷ []) (col 79 5 ∷ col 80 10 ∷ col 81 0 ∷ [])
    -- 19: the bits are 1 to 8, heard or not; before 7, 17 and 18, after 1 and 2. The cut byte counts toward 4096
    ∷ row 0 1 0 (
    step (0x70 ∷ []) 0 (no 19 0) (known 0 0) ∷ step (0x70 ∷ []) 9 (no 19 0) (known 0 0) ∷ step (0x70 ∷ []) 255 (no 19 0) (known 0 0) ∷ step (0x71 ∷ []) 0 (no 19 0) (known 0 0)
    ∷ step (0x72 ∷ 0x40 ∷ 0x11 ∷ []) 9 (no 19 0) (known 0 0) ∷ step (0x70 ∷ 0x40 ∷ 0x11 ∷ []) 0 (no 19 0) (known 0 0) ∷ step (0x70 ∷ 0x80 ∷ 0x0A ∷ 0x80 ∷ []) 0 (no 19 0) (known 0 0)
    ∷ step (0x70 ∷ 0x80 ∷ 0x0A ∷ []) 9 (no 19 0) (known 0 0) ∷ step (0x70 ∷ 0x81 ∷ 0xE0 ∷ []) 0 (no 19 0) (known 0 0) ∷ step (0x70 ∷ 0x81 ∷ []) 255 (no 19 0) (known 0 0) ∷ step [] 0 (no 1 0) (known 0 0)
    ∷ step [] 7 (no 1 0) (known 0 0) ∷ step [] 9 (no 1 0) (known 0 0) ∷ step (replicate 4097 0x71) 0 (no 2 0) (known 0 0) ∷ step (replicate 4097 0x71) 7 (no 2 0) (known 0 0)
    ∷ step (replicate 4097 0x71) 9 (no 2 0) (known 0 0) ∷ step (replicate 4096 0x71) 9 (no 19 0) (known 0 0) ∷ step (replicate 4096 0x71) 7 (quiet 0) (known 0 0)
    ∷ step (0x70 ∷ 0x40 ∷ 0x11 ∷ []) 1 (quiet 2) (lost 0 0) ∷ step (0x70 ∷ 0x40 ∷ 0x11 ∷ []) 0 (no 19 0) (lost 0 0) ∷ step (0x70 ∷ 0x40 ∷ 0x11 ∷ []) 9 (no 19 0) (lost 0 0) ∷ [])
    (col 0 0 ∷ [])
    ∷ []

pub cut : T (every table)
unfolding part_of check_part transfer_part plain_part plain_call check_plain misfit_in chip_fits plain_heard group_chips chip_data after_column after_columns put_rows advanced acknowledges_data smallest transfer_call check_transfer check_state check_chips check_registers check_ram check_length check_bits check_sent over_in fault_in whole_of cut_data heard_by heard data_byte control_of command_in within in_range backplanes bank_row position at_position put_bits changed with_row stored_bits counted acknowledger
cut = tt

-- ---- marks that stand in the registers from the start

abbrev marks : ℕ → ℕ → ℕ → Registers
marks high low device = with_marks power_on (record { high = high; low = low; device = device })

-- a chip by its SA0, its subaddress and its marks
abbrev chip : ℕ → ℕ → Registers → Chip
chip sa0 subaddress r = record { columns = replicate 160 0; sa0 = sa0; subaddress = subaddress; registers = r }

abbrev pub plain_says : ℕ → List Chip → List ℕ → ℕ → List ℕ → Bool
plain_says part cs bytes bits answer = same (plain_numbers (part_of part) (plain_part part cs (sent bytes bits)).answer) (plainly answer)

-- a data byte to the chips of slave address bit 0
abbrev one_data : List ℕ
one_data = 0x70 ∷ 0x40 ∷ 0x11 ∷ []

-- 18 if a mark is unknown at some chip that hears, the selected one or another; not at a chip of the other address
abbrev pub some_unknown : Bool
some_unknown =
    plain_says 0 (chip 0 0 (marks 1 0 0) ∷ chip 0 1 power_on ∷ []) one_data 8 (no 18 2)
    && (plain_says 0 (chip 0 0 power_on ∷ chip 0 1 (marks 1 0 0) ∷ []) one_data 8 (no 18 2)
    && (plain_says 0 (chip 0 0 power_on ∷ chip 0 1 (marks 0 1 0) ∷ []) one_data 8 (no 18 2)
    && (plain_says 0 (chip 0 1 (marks 0 0 1) ∷ chip 0 0 power_on ∷ []) one_data 7 (no 18 2)
    && (plain_says 0 (chip 1 0 power_on ∷ chip 0 3 (marks 0 0 1) ∷ []) one_data 1 (no 18 2)
    && (plain_says 0 (chip 0 0 power_on ∷ chip 1 0 (marks 1 1 1) ∷ []) one_data 8 (took 3 0 0 0)
    && plain_says 0 (chip 1 0 (marks 1 1 1) ∷ chip 0 0 power_on ∷ []) one_data 7 (quiet 2))))))

-- three chips, and another mark unknown at each: all three commands are needed
abbrev three : List Chip
three = chip 0 0 (marks 1 0 0) ∷ chip 0 1 (marks 0 1 0) ∷ chip 0 2 (marks 0 0 1) ∷ []

-- after two of them, in a transfer before
abbrev two : List Chip
two = (plain_part 0 three (sent (0x70 ∷ 0x00 ∷ 0x00 ∷ 0x40 ∷ []) 8)).chips

abbrev pub each_another : Bool
each_another =
    plain_says 0 three one_data 8 (no 18 2)
    && (plain_says 0 three (0x70 ∷ 0x80 ∷ 0x00 ∷ 0x40 ∷ 0x11 ∷ []) 8 (no 18 4)
    && (plain_says 0 three (0x70 ∷ 0x80 ∷ 0x00 ∷ 0x80 ∷ 0x40 ∷ 0x40 ∷ 0x11 ∷ []) 8 (no 18 6)
    && (plain_says 0 three (0x70 ∷ 0x80 ∷ 0x40 ∷ 0x80 ∷ 0xE0 ∷ 0xC0 ∷ 0x11 ∷ []) 7 (no 18 6)
    && (plain_says 0 three (0x70 ∷ 0x80 ∷ 0xE0 ∷ 0x80 ∷ 0x00 ∷ 0x40 ∷ 0x11 ∷ []) 8 (no 18 6)
    && (plain_says 0 three (0x70 ∷ 0x80 ∷ 0x00 ∷ 0x80 ∷ 0x40 ∷ 0x80 ∷ 0xE0 ∷ 0x40 ∷ 0x11 ∷ []) 8 (took 9 0 0 0)
    && (plain_says 0 two one_data 8 (no 18 2) && plain_says 0 (plain_part 0 two (sent (0x70 ∷ 0x80 ∷ 0xE0 ∷ []) 8)).chips one_data 8 (took 3 0 0 0)))))))

-- a cut data byte: every chip that hears loses pointer and counter, another none
abbrev pub hearers_lose : Bool
hearers_lose =
    let after = (plain_part 0 (chip 0 0 power_on ∷ chip 1 0 (marks 0 1 0) ∷ chip 0 2 power_on ∷ []) (sent one_data 1)).chips in
    all_at (lost 0 0) (left 0 1 0 0 0) after

-- a mark is 0 or 1: else 11 at the chip, heard or not, before 1 and 19
abbrev pub over_plain : Bool
over_plain =
    plain_says 0 (chip 0 0 (marks 2 0 0) ∷ chip 0 1 power_on ∷ []) (0x70 ∷ []) 8 (no 11 0)
    && (plain_says 0 (chip 0 0 power_on ∷ chip 0 1 (marks 0 2 0) ∷ []) (0x70 ∷ []) 8 (no 11 1)
    && (plain_says 0 (chip 0 0 power_on ∷ chip 0 1 (marks 1 1 1) ∷ chip 1 0 (marks 0 0 2) ∷ []) one_data 8 (no 11 2)
    && (plain_says 0 (chip 0 0 (marks 2 0 0) ∷ []) (0x71 ∷ []) 8 (no 11 0)
    && (plain_says 0 (chip 0 0 (marks 0 2 0) ∷ []) [] 8 (no 11 0)
    && (plain_says 0 (chip 0 0 (marks 0 0 255) ∷ []) (0x70 ∷ []) 9 (no 11 0)
    && plain_says 0 (chip 0 0 (marks 1 1 1) ∷ []) (0x70 ∷ []) 8 (quiet 1))))))

-- the long account, of one chip in group 0
abbrev pub long_says : ℕ → Both → List ℕ → ℕ → List ℕ → Bool
long_says part r bytes bits answer =
    same (numbers (part_of part) (transfer_part part (record { zero = 1; one = 0 }) r (replicate (part_of part).columns 0) (sent bytes bits)).result.answer) answer

abbrev of : Registers → Both
of r = record { zero = r; one = power_on }

-- 6, of either group
abbrev pub over_long : Bool
over_long =
    long_says 0 (of (marks 2 0 0)) (0x70 ∷ []) 8 (no 6 0) && (long_says 0 (of (marks 0 2 0)) (0x71 ∷ []) 8 (no 6 0) && (long_says 0 (of (marks 0 0 2)) [] 9 (no 6 0)
    && (long_says 0 (record { zero = power_on; one = marks 0 0 2 }) (0x70 ∷ []) 8 (no 6 0) && long_says 0 (record { zero = power_on; one = marks 1 1 1 }) one_data 8 (took 3 8 0 0))))

-- one mark is enough for 18; of the PCA85133, either of the pointer's
abbrev pub one_enough : Bool
one_enough =
    long_says 0 (of (marks 1 0 0)) one_data 8 (no 18 2) && (long_says 0 (of (marks 0 1 0)) one_data 8 (no 18 2) && (long_says 0 (of (marks 0 0 1)) one_data 1 (no 18 2)
    && (long_says 1 (of (marks 1 0 0)) one_data 8 (no_smaller 18 2) && (long_says 1 (of (marks 0 1 0)) one_data 7 (no_smaller 18 2)
    && (long_says 1 (of (marks 0 1 0)) (0x70 ∷ 0x80 ∷ 0x05 ∷ 0x40 ∷ 0x11 ∷ []) 8 (took 5 8 0 0)
    && (plain_says 1 (chip 0 0 (marks 1 0 0) ∷ []) one_data 8 (no_smaller 18 2)
    && plain_says 1 (chip 0 0 (marks 0 1 0) ∷ chip 0 1 (marks 1 0 0) ∷ []) (0x70 ∷ 0x80 ∷ 0x05 ∷ 0x40 ∷ 0x11 ∷ []) 8 (took 5 0 0 0)))))))

pub unequal : T (some_unknown && (each_another && (hearers_lose && (over_plain && (over_long && one_enough)))))
unfolding part_of check_part transfer_part plain_part plain_call check_plain misfit_in chip_fits plain_heard group_chips chip_data after_column after_columns put_rows advanced acknowledges_data smallest transfer_call check_transfer check_state check_chips check_registers check_ram check_length check_bits check_sent over_in fault_in whole_of cut_data heard_by heard data_byte control_of command_in within in_range backplanes bank_row position at_position put_bits changed with_row stored_bits counted acknowledger
unequal = tt
