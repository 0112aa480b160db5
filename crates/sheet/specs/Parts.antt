-- The parts: what the accounts take from a chip's own sheet (paper 02, request 5). Every definition and law is over any part K; a number names it in the calls only.
use Rattle.std.specs.Prelude.{ℕ, ◌+◌, ◌/◌, ◌%◌, Bool, cond, ◌&&◌, List, [], ◌∷◌, eqb, leb}
use Rattle.sheet.specs.declared.Command.{Command}
use Rattle.sheet.specs.declared.Command.TheVariants.{PointerHigh, PointerLow, Pointer, ModeSet, DeviceSelect, FrequencyCtrl, BlinkSelect, BankSelect, Undefined}

pub record Part : Type 0 where
  -- the columns of a chip: P stays below
  pub columns : ℕ
  -- the subaddresses of a group: A stops there, where no chip is
  pub limit : ℕ
  -- what a command byte is
  pub command : ℕ → Command
  -- the command bytes that make P a column
  pub pointer : ℕ → List ℕ

-- ---- commands are told apart by ranges of the byte

-- lo to hi, both included
unfoldable pub within : ℕ → ℕ → ℕ → Bool
within lo hi x = leb lo x && leb x hi

-- the bytes from first to last, and the command that each of them is
pub record Range : Type 0 where
  pub first : ℕ
  pub last : ℕ
  pub is : ℕ → Command

abbrev pub range : ℕ → ℕ → (ℕ → Command) → Range
range first last is = record { first = first; last = last; is = is }

-- the command of a byte by a table of ranges; a byte in none of them is no command
unfoldable pub command_in : List Range → ℕ → Command
command_in [] x = Undefined
command_in (t ∷ ts) x = cond (within t.first t.last x) (t.is x) (command_in ts x)

-- ---- what both sheets have

abbrev pub mode_set : Range
mode_set = range 0xC0 0xCF (λ x. ModeSet (record { e = x / 8 % 2; b = x / 4 % 2; m = x % 4 }))

abbrev pub blink_select : Range
blink_select = range 0xF0 0xF7 (λ x. BlinkSelect (x / 4 % 2) (x % 4))

abbrev pub bank_select : Range
bank_select = range 0xF8 0xFB (λ x. BankSelect (x / 2 % 2) (x % 2))

-- ---- the PCF8532 (sheet 003, tables 5 to 12)

abbrev pub pcf8532_ranges : List Range
pcf8532_ranges =
    range 0x00 0x09 (λ x. PointerHigh (x % 16))
    ∷ range 0x40 0x4F (λ x. PointerLow (x % 16))
    ∷ mode_set
    ∷ range 0xE0 0xE3 (λ x. DeviceSelect (x % 4))
    ∷ range 0xE8 0xEF (λ x. FrequencyCtrl)
    ∷ blink_select
    ∷ bank_select
    ∷ []

abbrev pub pcf8532 : Part
pcf8532 = record { columns = 160; limit = 4; command = command_in pcf8532_ranges; pointer = λ p. p / 16 ∷ (0x40 + p % 16) ∷ [] }

-- ---- the PCA85133 (sheet 002, tables 11 to 16): one pointer command, and no frequency

abbrev pub pca85133_ranges : List Range
pca85133_ranges =
    range 0x00 0x4F (λ x. Pointer x)
    ∷ mode_set
    ∷ range 0xE0 0xE7 (λ x. DeviceSelect (x % 8))
    ∷ blink_select
    ∷ bank_select
    ∷ []

abbrev pub pca85133 : Part
pca85133 = record { columns = 80; limit = 8; command = command_in pca85133_ranges; pointer = λ p. p ∷ [] }

-- ---- a part by its number in a call: 0 is the PCF8532 and 1 the PCA85133. Any other is refused before a number of it is used

unfoldable pub part_of : ℕ → Part
part_of part = cond (eqb part 1) pca85133 pcf8532
