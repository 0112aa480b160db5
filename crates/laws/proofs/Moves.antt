-- What the first columns of a data byte leave of a chip's registers: P and A moved on, and all else as it was.
-- Assumes nothing.
use mathlib.Core.Path.{◌≡◌, sym, ◌∙◌, subst}
use mathlib.Core.Bool.{true}
use Prim.Native.Nat.{ℕ, ◌+◌}
use Rattle.sheet.specs.declared.Chip.{Chip}
use Rattle.sheet.specs.declared.Kind.{Kind}
use Rattle.sheet.specs.declared.Expect.{Expect}
use Rattle.sheet.specs.declared.Expect.TheVariants.{Control, One, All}
use Rattle.sheet.specs.Parts.{Part}
use Rattle.sheet.specs.Registers.{in_range, backplanes}
use Rattle.sheet.specs.Plain.{after_columns, chip_data, chip_byte_of, chip_byte}
use Rattle.sheet.specs.Places.{position, at_position}
use Rattle.sheet.specs.Data.{width_of}
use Rattle.sheet.specs.Agree.{Keeps}
use Rattle.laws.proofs.Ranges.{InRange, range-of, in-range}
use Rattle.laws.proofs.Steps.{many, stays_in, columns_move}

module _ (K : Part) (x n : ℕ) (c : Chip) (h : InRange K c.registers) where
  -- so the registers are n columns on
  pub placed : (after_columns K x n c).registers ≡ at_position K c.registers (position K c.registers + n)
  placed = columns_move K x n c ∙ many K n c.registers h.p-in h.a_in

  -- in range
  pub still_in : InRange K (after_columns K x n c).registers
  still_in = subst (InRange K) (sym placed) (stays_in K (position K c.registers + n) c.registers h)

-- ---- a byte keeps a chip's registers in range, if the commands do

module _ (K : Part) (keeps : Keeps K) where
  kind_still_in : (k : Kind) (x : ℕ) (c : Chip) → in_range K c.registers ≡ true → in_range K (chip_byte_of K k x c).registers ≡ true
  unfolding chip_data
  kind_still_in Kind.Command x c i = keeps c.registers x i
  kind_still_in Kind.Data x c i = in-range K _ (still_in K x (width_of (backplanes c.registers)) c (range-of K c.registers i))

  pub byte_still_in : (e : Expect) (x : ℕ) (c : Chip) → in_range K c.registers ≡ true → in_range K (chip_byte K e x c).registers ≡ true
  byte_still_in Control x c i = i
  byte_still_in (One k) x c i = kind_still_in k x c i
  byte_still_in (All k) x c i = kind_still_in k x c i
