-- Backplanes go by M alone.
-- Assumes nothing.
use mathlib.Core.Path.{◌≡◌, refl}
use Prim.Native.Nat.{ℕ}
use Rattle.sheet.specs.declared.Registers.{Registers}
use Rattle.sheet.specs.Registers.{backplanes}
use Rattle.writer_sheet.specs.Writer.{set_to}

pub by_mode : (mode bank : ℕ) (r : Registers) → backplanes (set_to mode 0 r) ≡ backplanes (set_to mode bank r)
unfolding backplanes
by_mode mode bank r = refl
