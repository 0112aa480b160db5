-- `refused::registers_fit` meets its contract.
-- Assumes nothing.
use mathlib.Core.Path.{ap₂}
use mathlib.Core.Bool.{◌&&◌}
use Rattle.refused.proofs.registers_fit.Goals as goal

pub returns : goal.returns
returns c = ap₂ ◌&&◌ c.in_range.ensures c.in_range-2.ensures
