-- `arithmetic::at_position` meets its contract.
-- Assumes nothing.
use mathlib.Core.Path.{ap₂}
use native.Mathlib.Omega.{arith}
use Rattle.sheet.specs.Registers.{at_place}
use Rattle.sheet.specs.Places.{at_position}
use Rattle.laws.proofs.Named.{limit-small}
use Rattle.arithmetic.proofs.at_position.Goals as goal

pub returns : goal.returns
unfolding at_position
returns c = ap₂ (at_place c.args.registers) c.column_of.ensures (omega (arith, limit-small c.args.part))
