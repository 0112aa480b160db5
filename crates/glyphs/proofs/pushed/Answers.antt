-- `glyphs::pushed` meets its contract.
-- Assumes nothing.
use mathlib.Core.Path.{refl}
use Prim.Native.Nat.{◌/◌}
use native.Mathlib.Omega.{arith}
use lib.Bits.{and_le_r}
use Rattle.glyphs.specs.Tables.{pushed}
use Rattle.glyphs.proofs.pushed.Goals as goal

pub returns : goal.returns
unfolding pushed
returns c = refl

pub overflow_mul-result : goal.overflow_mul-result
overflow_mul-result c = omega (arith, and_le_r (c.args.lit / c.args.segment) 0x0101010101010101)
