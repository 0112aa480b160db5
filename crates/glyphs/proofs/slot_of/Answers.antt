-- `glyphs::slot_of` meets its contract: the product of a byte and a number below 2 ^ 32 fits.
-- Assumes nothing.
use Prim.Native.Nat.{◌≤◌}
use native.Mathlib.Nat.{mul-le-mul_left}
use native.Mathlib.Omega.{arith}
use Rattle.glyphs.proofs.slot_of.Goals as goal

pub overflow_mul-result : goal.overflow_mul-result
overflow_mul-result c = let most : c.args.factor ≤ 0x100000000 = omega (arith, c.requires) in omega (arith, mul-le-mul_left c.args.byte most)
