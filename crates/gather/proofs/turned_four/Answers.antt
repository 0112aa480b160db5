-- `gather::turned_four` meets its contract.
-- Assumes nothing.
use Prim.Native.Nat.{◌*◌, ◌/◌}
use native.Mathlib.Omega.{arith}
use lib.Bits.{bit_and, bit_or, and_le_r}
use Rattle.gather.proofs.turned_four.Goals as goal

pub overflow_mul-swapped : goal.overflow_mul-swapped
overflow_mul-swapped c = omega (arith, and_le_r c.args.pair 0x33)

pub overflow_mul-result : goal.overflow_mul-result
overflow_mul-result c = omega (arith, and_le_r (bit_or (bit_and c.args.pair 0x33 * 4) (bit_and (c.args.pair / 4) 0x33)) 0x55)
