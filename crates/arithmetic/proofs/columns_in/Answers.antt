-- `arithmetic::columns_in` meets its contract: a part's columns are few.
-- Assumes nothing.
use native.Mathlib.Nat.{mul-le-mul_right}
use native.Mathlib.Omega.{arith}
use Rattle.laws.proofs.Named.{columns-small}
use Rattle.arithmetic.proofs.columns_in.Goals as goal

pub overflow_mul-result : goal.overflow_mul-result
overflow_mul-result c = rw c.columns.ensures (omega (arith, mul-le-mul_right c.args.chips (columns-small c.args.part)))
