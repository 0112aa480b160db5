-- `three::byte_size` meets its contract.
-- Assumes nothing.
use mathlib.Core.Path.{ap}
use Prim.Native.Nat.{ℕ, ◌+◌, ◌*◌}
use native.Mathlib.Omega.{arith}
use Rattle.laws.proofs.Named.{pointer-bytes}
use Rattle.three.proofs.byte_size.Goals as goal

pub overflow_mul-result : goal.overflow_mul-result
overflow_mul-result c = omega (arith, c.pointers.ensures, (pointer-bytes c.args.part).1)

pub overflow_add-result : goal.overflow_add-result
overflow_add-result c = omega (arith, c.pointers.ensures, (pointer-bytes c.args.part).1)

pub returns : goal.returns
returns c = ap (λ (k : ℕ). 4 + 2 * k) c.pointers.ensures
