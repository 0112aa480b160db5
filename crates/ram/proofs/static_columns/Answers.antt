-- `ram::static_columns` meets its contract: no column carries into the next, since a bit and what it lacks to 80 are at most 80.
-- Assumes nothing.
use mathlib.Core.Path.{ap}
use Prim.Native.Nat.{ℕ, ◌+◌, ◌-◌, ◌*◌, ◌/◌, ◌^◌}
use native.Mathlib.Omega.{arith}
use lib.Bits.{bit_and, and_le_r}
use Rattle.ram.specs.Tables.{static_columns}
use Rattle.ram.proofs.static_columns.Goals as goal

pub overflow_add-result : goal.overflow_add-result
overflow_add-result c = omega (arith, and_le_r (16843009 * c.wide-copies.result) c.args.masks, c.requires.0)

pub returns : goal.returns
unfolding static_columns
returns c = let a = c.args in ap (λ (n : ℕ). (bit_and (16843009 * n) a.masks + (2155905152 - a.masks)) / 2 ^ a.shift) c.wide-copies.ensures.0
