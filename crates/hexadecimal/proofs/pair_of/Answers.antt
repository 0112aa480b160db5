-- `hexadecimal::pair_of` meets its contract.
-- Assumes nothing.
use mathlib.Core.Path.{ap₂}
use Prim.Native.Nat.{ℕ, ◌+◌, ◌*◌}
use native.Mathlib.Omega.{arith}
use Rattle.hexadecimal.proofs.Digits.{value-most}
use Rattle.hexadecimal.proofs.pair_of.Goals as goal

pub returns : goal.returns
returns c = let a = c.args in
    (ap₂ (λ (h l : ℕ). 16 * h + l) c.value_of.ensures c.value_of-2.ensures, omega (arith, c.value_of.ensures, c.value_of-2.ensures, value-most a.high, value-most a.low))
