-- `gather::byte_data` meets its contract: after j turns the first j bytes are there.
-- Assumes nothing.
use Prim.Native.Nat.{ℕ, ◌+◌, ◌*◌, ◌≤◌, ◌<◌}
use native.Mathlib.Nat.{mul-le-mul_left}
use native.Mathlib.Omega.{arith}
use Rattle.sheet.specs.Data.{width_of}
use Rattle.gather.proofs.Gathering.{begun, turn}
use Rattle.gather.proofs.byte_data.Goals as goal

-- the byte's columns are there
there : (m j n size : ℕ) → j < n → width_of m * n ≤ size → width_of m * (j + 1) ≤ size
there m j n size l fit = let more : j + 1 ≤ n = omega arith in omega (arith, mul-le-mul_left (width_of m) more, fit)

pub loop-j-init : goal.loop-j-init
loop-j-init c = begun

pub loop-j-preserved : goal.loop-j-preserved
loop-j-preserved c = turn c.loop-j-test.true c.byte_of.ensures c.loop-j.invariant
