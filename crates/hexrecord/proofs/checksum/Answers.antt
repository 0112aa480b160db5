-- `hexrecord::checksum` meets its contract: the sum of both parts, and what is left to 256.
-- Assumes nothing.
use native.Mathlib.Omega.{arith}
use Rattle.laws.proofs.Hexadecimal.{sum-append}
use Rattle.hexrecord.proofs.checksum.Goals as goal

pub returns : goal.returns
returns c = omega (arith, c.sum.ensures, c.sum-2.ensures, sum-append c.args.head.now c.args.columns.now)
