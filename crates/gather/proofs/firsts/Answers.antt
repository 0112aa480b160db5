-- `gather::firsts` meets its contract.
-- Assumes nothing.
use native.Mathlib.Omega.{arith}
use Rattle.words.specs.Fields.{column_of}
use Rattle.gather.proofs.firsts.Goals as goal

pub returns : goal.returns
unfolding column_of
returns c = omega arith
