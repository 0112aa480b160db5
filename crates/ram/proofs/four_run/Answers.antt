-- `ram::four_run` meets its contract: after i turns the first i bytes are written.
-- Assumes nothing.
use native.Mathlib.Omega.{arith}
use Rattle.laws.proofs.Nibbles.{check-nibbles}
use Rattle.ram.proofs.Runs.{begun, turn, small}
use Rattle.ram.proofs.four_run.Goals as goal

pub four_byte-requires : goal.four_byte-requires
four_byte-requires c = (
  omega (arith, c.loop-i.invariant.long, c.loop-i-test.true),
  check-nibbles 0 c.loop-i.ram (small (omega arith) (omega arith) c.requires.1 c.loop-i.invariant),
)

pub loop-i-init : goal.loop-i-init
loop-i-init c = begun

pub loop-i-preserved : goal.loop-i-preserved
loop-i-preserved c = turn c.loop-i-test.true c.four_byte.ensures c.loop-i.invariant
