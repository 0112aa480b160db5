-- `ram::three_bytes` meets its contract: after i turns the first i bytes are written.
-- Assumes nothing.
use Rattle.ram.proofs.Runs.{begun, turn}
use Rattle.ram.proofs.three_bytes.Goals as goal

pub loop-i-init : goal.loop-i-init
loop-i-init c = begun

pub loop-i-preserved : goal.loop-i-preserved
loop-i-preserved c = turn c.loop-i-test.true c.three_byte.ensures c.loop-i.invariant
