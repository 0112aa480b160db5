-- `gather::three_data` meets its contract: the bytes by four, and then one by one.
-- Assumes nothing.
use Rattle.gather.proofs.Gathering.{turn}
use Rattle.gather.proofs.three_data.Goals as goal

pub loop-j-preserved : goal.loop-j-preserved
loop-j-preserved c = turn c.loop-j-test.true c.three_byte.ensures c.loop-j.invariant
