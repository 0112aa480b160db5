-- `cabi::humtrellis_power_on` meets its contract: the call of the bus that it is told of.
-- Assumes nothing.
use Rattle.cabi.proofs.humtrellis_power_on.Goals as goal

pub returns : goal.returns
returns c = rw c.bus_of-bus.ensures at c.power_on.ensures
