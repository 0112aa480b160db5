-- `cabi::humtrellis_picture` meets its contract: the call of the bus that it is told of.
-- Assumes nothing.
use Rattle.cabi.proofs.humtrellis_picture.Goals as goal

pub returns : goal.returns
returns c = rw c.bus_of-bus.ensures at c.picture.ensures
