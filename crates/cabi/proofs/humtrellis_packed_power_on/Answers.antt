-- `cabi::humtrellis_packed_power_on` meets its contract.
-- Assumes nothing.
use mathlib.Core.Path.{sym}
use Rattle.cabi.specs.Calls.{chips_of}
use Rattle.cabi.proofs.Repacked.{power_on_packs}
use Rattle.cabi.proofs.humtrellis_packed_power_on.Goals as goal

pub returns : goal.returns
returns c = let a = c.args in
    sym (power_on_packs a.part (chips_of a.zero a.one) a.registers.now a.ram.now a.answer.now (rw c.bus_of-bus.ensures at c.power_on.ensures))
