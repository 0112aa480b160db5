-- `cabi::humtrellis_packed_transfer` meets its contract.
-- Assumes nothing.
use mathlib.Core.Path.{sym}
use Rattle.cabi.specs.Calls.{chips_of}
use Rattle.cabi.proofs.Repacked.{transfer_packs}
use Rattle.cabi.proofs.humtrellis_packed_transfer.Goals as goal

pub returns : goal.returns
returns c = let a = c.args in
    sym (transfer_packs a.part (chips_of a.zero a.one) a.registers.now a.ram.now a.answer.now _ c.transfer.new.ram (rw c.bus_of-bus.ensures at c.transfer.ensures))
