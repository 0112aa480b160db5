-- `cabi::humtrellis_packed_picture` meets its contract.
-- Assumes nothing.
use mathlib.Core.Path.{sym}
use Rattle.packed_sheet.specs.Packed.{picture_packed}
use Rattle.lent_long.specs.LongCalls.{picture_c}
use Rattle.cabi.specs.Calls.{packed_picture_c}
use Rattle.cabi.proofs.humtrellis_packed_picture.Goals as goal

pub returns : goal.returns
unfolding packed_picture_c picture_c picture_packed
returns c = sym (rw c.bus_of-bus.ensures at c.picture.ensures)
