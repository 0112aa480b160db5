-- `packed_ram::earlier_byte` meets its contract.
-- Assumes nothing.
use mathlib.Core.Path.{ap₂}
use Prim.Native.Nat.{ℕ, ◌+◌, ◌*◌, ◌/◌, ◌%◌, ◌^◌}
use Rattle.packed_ram.specs.Stream.{earlier}
use Rattle.packed_ram.proofs.earlier_byte.Goals as goal

pub returns : goal.returns
unfolding earlier
returns c = ap₂ (λ (p x : ℕ). (p * 256 + x) / 2 ^ c.args.shift % 256) c.wide.ensures.0 c.wide-2.ensures.0
