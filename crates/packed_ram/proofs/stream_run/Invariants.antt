use Prim.Native.Nat.{◌*◌}
use Rattle.sheet.specs.Registers.{bank_row}
use Rattle.packed_sheet.specs.Packed.{unpacked}
use Rattle.packed_ram.proofs.Stream.{Streaming}
use Rattle.packed_ram.proofs.stream_run.Given as goal

abbrev pub invariant-loop-i : goal.invariant-loop-i
invariant-loop-i l = Streaming l.m (bank_row l.m l.bank) (2 * l.at) l.shift l.before l.bytes (unpacked l.initial.ram) (unpacked l.ram) l.last l.i
