use Rattle.packed_sheet.specs.Packed.{unpacked}
use Rattle.ram.proofs.Runs.{Running}
use Rattle.packed_ram.proofs.three_bytes.Given as goal

abbrev pub invariant-loop-i : goal.invariant-loop-i
invariant-loop-i l = Running 3 0 l.v l.bytes (unpacked l.initial.ram) (unpacked l.ram) l.i
