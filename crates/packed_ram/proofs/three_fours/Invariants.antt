use Prim.Native.Nat.{◌*◌}
use Rattle.packed_sheet.specs.Packed.{unpacked}
use Rattle.ram.proofs.Runs.{Running}
use Rattle.packed_ram.proofs.three_fours.Given as goal

abbrev pub invariant-loop-four : goal.invariant-loop-four
invariant-loop-four l = Running 3 0 (2 * l.at) l.bytes (unpacked l.initial.ram) (unpacked l.ram) (4 * l.four)
