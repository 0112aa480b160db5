use Prim.Native.Nat.{◌-◌}
use lib.ListN.{length}
use Rattle.sheet.specs.Parts.{part_of}
use Rattle.packed_sheet.specs.Packed.{columns_in}
use Rattle.hearing.proofs.Hearing.{Hearing}
use Rattle.hearing.proofs.hear_bytes.Given as goal

abbrev pub invariant-loop-i : goal.invariant-loop-i
invariant-loop-i l = Hearing (part_of l.part) (columns_in l.packed l.initial.ram) l.bytes l.initial.listener.registers l.from (columns_in l.packed l.ram) l.listener l.i

abbrev pub decreases-loop-i : goal.decreases-loop-i
decreases-loop-i l = length l.bytes - l.i
