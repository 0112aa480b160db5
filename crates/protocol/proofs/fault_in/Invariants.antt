use mathlib.Core.Path.{◌≡◌}
use Prim.Native.Nat.{◌≤◌, max}
use lib.ListN.{length, drop}
use Rattle.sheet.specs.declared.Expect.{Expect}
use Rattle.sheet.specs.Parts.{part_of}
use Rattle.sheet.specs.Checks.{fault_in}
use Rattle.protocol.proofs.fault_in.Given as goal

abbrev pub invariant-loop-i : goal.invariant-loop-i
invariant-loop-i l = (l.i ≤ max l.from (length l.bytes)) × (fault_in (part_of l.part) l.cut l.marks l.expect l.i (drop l.i l.bytes) ≡ fault_in (part_of l.part) l.cut l.initial.marks Expect.Control l.from (drop l.from l.bytes))
