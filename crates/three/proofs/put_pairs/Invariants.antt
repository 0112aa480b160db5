use Prim.Native.Nat.{◌*◌}
use lib.ListN.{length}
use Rattle.sheet.specs.Parts.{part_of}
use Rattle.three.proofs.Putting.{step_of, Putting}
use Rattle.three.proofs.put_pairs.Given as goal

abbrev pub invariant-loop-i : goal.invariant-loop-i
invariant-loop-i l = Putting (part_of l.part) (step_of (part_of l.part)) (length l.wanted) 0 l.wanted l.initial.out l.out (l.size * l.i) (l.columns * l.i)
