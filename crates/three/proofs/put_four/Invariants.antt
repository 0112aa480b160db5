use Prim.Native.Nat.{◌+◌, ◌*◌}
use Rattle.sheet.specs.Parts.{part_of}
use Rattle.three.proofs.Putting.{step_of, Putting}
use Rattle.three.proofs.put_four.Given as goal

abbrev pub invariant-loop-i : goal.invariant-loop-i
invariant-loop-i l = Putting (part_of l.part) (step_of (part_of l.part)) 8 (l.c + l.p) l.wanted l.initial.out l.out (l.size * l.i) (2 * l.i)
