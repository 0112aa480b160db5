use mathlib.Core.Path.{◌≡◌}
use Prim.Native.Nat.{◌-◌, ◌%◌}
use Rattle.sheet.specs.Parts.{part_of}
use Rattle.three.proofs.Putting.{step_of, Putting}
use Rattle.three.proofs.put_chip.Given as goal

abbrev pub invariant-loop-p : goal.invariant-loop-p
invariant-loop-p l = (l.p % 8 ≡ 0) × Putting (part_of l.part) (step_of (part_of l.part)) (part_of l.part).columns l.c l.wanted l.initial.out l.out l.at l.p

abbrev pub decreases-loop-p : goal.decreases-loop-p
decreases-loop-p l = (part_of l.part).columns - l.p
