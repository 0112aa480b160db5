use mathlib.Core.Path.{◌≡◌}
use Prim.Native.Nat.{◌-◌, ◌%◌, ◌≤◌}
use lib.ListN.{length}
use Rattle.picture.proofs.Drawing.{Drawing}
use Rattle.picture.proofs.draw.Given as goal

abbrev pub invariant-loop-start : goal.invariant-loop-start
invariant-loop-start l = Drawing l.first l.height l.columns l.out l.lit l.start × (l.start % 80 ≡ 0) × (l.start ≤ length l.columns)

abbrev pub decreases-loop-start : goal.decreases-loop-start
decreases-loop-start l = length l.columns - l.start
