use mathlib.Core.Path.{◌≡◌}
use Prim.Native.Nat.{◌-◌, ◌*◌, ◌%◌, ◌≤◌}
use lib.ListN.{length}
use Rattle.packed_sheet.specs.Packed.{unpacked}
use Rattle.picture.proofs.Drawing.{Drawing}
use Rattle.picture.proofs.draw_packed.Given as goal

abbrev pub invariant-loop-start : goal.invariant-loop-start
invariant-loop-start l = Drawing l.first l.height (unpacked l.ram) l.out l.lit (2 * l.start) × (l.start % 40 ≡ 0) × (l.start ≤ length l.ram)

abbrev pub decreases-loop-start : goal.decreases-loop-start
decreases-loop-start l = length l.ram - l.start
