use mathlib.Core.Path.{◌≡◌}
use Prim.Native.Nat.{◌*◌, ◌≤◌}
use lib.ListN.{take}
use Rattle.sheet.specs.Pictures.{lit_in}
use Rattle.picture.proofs.count_some.Given as goal

abbrev pub invariant-loop-column : goal.invariant-loop-column
invariant-loop-column l = (l.ones ≡ lit_in (take l.column-index l.columns)) × (l.ones ≤ 4 * l.column-index)
