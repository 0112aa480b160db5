use mathlib.Core.Path.{◌≡◌}
use Prim.Native.Nat.{◌≤◌}
use lib.ListN.{drop}
use Rattle.glyphs.specs.Tables.{first_lit, second_lit, arranged}
use Rattle.glyphs.proofs.arranged.Given as goal

abbrev pub invariant-loop-i : goal.invariant-loop-i
invariant-loop-i l = (l.i ≤ 8) × (l.first ≡ arranged (drop l.i l.order) first_lit) × (l.second ≡ arranged (drop l.i l.order) second_lit)
