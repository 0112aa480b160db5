use mathlib.Core.Path.{◌≡◌}
use Prim.Native.Nat.{max}
use lib.ListN.{drop}
use Rattle.checks.specs.Highest.{highest_of}
use Rattle.checks.proofs.highest.Given as goal

abbrev pub invariant-loop-column : goal.invariant-loop-column
invariant-loop-column l = max l.found (highest_of (drop l.column-index l.columns)) ≡ highest_of l.columns
