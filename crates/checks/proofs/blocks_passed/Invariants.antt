use mathlib.Core.Path.{◌≡◌}
use Prim.Native.Nat.{◌+◌, ◌*◌}
use lib.ListN.{drop}
use Rattle.checks.specs.Highest.{first_over}
use Rattle.checks.proofs.blocks_passed.Given as goal

abbrev pub invariant-loop-block : goal.invariant-loop-block
invariant-loop-block l = 32 * l.block + first_over (drop (32 * l.block) l.columns) ≡ first_over l.columns
