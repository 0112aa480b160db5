use mathlib.Core.Path.{◌≡◌}
use lib.ListN.{length, take}
use Rattle.gather.specs.Gathered.{pairs_at}
use Rattle.gather.proofs.put_pairs.Given as goal

abbrev pub invariant-loop-j : goal.invariant-loop-j
invariant-loop-j l = (take l.j l.out ≡ pairs_at l.j l.columns) × (length l.out ≡ length l.initial.out)
