use mathlib.Core.Path.{◌≡◌}
use Prim.Native.Nat.{ℕ, ◌≤◌}
use lib.ListN.{get_or}
use Rattle.lemmas.proofs.Mapped.{Mapped}
use Rattle.gather.specs.Gathered.{turned_four}
use Rattle.gather.proofs.turn_pairs.Given as goal

abbrev pub invariant-loop-pair : goal.invariant-loop-pair
invariant-loop-pair l = Mapped turned_four l.initial.out l.out l.pair-index × ((k : ℕ) → l.pair-index ≤ k → get_or l.out k 0 ≡ get_or l.initial.out k 0)
