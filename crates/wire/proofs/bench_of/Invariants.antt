use mathlib.Core.Path.{◌≡◌}
use mathlib.Core.List.{List}
use Prim.Native.Nat.{ℕ, ◌≤◌}
use lib.ListN.{length, take}
use Rattle.sheet.specs.declared.Chip.{Chip}
use Rattle.wire.specs.Bytes.{list_in}
use Rattle.wire.proofs.bench_of.Given as goal

-- the first i chips are read
pub record Filled (bytes : List ℕ) (count : ℕ) (chips : List Chip) (i : ℕ) : Type 0 where
  pub size : length chips ≡ 16
  pub so_far : take i chips ≡ list_in i bytes
  pub most : i ≤ count

abbrev pub invariant-loop-i : goal.invariant-loop-i
invariant-loop-i l = Filled l.bytes l.count l.chips l.i
