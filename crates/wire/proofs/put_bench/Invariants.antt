use mathlib.Core.Path.{◌≡◌}
use mathlib.Core.List.{List}
use Prim.Native.Nat.{ℕ, ◌*◌, ◌≤◌}
use lib.ListN.{length, take}
use Rattle.sheet.specs.declared.Chip.{Chip}
use Rattle.wire.specs.Bytes.{list_bytes}
use Rattle.wire.proofs.put_bench.Given as goal

-- the first i chips are written
pub record Put (chips : List Chip) (count : ℕ) (out : List ℕ) (i : ℕ) : Type 0 where
  pub size : length out ≡ 174 * count
  pub so_far : take (174 * i) out ≡ list_bytes (take i chips)
  pub most : i ≤ count

abbrev pub invariant-loop-i : goal.invariant-loop-i
invariant-loop-i l = Put l.chips l.count l.out l.i
