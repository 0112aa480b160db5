use mathlib.Core.Path.{◌≡◌}
use mathlib.Core.List.{List}
use Prim.Native.Nat.{ℕ, ◌*◌, min}
use Rattle.sheet.specs.Data.{put_bits}
use Rattle.columns.proofs.put_inside.Given as goal

-- the first j columns are put
pub record Put (m b byte at : ℕ) (columns₀ columns : List ℕ) (j : ℕ) : Type 0 where
  pub so_far : columns ≡ put_bits (min 8 (m * j)) m b at byte columns₀

abbrev pub invariant-loop-j : goal.invariant-loop-j
invariant-loop-j l = Put l.m l.b l.byte l.at l.initial.columns l.columns l.j
