use mathlib.Core.Path.{◌≡◌}
use mathlib.Core.List.{List}
use Prim.Native.Nat.{ℕ}
use lib.ListN.{length}
use Rattle.sheet.specs.Data.{put_bits}
use Rattle.ram.proofs.put_bits.Given as goal

pub record Putting (ram₀ : List ℕ) (at m b x : ℕ) (ram : List ℕ) (k : ℕ) : Type 0 where
  pub so_far : ram ≡ put_bits k m b at x ram₀
  pub long : length ram ≡ length ram₀

abbrev pub invariant-loop-k : goal.invariant-loop-k
invariant-loop-k l = Putting l.initial.ram l.at l.m l.b l.x l.ram l.k
