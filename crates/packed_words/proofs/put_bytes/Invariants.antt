use mathlib.Core.Path.{◌≡◌}
use mathlib.Core.List.{List}
use Prim.Native.Nat.{ℕ}
use lib.ListN.{length}
use Rattle.words.specs.Fields.{merged}
use Rattle.packed_words.proofs.put_bytes.Given as goal

pub record Merging (rows t at : ℕ) (ram₀ ram : List ℕ) (j : ℕ) : Type 0 where
  pub so_far : ram ≡ merged j rows t at ram₀
  pub long : length ram ≡ length ram₀

abbrev pub invariant-loop-j : goal.invariant-loop-j
invariant-loop-j l = Merging l.rows l.t l.at l.initial.ram l.ram l.j
