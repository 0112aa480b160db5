use mathlib.Core.Path.{◌≡◌}
use mathlib.Core.List.{List}
use Prim.Native.Nat.{ℕ}
use Rattle.sheet.specs.declared.Registers.{Registers}
use Rattle.sheet.specs.Parts.{Part, part_of}
use Rattle.sheet.specs.Places.{advanced_by}
use Rattle.columns.specs.Stored.{columns_after}
use Rattle.columns.proofs.put_columns.Given as goal

-- the first j columns are put
pub record Put (K : Part) (subaddress byte : ℕ) (r₀ : Registers) (columns₀ : List ℕ) (columns : List ℕ) (r : Registers) (j : ℕ) : Type 0 where
  pub so_far : columns ≡ columns_after K subaddress byte r₀ j columns₀
  pub moved : r ≡ advanced_by K j r₀

abbrev pub invariant-loop-j : goal.invariant-loop-j
invariant-loop-j l = Put (part_of l.part) l.subaddress l.byte l.initial.registers l.initial.columns l.columns l.registers l.j
