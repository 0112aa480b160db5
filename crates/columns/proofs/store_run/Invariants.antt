use mathlib.Core.Path.{◌≡◌}
use mathlib.Core.Bool.{true}
use mathlib.Core.List.{List}
use Prim.Native.Nat.{ℕ}
use lib.ListN.{length, drop}
use Rattle.sheet.specs.declared.Chip.{Chip}
use Rattle.sheet.specs.declared.Registers.{Registers}
use Rattle.sheet.specs.Parts.{Part, part_of}
use Rattle.sheet.specs.Registers.{in_range}
use Rattle.columns.specs.Stored.{ran_over}
use Rattle.columns.proofs.Apart.{with}
use Rattle.columns.proofs.store_run.Given as goal

-- the first i bytes are stored
pub record Stored (K : Part) (chip : Chip) (bytes : List ℕ) (columns : List ℕ) (r : Registers) (i : ℕ) : Type 0 where
  pub left : ran_over K (drop i bytes) (with chip columns r) ≡ ran_over K bytes chip
  pub right : in_range K r ≡ true
  pub same : length columns ≡ 160

abbrev pub invariant-loop-byte : goal.invariant-loop-byte
invariant-loop-byte l = Stored (part_of l.part) l.chip l.bytes l.columns l.registers l.byte-index
