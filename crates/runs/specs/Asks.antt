-- What the writers of runs ask for, over the columns.
use Rattle.std.specs.Prelude.{ℕ, ◌<◌, ◌≡◌, true, List, length, Ok}
use Rattle.sheet.specs.declared.Registers.{Registers}
use Rattle.sheet.specs.Parts.{Part}
use Rattle.sheet.specs.Registers.{in_range}
use Rattle.sheet.specs.Checks.{over_in}

-- from column v on, in a mode and a bank
pub record Run (ram : List ℕ) (v m bank : ℕ) (bytes : List ℕ) : Type 0 where
  pub some : 0 < m
  pub four : m < 5
  pub two : bank < 2
  pub near : v < 65536
  pub short : length bytes < 65536
  pub few : length ram < 65536
  pub nibbles : over_in 0 ram ≡ Ok tt

-- from where the registers point
pub record Writable (K : Part) (ram : List ℕ) (r : Registers) (bytes : List ℕ) : Type 0 where
  pub range : in_range K r ≡ true
  pub short : length bytes < 65536
  pub few : length ram < 65536
  pub nibbles : over_in 0 ram ≡ Ok tt
