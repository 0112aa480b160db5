-- What is asked of a group that hears, of the bytes, and of the place from which they are heard.
use Rattle.std.specs.Prelude.{ℕ, ◌≤◌, ◌<◌, ◌≡◌, true, List, length, Ok}
use Rattle.sheet.specs.declared.Registers.{Registers}
use Rattle.sheet.specs.Parts.{Part}
use Rattle.sheet.specs.Registers.{in_range}
use Rattle.sheet.specs.Checks.{over_in}

pub record Hears (K : Part) (ram : List ℕ) (r : Registers) (bytes : List ℕ) (from : ℕ) : Type 0 where
  pub range : in_range K r ≡ true
  pub few : length ram ≤ 640
  pub nibbles : over_in 0 ram ≡ Ok tt
  pub short : length bytes < 4097
  pub place : from ≤ length bytes
