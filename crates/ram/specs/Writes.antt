-- What is asked of the bytes of a run, whole or cut, over the columns.
use Rattle.std.specs.Prelude.{ℕ, ◌+◌, ◌-◌, ◌*◌, ◌^◌, ◌≤◌, ◌<◌, ◌≡◌, List, length, Ok}
use Rattle.sheet.specs.Checks.{over_in}
use Rattle.sheet.specs.Data.{width_of}

-- bytes whose columns are all there
pub record Whole (ram : List ℕ) (v m bank : ℕ) (bytes : List ℕ) : Type 0 where
  pub some : 0 < m
  pub four : m < 5
  pub two : bank < 2
  pub fit : width_of m * length bytes ≤ length ram - v
  pub nibbles : over_in 0 ram ≡ Ok tt

-- bytes that do not fit: the first of them reaches the end
pub record Cut (ram : List ℕ) (at m bank : ℕ) (rest : List ℕ) : Type 0 where
  pub some : 0 < m
  pub four : m < 5
  pub two : bank < 2
  pub near : at < 2 ^ 32
  pub edge : 0 < length rest → length ram ≤ at + width_of m
