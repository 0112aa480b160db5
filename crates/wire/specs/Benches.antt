-- A bench that holds a list of chips, whatever stands in the places after them. Assumes nothing.
use Rattle.std.specs.Prelude.{◌≡◌, List, ℕ, ◌≤◌, length, take}
use Rattle.sheet.specs.declared.Chip.{Chip}
use Rattle.plain.specs.declared.Bench.{Bench}

pub record Holds (n : ℕ) (cs : List Chip) (b : Bench) : Type 0 where
  pub count : b.count ≡ n
  pub few : n ≤ 16
  pub size : length b.chips ≡ 16
  pub first : take n b.chips ≡ cs
