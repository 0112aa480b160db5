-- When a bench of plain chips of a part and a long state are alike, and that both accounts leave them so, with the same answer.
use Rattle.std.specs.Prelude.{◌≡◌, List, map, ℕ, ◌≤◌, take, Ok}
use Rattle.sheet.specs.declared.Both.{Both}
use Rattle.sheet.specs.declared.Chips.{Chips}
use Rattle.sheet.specs.Parts.{part_of}
use Rattle.sheet.specs.Checks.{check_part}
use Rattle.sheet.specs.Long.{state_of}
use Rattle.sheet.specs.Agree.{chips_of, Valid, plainly, trimmed}
use Rattle.plain.specs.declared.Bench.{Bench}
use Rattle.accounts.specs.declared.Sides.{Sides}

-- the part is known, the state is valid, and the bench's first chips are its chips: their own columns, whatever stands behind them
pub record Alike (part : ℕ) (n : Chips) (r : Both) (ram : List ℕ) (b : Bench) : Type 0 where
  pub known : check_part part ≡ Ok tt
  pub valid : Valid (part_of part) n (state_of r ram)
  pub count : b.count ≤ 16
  pub chips : map (trimmed (part_of part)) (take b.count b.chips) ≡ chips_of (part_of part) n (state_of r ram)

-- after both transfers they are alike again, and the plain answer is the long one's, acknowledged only
pub record Agreed (part : ℕ) (n : Chips) (ram : List ℕ) (s : Sides) : Type 0 where
  pub alike : Alike part n s.long.registers ram s.plain.bench
  pub answer : s.plain.answer ≡ plainly s.long.answer
