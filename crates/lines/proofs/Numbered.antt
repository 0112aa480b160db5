-- A record's lines are told by the numbers of its answer: what the model has acknowledged is the third.
-- Assumes nothing.
use mathlib.Core.Path.{◌≡◌, refl}
use Prim.Native.Nat.{ℕ}
use Rattle.std.specs.Prelude.{Err, Ok}
use Rattle.sheet.specs.Results.{Answer}
use Rattle.sheet.specs.Parts.{pcf8532}
use Rattle.sheet.specs.Refusals.{numbers}
use Rattle.log_sheet.specs.Logs.{record_lines}
use Rattle.lines.specs.Numbered.{numbered_lines}

pub by-numbers : (seen i count : ℕ) (answer : Answer) → record_lines seen i count answer ≡ numbered_lines seen i count (numbers pcf8532 answer)
by-numbers seen i count (Ok t) = refl
by-numbers seen i count (Err r) = refl
