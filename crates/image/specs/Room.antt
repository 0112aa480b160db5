-- What the writers of a file ask.
-- Assumes nothing.
use Rattle.std.specs.Prelude.{◌≡◌, List, ℕ, ◌%◌, ◌≤◌, ◌<◌, length}

-- whole sixteens of columns, whose addresses fit two bytes, and room for the text
pub record Room (ram text out : List ℕ) : Type 0 where
  pub sixteens : length ram % 16 ≡ 0
  pub near : length ram < 65536
  pub room : length text ≤ length out
