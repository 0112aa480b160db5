-- The rows of columns from a first one on, as they are written, and their lit elements.
use Rattle.std.specs.Prelude.{ℕ, ◌%◌, ◌≤◌, ◌<◌, ◌≡◌, List, map, length, get_or, Some}
use Rattle.sheet.specs.Pictures.{lit, lit_in}

abbrev pub rows_of : ℕ → ℕ → List ℕ → List ℕ
rows_of first height columns = map (lit height (Some first)) columns

pub record Drawn : Type 0 where
  pub lit : ℕ
  pub out : List ℕ

abbrev pub drawn : ℕ → ℕ → List ℕ → Drawn
drawn first height columns = record { lit = lit_in (rows_of first height columns); out = rows_of first height columns }

-- at most four rows, which are rows of a byte, a buffer of the columns' length, and columns in whole turns
pub record Drawable (columns : List ℕ) (first height : ℕ) (out : List ℕ) : Type 0 where
  pub size : length out ≡ length columns
  pub below : first < 8
  pub rows : height < 5
  pub turns : length columns % 80 ≡ 0
  pub most : length columns ≤ 1280

-- so few columns that a byte counts them
pub record Few (columns : List ℕ) (first height : ℕ) (out : List ℕ) : Type 0 where
  pub size : length out ≡ length columns
  pub below : first < 8
  pub rows : height < 5
  pub most : length columns ≤ 48

-- at most four rows a column
abbrev pub Low : List ℕ → Type 0
Low columns = (i : ℕ) → get_or columns i 0 < 16
