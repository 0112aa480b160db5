-- Columns of four bits in a word, and a byte's rows put into several of them at once: what the functions over packed columns promise.
-- `proofs/Placed.antt` proves them equal to the single bits of `sheet`.
use Rattle.std.specs.Prelude.{ℕ, zero, suc, ◌+◌, ◌-◌, ◌*◌, ◌/◌, ◌%◌, ◌^◌, ◌<◌, min, ◌≡◌, cond, List, ltb}
use Rattle.sheet.specs.Registers.{bank_row}
use Rattle.sheet.specs.Data.{width_of, changed}
use Rattle.words.specs.Fields.{field, mixed}

-- column j of a word
unfoldable pub nibble_of : ℕ → ℕ → ℕ
nibble_of w j = w / 2 ^ (4 * j) % 16

-- n columns from v on, each with the rows in its column of the word r made those of t
unfoldable pub placed : ℕ → ℕ → ℕ → ℕ → List ℕ → List ℕ
placed zero r t v ram = ram
placed (suc n) r t v ram = changed (mixed (nibble_of r n) (nibble_of t n)) (v + n) (placed n r t v ram)

-- the rows that a byte sets in its column j: m, and in 1:3 two of the last
abbrev pub height : ℕ → ℕ → ℕ
height m j = min m (8 - m * j)

-- r is the word of the rows that a byte sets in its columns, in a bank
pub record RowsWord (m bank r : ℕ) : Type 0 where
  pub rows : (j : ℕ) → j < width_of m → nibble_of r j ≡ (2 ^ height m j - 1) * 2 ^ bank_row m bank
  pub small : r < 2 ^ (4 * width_of m)

-- where there are banks, a row of both: 5 is row 0 and row 2
abbrev pub in_banks : ℕ → ℕ
in_banks m = cond (ltb m 3) 5 1

-- t is the word of a byte's columns
pub record Word (m x t : ℕ) : Type 0 where
  pub columns : (j : ℕ) → j < width_of m → nibble_of t j ≡ in_banks m * field x (m * j) (height m j)
  pub small : t < 2 ^ (4 * width_of m)

-- the rows that four bytes set in their twelve columns in 1:3
abbrev pub twelve_rows : ℕ
twelve_rows = 0x377377377377
