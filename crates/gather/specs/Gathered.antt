-- Columns side by side in a word, and what the functions that gather bytes may rely on.
use Rattle.std.specs.Prelude.{ℕ, zero, suc, ◌+◌, ◌*◌, ◌/◌, ◌%◌, ◌^◌, ◌≤◌, ◌<◌, ◌≡◌, List, [], ◌∷◌, ◌++◌, length, get_or}
use Rattle.std.specs.Int.Bits.{bit_and, bit_or}
use Rattle.sheet.specs.Data.{width_of}
use Rattle.writer_sheet.specs.Writer.{bytes_for}

-- four columns as a word, the first lowest
abbrev pub side : ℕ → ℕ → ℕ → ℕ → ℕ
side w x y z = (((0 * 256 + z) * 256 + y) * 256 + x) * 256 + w

-- two columns of four rows in a byte, the first in its upper half
abbrev pub pair_at : List ℕ → ℕ → ℕ
pair_at columns c = get_or columns c 0 % 16 * 16 + get_or columns (c + 1) 0 % 16

-- in each byte of a word bits 2 and 4 change places, and bits 5 and 7; bits 3 and 6 stay
abbrev pub turned_three : ℕ → ℕ
turned_three w = bit_or (bit_or (bit_and w 0x24242424 * 4) (bit_and (w / 4) 0x24242424)) (bit_and w 0x48484848)

-- the rows of both columns of a byte the other way round
abbrev pub turned_four : ℕ → ℕ
turned_four x = let s = bit_or (bit_and x 0x33 * 4) (bit_and (x / 4) 0x33) in bit_or (bit_and s 0x55 * 2) (bit_and (s / 2) 0x55)

-- the first n two columns, so
unfoldable pub pairs_at : ℕ → List ℕ → List ℕ
pairs_at zero columns = []
pairs_at (suc j) columns = pairs_at j columns ++ (pair_at columns (2 * j) ∷ [])

-- static or 1:2, a bank, and bytes whose columns are all there
pub record ByBytes (columns : List ℕ) (m bank : ℕ) (out : List ℕ) : Type 0 where
  pub some : 0 < m
  pub few : m < 3
  pub two : bank < 2
  pub fit : width_of m * length out ≤ length columns

-- 1:3, and bytes by four whose columns are all there
pub record ByWords (columns out : List ℕ) : Type 0 where
  pub words : length out % 4 ≡ 0
  pub fit : 3 * length out ≤ length columns

-- one to four backplanes, a bank, columns by sixteen as the chips have them, and bytes for all
pub record Gathered (columns : List ℕ) (m bank : ℕ) (out : List ℕ) : Type 0 where
  pub some : 0 < m
  pub four : m < 5
  pub two : bank < 2
  pub sixteen : length columns % 16 ≡ 0
  pub all : length out ≡ bytes_for m (length columns)
  pub near : length columns < 2 ^ 32
