-- Several rows of a column, several bits of a byte and several columns at once: what the functions that write whole columns promise.
-- `proofs/Fields.antt` and `proofs/Words.antt` prove them equal to the single rows and bits of `sheet`.
use Rattle.std.specs.Prelude.{ℕ, zero, suc, ◌+◌, ◌*◌, ◌/◌, ◌%◌, ◌^◌, ◌-◌, ◌<◌, ◌≡◌, List, set}
use Rattle.std.specs.Int.Bits.{bit_and, bit_or, bit_xor}
use Rattle.sheet.specs.Data.{bit_of, changed}

-- rows b to b + h - 1 of a column made the binary digits of f, the other rows kept
unfoldable pub with_rows : ℕ → ℕ → ℕ → ℕ → ℕ
with_rows b h f q = q / 2 ^ (b + h) * 2 ^ (b + h) + (f * 2 ^ b + q % 2 ^ b)

-- the bits k to k + h - 1 of a byte as a number, the first of them lowest
unfoldable pub field : ℕ → ℕ → ℕ → ℕ
field x k zero = 0
field x k (suc h) = field x k h + bit_of x (k + h) * 2 ^ h

-- a word holds a column a byte, the first lowest: column j of it
unfoldable pub column_of : ℕ → ℕ → ℕ
column_of w j = w / 2 ^ (8 * j) % 256

-- the word of the first n of the columns q
unfoldable pub joined : ℕ → (ℕ → ℕ) → ℕ
joined zero q = 0
joined (suc n) q = joined n (λ j. q (suc j)) * 256 + q 0

-- its first n columns stored, one after the other
unfoldable pub laid : ℕ → ℕ → ℕ → List ℕ → List ℕ
laid zero w v ram = ram
laid (suc n) w v ram = set (laid n w v ram) (v + n) (column_of w n)

-- a column with the rows in r made those of t, the other rows kept
unfoldable pub mixed : ℕ → ℕ → ℕ → ℕ
mixed r t q = bit_or (bit_xor (bit_or q r) r) (bit_and t r)

-- n columns from v on, each with the rows in its column of the word r made those of t
unfoldable pub merged : ℕ → ℕ → ℕ → ℕ → List ℕ → List ℕ
merged zero r t v ram = ram
merged (suc n) r t v ram = changed (mixed (column_of r n) (column_of t n)) (v + n) (merged n r t v ram)

-- the three columns of a byte in 1:3 as a word: three rows of two, and two of the last; and the rows that they have
unfoldable pub three_columns : ℕ → ℕ
three_columns x = field x 0 3 + 256 * field x 3 3 + 65536 * field x 6 2

abbrev pub three_rows : ℕ
three_rows = 0x030707

-- four columns of a byte in a word, from its column k on, each in both banks: 5 is row 0 and row 2
abbrev pub Spread : ℕ → ℕ → ℕ → ℕ → Type 0
Spread m x k w = (j : ℕ) → j < 4 → column_of w j ≡ 5 * field x (m * (k + j)) m

-- the same in the rows of one bank; what the word has beside them does not matter
abbrev pub InBank : ℕ → ℕ → ℕ → ℕ → ℕ → Type 0
InBank m bank x k w = let rows = (2 ^ m - 1) * (1 + 3 * bank) in (j : ℕ) → j < 4 → bit_and (column_of w j) rows ≡ bit_and (5 * field x (m * (k + j)) m) rows
