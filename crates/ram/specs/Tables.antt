-- The words of `ram`: four columns of a byte in static, and, as tables, the columns that a byte's first and last four bits give in 1:3. `proofs/static_run` and `proofs/three_columns` compute that they do.
use Rattle.std.specs.Prelude.{List, [], ◌∷◌, ℕ, ◌+◌, ◌-◌, ◌*◌, ◌/◌, ◌^◌}
use Rattle.std.specs.Int.Bits.{bit_and}

-- a copy of the byte in each column, of which the bit of its mask is carried to bit 7 and brought down
unfoldable pub static_columns : ℕ → ℕ → ℕ → ℕ
static_columns x masks shift = (bit_and (16843009 * x) masks + (2155905152 - masks)) / 2 ^ shift

unfoldable pub first_bits : List ℕ
first_bits =
    0x000000 ∷ 0x000100 ∷ 0x000004 ∷ 0x000104 ∷ 0x000002 ∷ 0x000102 ∷ 0x000006 ∷ 0x000106
    ∷ 0x000001 ∷ 0x000101 ∷ 0x000005 ∷ 0x000105 ∷ 0x000003 ∷ 0x000103 ∷ 0x000007 ∷ 0x000107 ∷ []

unfoldable pub last_bits : List ℕ
last_bits =
    0x000000 ∷ 0x020000 ∷ 0x010000 ∷ 0x030000 ∷ 0x000400 ∷ 0x020400 ∷ 0x010400 ∷ 0x030400
    ∷ 0x000200 ∷ 0x020200 ∷ 0x010200 ∷ 0x030200 ∷ 0x000600 ∷ 0x020600 ∷ 0x010600 ∷ 0x030600 ∷ []
