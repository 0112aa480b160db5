-- `packed_words::eight_columns` meets its contract: computed for each of the 256 bytes.
-- Assumes nothing.
use Prim.Native.Nat.{ℕ, ◌+◌, ◌*◌, ◌/◌, ◌%◌, ◌≤◌}
use native.Mathlib.Omega.{arith}
use lib.Bits.{bit_and, and_le_r}
use Rattle.words.specs.Fields.{field}
use Rattle.packed_words.specs.Placed.{nibble_of}
use Rattle.packed_words.proofs.Tested.{word-tested}
use Rattle.packed_words.proofs.eight_columns.Goals as goal

unfoldable word : ℕ → ℕ
word x = 5 * (bit_and (x * 1074791425 % 4294967296 / 128) 16843009 + bit_and (x * 1074791425 % 4294967296 / 4) 269488144)

-- either part is a word
small : (x : ℕ) → bit_and (x * 1074791425 % 4294967296 / 128) 16843009 + bit_and (x * 1074791425 % 4294967296 / 4) 269488144 ≤ 286331153
small x = omega (arith, and_le_r (x * 1074791425 % 4294967296 / 128) 16843009, and_le_r (x * 1074791425 % 4294967296 / 4) 269488144)

pub returns : goal.returns
unfolding word field nibble_of
returns c = word-tested 1 word tt c.args.x c.ranges.x.fits

pub overflow_add-word : goal.overflow_add-word
overflow_add-word c = omega (arith, small c.args.x)

pub overflow_mul-result : goal.overflow_mul-result
overflow_mul-result c = omega (arith, small c.args.x)

pub overflow_cast-result : goal.overflow_cast-result
overflow_cast-result c = omega (arith, small c.args.x)
