-- `packed_words::three_columns` meets its contract: computed for each of the 256 bytes.
-- Assumes nothing.
use Prim.Native.Nat.{ℕ, ◌+◌, ◌*◌, ◌/◌, ◌%◌, ◌≤◌}
use native.Mathlib.Omega.{arith}
use lib.Bits.{bit_and, and_le_r}
use Rattle.words.specs.Fields.{field}
use Rattle.packed_words.specs.Placed.{nibble_of}
use Rattle.packed_words.proofs.Tested.{word-tested}
use Rattle.packed_words.proofs.three_columns.Goals as goal

unfoldable rows : ℕ → ℕ
rows x = bit_and (x % 128 * 16513 / 128) 272 + bit_and (x % 128 * 16513 / 32) 546 + bit_and (x % 128 * 16513 / 8) 68

unfoldable word : ℕ → ℕ
word x = x / 128 + rows x

-- each part is a few bits
small : (x : ℕ) → rows x ≤ 886
unfolding rows
small x = omega (arith, and_le_r (x % 128 * 16513 / 128) 272, and_le_r (x % 128 * 16513 / 32) 546, and_le_r (x % 128 * 16513 / 8) 68)

pub returns : goal.returns
unfolding word rows field nibble_of
returns c = word-tested 3 word tt c.args.x c.ranges.x.fits

pub overflow_add-rows : goal.overflow_add-rows
unfolding rows
overflow_add-rows c = omega (arith, small c.args.x)

pub overflow_add-rows-2 : goal.overflow_add-rows-2
unfolding rows
overflow_add-rows-2 c = omega (arith, small c.args.x)

pub overflow_add-result : goal.overflow_add-result
unfolding rows
overflow_add-result c = omega (arith, small c.args.x, c.ranges.x.fits)
