-- `packed_words::four_columns` meets its contract: computed for each of the 256 bytes.
-- Assumes nothing.
use mathlib.Core.Path.{sym, subst}
use Prim.Native.Nat.{ℕ, ◌*◌}
use native.Mathlib.Omega.{arith}
use lib.Bits.{bit_and, bit_or, and_le_r}
use Rattle.words.specs.Fields.{field}
use Rattle.packed_words.specs.Placed.{nibble_of, Word}
use Rattle.packed_words.proofs.Tested.{word-tested}
use Rattle.packed_words.proofs.four_columns.Goals as goal

unfoldable fours : ℕ → ℕ
fours y = bit_and (bit_or y (16 * y)) 3855

unfoldable word : ℕ → ℕ
word y = 5 * bit_and (bit_or (fours y) (4 * fours y)) 13107

pub overflow_mul-result : goal.overflow_mul-result
overflow_mul-result c = let y = c.reversed-y.result in omega (arith, and_le_r (bit_or y (16 * y)) 3855)

pub overflow_mul-result-2 : goal.overflow_mul-result-2
unfolding fours
overflow_mul-result-2 c = let y = fours c.reversed-y.result in omega (arith, and_le_r (bit_or y (4 * y)) 13107)

pub returns : goal.returns
unfolding fours word field nibble_of
returns c = let x = c.args.x in
    subst (λ (y : ℕ). Word 2 x (word y)) (sym c.reversed-y.ensures) (word-tested 2 (λ n. word (field n 0 8)) tt x c.ranges.x.fits)
