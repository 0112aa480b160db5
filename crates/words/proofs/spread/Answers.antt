-- `words::spread` meets its contract: computed for each of the 256 bytes.
-- Assumes nothing.
use mathlib.Core.Bool.{Bool, ◌&&◌}
use Prim.Native.Nat.{ℕ, ◌+◌, ◌*◌, ◌/◌, ◌<◌}
use native.Mathlib.Omega.{arith}
use lib.Bits.{bit_and}
use lib.Dec.{T, ltb, ltb→lt}
use Rattle.lemmas.proofs.Tests.{all-at, and_left, and_right}
use Rattle.words.specs.Fields.{field, column_of, Spread}
use Rattle.words.proofs.Words.{is_spread, tested}
use Rattle.words.proofs.spread.Goals as goal

unfoldable word : ℕ → ℕ
word x = bit_and (x * 1074791425 / 128) 16843009 + bit_and (x * 1074791425 / 32) 33686018

unfoldable right : ℕ → Bool
right x = ltb (5 * word x) 4294967296 && is_spread 2 x 0 (5 * word x)

all_right : (x : ℕ) → x < 256 → T (right x)
unfolding right word field column_of
all_right x h = all-at 256 right tt x h

word_lt : (x : ℕ) → x < 256 → 5 * word x < 4294967296
unfolding right
word_lt x h = ltb→lt (5 * word x) 4294967296 (and_left (ltb (5 * word x) 4294967296) (is_spread 2 x 0 (5 * word x)) (all_right x h))

word-spread : (x : ℕ) → x < 256 → Spread 2 x 0 (5 * word x)
unfolding right
word-spread x h = tested 2 x 0 (5 * word x) (and_right (ltb (5 * word x) 4294967296) (is_spread 2 x 0 (5 * word x)) (all_right x h))

pub overflow_add-word : goal.overflow_add-word
unfolding word
overflow_add-word c = omega (arith, word_lt c.args.x c.ranges.x.fits)

pub overflow_mul-result : goal.overflow_mul-result
unfolding word
overflow_mul-result c = omega (arith, word_lt c.args.x c.ranges.x.fits)

pub overflow_cast-result : goal.overflow_cast-result
unfolding word
overflow_cast-result c = omega (arith, word_lt c.args.x c.ranges.x.fits)

pub returns : goal.returns
unfolding word
returns c = word-spread c.args.x c.ranges.x.fits
