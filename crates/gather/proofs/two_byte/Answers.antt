-- `gather::two_byte` meets its contract: two rows of four columns.
-- Assumes nothing.
use mathlib.Core.Path.{ap, ap₂, ◌∙◌}
use Prim.Native.Nat.{ℕ, ◌+◌, ◌*◌, ◌/◌, ◌%◌, ◌^◌, ◌≤◌, ◌<◌}
use native.Mathlib.Omega.{arith}
use lib.Bits.{bit_and, and_le_r}
use lib.ListN.{get_or}
use lib.Pow.{shr-shr}
use Rattle.words.specs.Fields.{joined}
use Rattle.gather.proofs.Folds.{row_word, two-bits}
use Rattle.gather.proofs.two_byte.Goals as goal

-- each column has two rows
most : (word bank : ℕ) → let w = word / 2 ^ (2 * bank) in (bit_and w 0x01010101 ≤ 0x01010101) × (bit_and (w / 2) 0x01010101 ≤ 0x01010101)
most word bank = let w = word / 2 ^ (2 * bank) in (and_le_r w 0x01010101, and_le_r (w / 2) 0x01010101)

pub returns : goal.returns
returns c = let a = c.args in
    let b = 2 * a.bank in
    let q : ℕ → ℕ = λ j. get_or a.columns.now (a.at + j) 0 in
    let byte : (j : ℕ) → q j < 256 = λ j. (c.shared_slice_known-1.given (a.at + j)).fits in
    ap (λ (x : ℕ). let s = bit_and (x / 2 ^ b) 0x01010101 * 2 + bit_and (x / 2 ^ b / 2) 0x01010101 in let p = s * 4 + s / 256 in (p * 16 + p / 65536) % 256) c.four_columns.ensures
    ∙ ap₂ (λ (x y : ℕ). let s = x * 2 + y in let p = s * 4 + s / 256 in (p * 16 + p / 65536) % 256)
    (row_word b q (omega (arith, c.requires.1)) byte)
    (ap (λ (x : ℕ). bit_and x 0x01010101) (shr-shr (joined 4 q) b 1) ∙ row_word (b + 1) q (omega (arith, c.requires.1)) byte)
    ∙ two-bits b a.at a.columns.now

pub overflow_mul-swapped : goal.overflow_mul-swapped
overflow_mul-swapped c = omega (arith, (most c.four_columns.result c.args.bank).0)

pub overflow_add-swapped : goal.overflow_add-swapped
overflow_add-swapped c = omega (arith, (most c.four_columns.result c.args.bank).0, (most c.four_columns.result c.args.bank).1)

pub overflow_mul-pairs : goal.overflow_mul-pairs
overflow_mul-pairs c = omega (arith, (most c.four_columns.result c.args.bank).0, (most c.four_columns.result c.args.bank).1)

pub overflow_add-pairs : goal.overflow_add-pairs
overflow_add-pairs c = omega (arith, (most c.four_columns.result c.args.bank).0, (most c.four_columns.result c.args.bank).1)

pub overflow_mul-result : goal.overflow_mul-result
overflow_mul-result c = omega (arith, (most c.four_columns.result c.args.bank).0, (most c.four_columns.result c.args.bank).1)

pub overflow_add-result : goal.overflow_add-result
overflow_add-result c = omega (arith, (most c.four_columns.result c.args.bank).0, (most c.four_columns.result c.args.bank).1)
