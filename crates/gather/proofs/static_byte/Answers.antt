-- `gather::static_byte` meets its contract: a row of four columns twice.
-- Assumes nothing.
use mathlib.Core.Path.{◌≡◌, sym, ap, ap₂, ◌∙◌}
use Prim.Native.Nat.{ℕ, ◌+◌, ◌*◌, ◌/◌, ◌%◌, ◌^◌, ◌≤◌, ◌<◌}
use native.Mathlib.Nat.{add-mul, mul_assoc, mul-div_cancel, mod-lt}
use native.Mathlib.Omega.{arith}
use lib.Bits.{bit_and, and_le_r}
use lib.ListN.{get_or}
use lib.Pow.{pow_pos}
use Rattle.sheet.specs.Data.{row_of}
use Rattle.words.specs.Fields.{joined}
use Rattle.gather.proofs.Folds.{row_kept, static_bits}
use Rattle.gather.proofs.static_byte.Goals as goal

abbrev rows : ℕ → ℕ
rows wide = 0x01010101 * (1 + 3 * wide)

-- what is kept is no more than the rows
low : (c : goal.After-four_columns-2) → let w = c in bit_and c.four_columns.result (rows w.wide.result) ≤ 0x04040404
low c = let w = c in omega (arith, and_le_r c.four_columns.result (rows w.wide.result), w.wide.ensures.0, w.requires.1)

high : (c : goal.After-four_columns-2) → let w = c in bit_and c.four_columns-2.result (rows w.wide.result) ≤ 0x04040404
high c = let w = c in omega (arith, and_le_r c.four_columns-2.result (rows w.wide.result), w.wide.ensures.0, w.requires.1)

-- both in place, and moved down at once
down : (x y e : ℕ) → (16 * (x * 2 ^ e) + y * 2 ^ e) / 2 ^ e ≡ 16 * x + y
down x y e = ap (λ (n : ℕ). (n + y * 2 ^ e) / 2 ^ e) (sym (mul_assoc 16 x (2 ^ e))) ∙ ap (λ (n : ℕ). n / 2 ^ e) (sym (add-mul (16 * x) y (2 ^ e))) ∙ mul-div_cancel (16 * x + y) (pow_pos e)

-- the two rows
word-is : (c : goal.After-four_columns-2) → let w = c in
    let a = w.args in
    (16 * bit_and c.four_columns.result (rows w.wide.result) + bit_and c.four_columns-2.result (rows w.wide.result)) / 2 ^ (2 * a.bank)
    ≡ 16 * joined 4 (λ j. row_of (get_or a.columns.now (a.at + j) 0) (2 * a.bank)) + joined 4 (λ j. row_of (get_or a.columns.now (a.at + 4 + j) 0) (2 * a.bank))
word-is c = let w = c in
    let s = w in
    let a = s.args in
    let b = 2 * a.bank in
    let row : (v : ℕ) → bit_and (joined 4 (λ j. get_or a.columns.now (v + j) 0)) (rows a.bank) ≡ joined 4 (λ j. row_of (get_or a.columns.now (v + j) 0) b) * 2 ^ b =
    λ v. row_kept a.bank (λ j. get_or a.columns.now (v + j) 0) s.requires.1 (λ j. (w.shared_slice_known-1.given (v + j)).fits) in
    let kept : (x v : ℕ) → x ≡ joined 4 (λ j. get_or a.columns.now (v + j) 0) → bit_and x (rows w.wide.result) ≡ joined 4 (λ j. row_of (get_or a.columns.now (v + j) 0) b) * 2 ^ b =
    λ x v e. ap₂ (λ (y r : ℕ). bit_and y (rows r)) e w.wide.ensures.0 ∙ row v in
    ap₂ (λ (x y : ℕ). (16 * x + y) / 2 ^ b) (kept _ a.at c.four_columns.ensures) (kept _ (a.at + 4) c.four_columns-2.ensures) ∙ down _ _ b

row_small : (t : ℕ → ℕ) → ((j : ℕ) → t j < 2) → joined 4 t ≤ 0x01010101
unfolding joined
row_small t l = omega (arith, l 0, l 1, l 2, l 3)

most : (c : goal.After-four_columns-2) → let w = c in
    (16 * bit_and c.four_columns.result (rows w.wide.result) + bit_and c.four_columns-2.result (rows w.wide.result)) / 2 ^ (2 * w.args.bank) ≤ 0x11111111
most c = let a = c.args in
    let bit : (v j : ℕ) → row_of (get_or a.columns.now (v + j) 0) (2 * a.bank) < 2 = λ v j. mod-lt (get_or a.columns.now (v + j) 0 / 2 ^ (2 * a.bank)) (omega arith) in
    rw (word-is c) (omega (arith, row_small _ (bit a.at), row_small _ (bit (a.at + 4))))

pub returns : goal.returns
returns c = let a = c.args in
    ap (λ (s : ℕ). let p = s * 2 + s / 256 in (p * 4 + p / 65536) % 256) (word-is c) ∙ static_bits (2 * a.bank) a.at a.columns.now

pub overflow_mul-word : goal.overflow_mul-word
overflow_mul-word c = omega (arith, low c)

pub overflow_add-word : goal.overflow_add-word
overflow_add-word c = omega (arith, low c, high c)

pub overflow_mul-pairs : goal.overflow_mul-pairs
overflow_mul-pairs c = omega (arith, most c)

pub overflow_add-pairs : goal.overflow_add-pairs
overflow_add-pairs c = omega (arith, most c)

pub overflow_mul-result : goal.overflow_mul-result
overflow_mul-result c = omega (arith, most c)

pub overflow_add-result : goal.overflow_add-result
overflow_add-result c = omega (arith, most c)
