-- `gather::pair_of` meets its contract: of two columns as a number the first comes above the second.
-- Assumes nothing.
use mathlib.Core.Path.{◌≡◌, ap, ap₂, ◌∙◌}
use Prim.Native.Nat.{ℕ, ◌+◌, ◌*◌, ◌/◌, ◌%◌, ◌<◌}
use native.Mathlib.Nat.{mod-lt}
use native.Mathlib.Omega.{arith}
use lib.Arith.{digits_div, digits_mod}
use lib.Bits.{bit_and, and_block, and_mask, and_le_r}
use lib.ListN.{get_or}
use Rattle.gather.proofs.pair_of.Goals as goal

-- their rows
rows : (n a b : ℕ) → n ≡ a + b * 256 → a < 256 → bit_and n 0x0F0F ≡ b % 16 * 256 + a % 16
rows n a b e h =
    let turned : n ≡ b * 256 + a = omega (arith, e) in
    ap (λ (n : ℕ). bit_and n 0x0F0F) turned ∙ and_block 8 b 15 a 15 h (omega arith) ∙ ap₂ (λ (x y : ℕ). x * 256 + y) (and_mask b 4) (and_mask a 4)

-- side by side
beside : (r x y : ℕ) → x < 16 → y < 16 → r ≡ y * 256 + x → (r * 16 + r / 256) % 256 ≡ x * 16 + y
beside r x y lx ly e =
    let high : r / 256 ≡ y = ap (λ (n : ℕ). n / 256) e ∙ digits_div y (omega (arith, lx)) in
    let whole : r * 16 + r / 256 ≡ y * 16 * 256 + (x * 16 + y) = omega (arith, e, high) in
    ap (λ (n : ℕ). n % 256) whole ∙ digits_mod (y * 16) (omega (arith, lx, ly))

pub returns : goal.returns
returns c = let a = c.args in
    let first = get_or a.columns.now a.at 0 in
    let second = get_or a.columns.now (a.at + 1) 0 in
    beside _ (first % 16) (second % 16) (mod-lt first (omega arith)) (mod-lt second (omega arith)) (rows c.from_le_bytes-rows.result first second c.from_le_bytes-rows.ensures (c.type_inv.columns a.at).fits)

pub overflow_mul-result : goal.overflow_mul-result
overflow_mul-result c = omega (arith, and_le_r c.from_le_bytes-rows.result 0x0F0F)

pub overflow_add-result : goal.overflow_add-result
overflow_add-result c = omega (arith, and_le_r c.from_le_bytes-rows.result 0x0F0F)
