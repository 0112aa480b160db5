-- `gather::two_pairs` meets its contract: four columns of four rows, each above the next one.
-- Assumes nothing.
use mathlib.Core.Path.{◌≡◌, refl, sym, ap, ◌∙◌}
use mathlib.Core.List.{List}
use Prim.Native.Nat.{ℕ, ◌+◌, ◌*◌, ◌/◌, ◌%◌, ◌≤◌, ◌<◌}
use native.Mathlib.Omega.{arith}
use native.Mathlib.Nat.{add-zero, add_assoc}
use lib.Arith.{digits_mod}
use lib.Bits.{bit_and, and_le_r, and_mask}
use lib.ListN.{get_or}
use Rattle.words.specs.Fields.{joined}
use Rattle.gather.specs.Gathered.{side}
use Rattle.gather.proofs.Folds.{past_one, past_two}
use Rattle.words.proofs.Bytewise.{joined-alike, and-joined}
use Rattle.gather.proofs.two_pairs.Goals as goal

-- each column above the next one
paired : (r a b c d : ℕ) → r ≡ side a b c d → a < 16 → b < 16 → c < 16 → d < 16 → let p = r * 16 + r / 256 in p % 256 + p / 65536 % 256 * 256 ≡ (c * 16 + d) * 256 + (a * 16 + b)
paired r a b c d e la lb lc ld =
    let p : r * 16 + r / 256 ≡ side (a * 16 + b) (b * 16 + c) (c * 16 + d) (d * 16) = omega (arith, e, past_one r a b c d e (omega (arith, la))) in
    let low : (r * 16 + r / 256) % 256 ≡ a * 16 + b = ap (λ (n : ℕ). n % 256) p ∙ digits_mod (((0 * 256 + d * 16) * 256 + (c * 16 + d)) * 256 + (b * 16 + c)) (omega (arith, la, lb)) in
    let next : (r * 16 + r / 256) / 65536 % 256 ≡ c * 16 + d = ap (λ (n : ℕ). n % 256) (past_two _ _ _ _ _ p (omega (arith, la, lb)) (omega (arith, lb, lc))) ∙ digits_mod (d * 16) (omega (arith, lc, ld)) in
    omega (arith, low, next)

few : (word : ℕ) → bit_and word 0x0F0F0F0F ≤ 0x0F0F0F0F
few word = and_le_r word 0x0F0F0F0F

rows : (columns : List ℕ) (at : ℕ) {word : ℕ} → ((i : ℕ) → get_or columns i 0 < 256) → word ≡ joined 4 (λ j. get_or columns (at + j) 0) → bit_and word 0x0F0F0F0F ≡ joined 4 (λ j. get_or columns (at + j) 0 % 16)
unfolding joined
rows columns at byte e =
    let q : ℕ → ℕ = λ j. get_or columns (at + j) 0 in
    ap (λ (w : ℕ). bit_and w 0x0F0F0F0F) e
    ∙ and-joined 4 q (λ j. 15) (λ j. byte (at + j)) (λ j. omega arith) ∙ joined-alike 4 _ (λ j. q j % 16) (λ j. and_mask (q j) 4)

pub returns : goal.returns
unfolding joined
returns c = let a = c.args in
    let q : ℕ → ℕ = λ j. get_or a.columns.now (a.at + j) 0 in
    let first : q 0 ≡ get_or a.columns.now a.at 0 = ap (λ (i : ℕ). get_or a.columns.now i 0) (add-zero a.at) in
    let last : q 3 ≡ get_or a.columns.now (a.at + 2 + 1) 0 = ap (λ (i : ℕ). get_or a.columns.now i 0) (sym (add_assoc a.at 2 1)) in
    record { value = paired _ (q 0 % 16) (q 1 % 16) (q 2 % 16) (q 3 % 16) (rows a.columns.now a.at (λ i. (c.shared_slice_known-1.given i).fits) c.four_columns-rows.ensures) (omega arith) (omega arith) (omega arith) (omega arith) ∙ rw (first, last) refl; upper_bound = omega arith }

pub overflow_mul-pairs : goal.overflow_mul-pairs
overflow_mul-pairs c = omega (arith, few c.four_columns-rows.result)

pub overflow_add-pairs : goal.overflow_add-pairs
overflow_add-pairs c = omega (arith, few c.four_columns-rows.result)
