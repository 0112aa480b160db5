-- Several rows and several bits at once, for any number of backplanes, any bank and any column: a column of a byte is one change.
-- Assumes nothing.
use mathlib.Core.Path.{◌≡◌, sym, ap, ◌∙◌}
use mathlib.Core.List.{List}
use Prim.Native.Nat.{ℕ, zero, suc, ◌+◌, ◌-◌, ◌*◌, ◌/◌, ◌%◌, ◌^◌, ◌≤◌, ◌<◌}
use native.Mathlib.Nat.{add-zero, zero-add, add-suc, add_assoc, mul_comm, zero-mul, mod-lt, mul-le-mul_right, add_comm, div-add-mod', le_of_lt, le_of_suc-le-suc}
use native.Mathlib.Numerals.{add-one}
use native.Mathlib.Omega.{arith}
use lib.ListN.{get_or}
use lib.Arith.{digits_div, digits_mod, digits_lt}
use lib.Pow.{pow_pos, pow-add, shr-shr}
use Rattle.sheet.specs.Data.{changed, with_row, bit_of, put_bits}
use Rattle.laws.proofs.Runs.{changed-twice, changed-alike, unchanged}
use Rattle.words.specs.Fields.{with_rows, field}

-- ---- several rows

no_rows : (b q : ℕ) → with_rows b 0 0 q ≡ q
unfolding with_rows
no_rows b q = rw (add-zero b, zero-mul, zero-add) (div-add-mod' q (2 ^ b))

shr_suc : (n k : ℕ) → n / 2 ^ suc k ≡ n / 2 ^ k / 2
shr_suc n k = rw (← (add-one k)) (sym (shr-shr n k 1))

one-row-more : (b h f t q : ℕ) → f < 2 ^ h → with_row (b + h) t (with_rows b h f q) ≡ with_rows b (suc h) (f + t * 2 ^ h) q
unfolding with_row with_rows
one-row-more b h f t q p =
    let r : ℕ = f * 2 ^ b + q % 2 ^ b in
    let l : r < 2 ^ (b + h) = omega (arith, digits_lt p (mod-lt q (pow_pos b)), pow-add 2 b h) in
    let e : (q / 2 ^ (b + h) * 2 ^ (b + h) + r) / 2 ^ suc (b + h) ≡ q / 2 ^ suc (b + h) =
    shr_suc _ (b + h) ∙ ap (λ (n : ℕ). n / 2) (digits_div (q / 2 ^ (b + h)) l) ∙ sym (shr_suc q (b + h)) in
    let d : (q / 2 ^ (b + h) * 2 ^ (b + h) + r) % 2 ^ (b + h) ≡ r = digits_mod (q / 2 ^ (b + h)) l in
    rw (e, d, add-suc b h) (omega (arith, ap (λ (n : ℕ). t * n) (pow-add 2 b h)))

-- ---- several bits

pub field_lt : (x k h : ℕ) → field x k h < 2 ^ h
unfolding field
field_lt x k zero = omega arith
field_lt x k (suc h) =
    omega (arith, field_lt x k h, mul-le-mul_right (2 ^ h) (le_of_suc-le-suc (mod-lt (x / 2 ^ (7 - (k + h))) {m = 2} (omega arith))))

field-add : (x k a h : ℕ) → field x k (a + h) ≡ field x k a + field x (k + a) h * 2 ^ a
unfolding field
field-add x k a zero = rw (add-zero a) (omega arith)
field-add x k a (suc h) = rw (add-suc a h, field-add x k a h, add_assoc k a h) (omega (arith, ap (λ (n : ℕ). bit_of x (k + (a + h)) * n) (pow-add 2 a h)))

-- the bits k to k + h - 1 out of the first k + h + d
pub field-part : (x k h d : ℕ) → field x 0 (k + (h + d)) / 2 ^ k % 2 ^ h ≡ field x k h
field-part x k h d =
    rw (field-add x 0 k (h + d), add_comm, digits_div (field x (0 + k) (h + d)) (field_lt x 0 k), field-add x (0 + k) h d, add_comm, digits_mod (field x (0 + k + h) d) (field_lt x (0 + k) h), zero-add k)

-- ---- the bits of one column at once: h ≤ m bits, from bit m * j on

pub column : (m b x v j : ℕ) (ram : List ℕ) (h : ℕ) → h ≤ m
    → put_bits (m * j + h) m b v x ram ≡ changed (with_rows b h (field x (m * j) h)) (v + j) (put_bits (m * j) m b v x ram)
unfolding put_bits field
column m b x v j ram zero p =
    let before = put_bits (m * j) m b v x ram in
    rw (add-zero (m * j)) (sym (changed-alike (with_rows b 0 0) (λ q. q) (v + j) before (no_rows b (get_or before (v + j) 0)) ∙ unchanged (v + j) before))
column m b x v j ram (suc h) p =
    let before = put_bits (m * j) m b v x ram in
    let d : (m * j + h) / m ≡ j = rw (mul_comm m j) (digits_div j p) in
    let e : (m * j + h) % m ≡ h = rw (mul_comm m j) (digits_mod j p) in
    rw (add-suc (m * j) h, column m b x v j ram h (le_of_lt p), d, e)
    (changed-twice (with_rows b h (field x (m * j) h)) (with_row (b + h) (bit_of x (m * j + h))) (v + j) before
    ∙ changed-alike _ _ (v + j) before (one-row-more b h (field x (m * j) h) (bit_of x (m * j + h)) (get_or before (v + j) 0) (field_lt x (m * j) h)))
