-- A data byte with its bits in the other order: in the right order it is the data byte, and a column of it is one field.
-- Assumes nothing.
use mathlib.Core.Path.{◌≡◌, refl, ap, ◌∙◌}
use mathlib.Core.Logic.{⊎_elim, ◌≢◌}
use mathlib.Core.Bool.{cond}
use mathlib.Core.List.{List}
use Prim.Native.Nat.{ℕ, zero, suc, ◌+◌, ◌-◌, ◌*◌, ◌/◌, ◌%◌, ◌^◌, ◌≤◌, ◌<◌}
use native.Mathlib.Nat.{add-zero, add-suc, add_comm, mul_comm, mod-one, div-one, div-eq_of_lt, lt_of_lt_of_le, le_of_lt, pow-suc, mul-le-mul_right, le_of_suc-le-suc}
use native.Mathlib.Omega.{arith}
use lib.Arith.{digits_div, digits_mod, mod-mul}
use lib.Dec.{ltb}
use lib.ListN.{get_or}
use lib.Pow.{pow_pos, pow_mono, pow-add, shr-shr}
use borrow.Author.Tests.{lt-ltb, le-ltb}
use Rattle.lemmas.proofs.Order.{equal_or_not, lt_or_le}
use Rattle.sheet.specs.Data.{row_of}
use Rattle.writer_sheet.specs.Writer.{bit_from, bits_from}
use Rattle.laws.proofs.Rows.{row-of-low}
use Rattle.laws.proofs.Wanted.{bit_lt}
use Rattle.words.specs.Fields.{field}

-- the first n bits of the data byte that begins at column v, the first of them lowest
unfoldable pub low_bits : ℕ → ℕ → ℕ → ℕ → List ℕ → ℕ
low_bits zero m b v columns = 0
low_bits (suc k) m b v columns = low_bits k m b v columns + bit_from m b v columns k * 2 ^ k

-- ---- its bits

pub low_lt : (n m b v : ℕ) (columns : List ℕ) → low_bits n m b v columns < 2 ^ n
unfolding low_bits
low_lt zero m b v columns = omega arith
low_lt (suc n) m b v columns =
    rw (pow-suc 2 n) (omega (arith, low_lt n m b v columns, mul-le-mul_right (2 ^ n) (le_of_suc-le-suc (bit_lt m b v columns n))))

low-at : (n m b v : ℕ) (columns : List ℕ) (k : ℕ) → k < n → row_of (low_bits n m b v columns) k ≡ bit_from m b v columns k
unfolding low_bits
low-at zero m b v columns k h = absurd (omega arith)
low-at (suc n) m b v columns k h =
    let low : ℕ = low_bits n m b v columns in
    let t : ℕ = bit_from m b v columns n in
    let split : low + t * 2 ^ n ≡ t * 2 ^ n + low = add_comm low (t * 2 ^ n) in
    ⊎_elim
    (λ (e : k ≡ n).
    rw (e, split, digits_div t (low_lt n m b v columns)) (omega (arith, bit_lt m b v columns n)))
    (λ (ne : k ≢ n).
    let d : ℕ = n - suc k in
    let all : d + 1 + k ≡ n = omega arith in
    row-of-low (low + t * 2 ^ n) k d
    ∙ ap (λ (x : ℕ). x / 2 ^ k % 2)
    (ap (λ (i : ℕ). (low + t * 2 ^ n) % 2 ^ i) all ∙ ap (λ (x : ℕ). x % 2 ^ n) split ∙ digits_mod t (low_lt n m b v columns))
    ∙ low-at n m b v columns k (omega arith))
    (equal_or_not k n)

-- ---- in the other order

-- eight bits t from the lowest on, read from the highest on
backward : (t : ℕ → ℕ) (y : ℕ) → ((k : ℕ) → k < 8 → row_of y k ≡ t k) → field y 0 8 ≡ 2 * (2 * (2 * (2 * (2 * (2 * (2 * (2 * 0 + t 0) + t 1) + t 2) + t 3) + t 4) + t 5) + t 6) + t 7
unfolding field
backward t y at = omega (arith, at 0 (omega arith), at 1 (omega arith), at 2 (omega arith), at 3 (omega arith), at 4 (omega arith), at 5 (omega arith), at 6 (omega arith), at 7 (omega arith))

pub turned : (m b v : ℕ) (columns : List ℕ) (y : ℕ) → y ≡ low_bits 8 m b v columns → field y 0 8 ≡ bits_from 8 m b v columns
unfolding bits_from
turned m b v columns y e = backward (bit_from m b v columns) y (λ k h. ap (λ (x : ℕ). row_of x k) e ∙ low-at 8 m b v columns k h)

-- six bits, and two that are 0
pub turned-six : (m b v : ℕ) (columns : List ℕ) (y : ℕ) → y ≡ low_bits 6 m b v columns → field y 0 8 ≡ 4 * bits_from 6 m b v columns
unfolding bits_from
turned-six m b v columns y e =
    let t : ℕ → ℕ = λ k. cond (ltb k 6) (bit_from m b v columns k) 0 in
    backward t y (bits t) ∙ omega arith
  where
    small : y < 64
    small = rw e (low_lt 6 m b v columns)

    past : (k : ℕ) → 6 ≤ k → row_of y k ≡ 0
    past k l = ap (λ (i : ℕ). i % 2) (div-eq_of_lt (lt_of_lt_of_le small (pow_mono l)))

    bits : (t : ℕ → ℕ) (k : ℕ) → k < 8 → row_of y k ≡ cond (ltb k 6) (bit_from m b v columns k) 0
    bits t k h =
        ⊎_elim
        (λ (l : k < 6). ap (λ (x : ℕ). row_of x k) e ∙ low-at 6 m b v columns k l ∙ rw (lt-ltb k 6 l) refl)
        (λ (l : 6 ≤ k). past k l ∙ rw (le-ltb k 6 l) refl)
        (lt_or_le k 6)

-- ---- column j of the byte: h ≤ m rows

-- one row more
field-more : (q b h : ℕ) → q / 2 ^ b % 2 ^ suc h ≡ q / 2 ^ b % 2 ^ h + q / 2 ^ (b + h) % 2 * 2 ^ h
field-more q b h =
    ap (λ (k : ℕ). q / 2 ^ b % k) (pow-suc 2 h ∙ mul_comm (2 ^ h) 2) ∙ mod-mul (q / 2 ^ b) {m = 2} (omega arith) (pow_pos h)
    ∙ ap (λ (k : ℕ). k % 2 * 2 ^ h + q / 2 ^ b % 2 ^ h) (shr-shr q b h) ∙ add_comm (q / 2 ^ (b + h) % 2 * 2 ^ h) _

pub low_column : (m b v : ℕ) (columns : List ℕ) (j h : ℕ) → h ≤ m
    → low_bits (m * j + h) m b v columns ≡ low_bits (m * j) m b v columns + get_or columns (v + j) 0 / 2 ^ b % 2 ^ h * 2 ^ (m * j)
unfolding low_bits
low_column m b v columns j zero l = rw (add-zero (m * j), mod-one (get_or columns (v + j) 0 / 2 ^ b)) (omega arith)
low_column m b v columns j (suc h) l =
    let q : ℕ = get_or columns (v + j) 0 in
    let d : (m * j + h) / m ≡ j = rw (mul_comm m j) (digits_div j l) in
    let e : (m * j + h) % m ≡ h = rw (mul_comm m j) (digits_mod j l) in
    rw (add-suc (m * j) h, low_column m b v columns j h (le_of_lt l), d, e, field-more q b h)
    (omega (arith, ap (λ (n : ℕ). q / 2 ^ (b + h) % 2 * n) (pow-add 2 (m * j) h)))

-- a column of h rows more, by its number in the byte
pub low-next : (m b v : ℕ) (columns : List ℕ) (j h : ℕ) → h ≤ m → (q : ℕ) → get_or columns (v + j) 0 ≡ q
    → low_bits (m * j + h) m b v columns ≡ low_bits (m * j) m b v columns + q / 2 ^ b % 2 ^ h * 2 ^ (m * j)
low-next m b v columns j h l q e = low_column m b v columns j h l ∙ ap (λ (k : ℕ). low_bits (m * j) m b v columns + k / 2 ^ b % 2 ^ h * 2 ^ (m * j)) e

-- from row 0 on
pub low-whole : (m v : ℕ) (columns : List ℕ) (j h : ℕ) → h ≤ m → (q : ℕ) → get_or columns (v + j) 0 ≡ q → low_bits (m * j + h) m 0 v columns ≡ low_bits (m * j) m 0 v columns + q % 2 ^ h * 2 ^ (m * j)
low-whole m v columns j h l q e = low-next m 0 v columns j h l q e ∙ ap (λ (k : ℕ). low_bits (m * j) m 0 v columns + k % 2 ^ h * 2 ^ (m * j)) (div-one q)

pub low-none : (m b v : ℕ) (columns : List ℕ) → low_bits 0 m b v columns ≡ 0
unfolding low_bits
low-none m b v columns = refl
