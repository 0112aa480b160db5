-- Data bytes in 1:3 at each even column: each has the rows of two columns, and its two spare bits land where the next byte begins, in the next chip too, and are overwritten.
-- Assumes nothing.
use mathlib.Core.Path.{◌≡◌, sym, ap, ap₂, ◌∙◌}
use mathlib.Core.Logic.{⊎_elim}
use mathlib.Core.List.{List, ◌++◌, append_assoc, append-nil}
use Prim.Native.Nat.{ℕ, zero, suc, ◌+◌, ◌-◌, ◌*◌, ◌/◌, ◌%◌, ◌^◌, ◌≤◌, ◌<◌}
use native.Mathlib.Omega.{arith}
use lib.ListN.{length, get_or}
use lib.Pow.{shr-shr}
use Rattle.lemmas.proofs.Order.{lt_or_le}
use Rattle.sheet.specs.Parts.{Part}
use Rattle.sheet.specs.Data.{bit_of, row_of, put_bits}
use Rattle.writer_sheet.specs.Writer.{bit_from, bits_from}
use Rattle.writer_sheet.specs.Three.{pair_of, byte_at, pairs_from}
use Rattle.laws.proofs.Rows.{bits_stay, bits_land}
use Rattle.laws.proofs.Runs.{length-bits}
use Rattle.laws.proofs.Wanted.{bits_at}

-- ---- a byte's first six bits are those of its two columns

pair_bit : (c : ℕ) (wanted : List ℕ) (k : ℕ) → k < 6 → bit_of (pair_of wanted c) k ≡ bit_from 3 0 c wanted k
pair_bit c wanted k h =
    let x : ℕ = bits_from 6 3 0 c wanted in
    let quarter : 4 * x / 2 ^ 2 ≡ x = omega arith in
    ap (λ (i : ℕ). i % 2) (ap (λ (i : ℕ). 4 * x / 2 ^ i) (omega arith) ∙ sym (shr-shr (4 * x) 2 (5 - k)) ∙ ap (λ (i : ℕ). i / 2 ^ (5 - k)) quarter)
    ∙ bits_at 6 3 0 c wanted (5 - k) k (omega arith)

-- row q of column c or c + 1, after the byte at column c
module _ (c : ℕ) (wanted ram : List ℕ) where
  abbrev put : List ℕ
  put = put_bits 8 3 0 c (pair_of wanted c) ram

  lands : (k i q : ℕ) → k < 6 → i ≡ c + k / 3 → q ≡ 0 + k % 3 → i < length ram → row_of (get_or put i 0) q ≡ row_of (get_or wanted i 0) q
  lands k i q h ei eq l =
      ap₂ (λ (i q : ℕ). row_of (get_or put i 0) q) ei eq
      ∙ bits_land 8 3 0 c (pair_of wanted c) k ram (omega arith) (rw (← ei) l) ∙ pair_bit c wanted k h
      ∙ sym (ap₂ (λ (i q : ℕ). row_of (get_or wanted i 0) q) ei eq)

  pub pair_lands : (i q : ℕ) → c ≤ i → i < c + 2 → q < 3 → i < length ram → row_of (get_or put i 0) q ≡ row_of (get_or wanted i 0) q
  pair_lands i q lo hi lq l = lands (3 * (i - c) + q) i q (omega arith) (omega arith) (omega arith) l

  -- the columns before it stay, and so does row 3 of every column
  pub before-stays : (i q : ℕ) → i < c → row_of (get_or put i 0) q ≡ row_of (get_or ram i 0) q
  before-stays i q l = bits_stay 8 3 0 c (pair_of wanted c) i q ram (λ k h e f. absurd (omega (arith, e)))

  pub row-three-stays : (i q : ℕ) → 3 ≤ q → row_of (get_or put i 0) q ≡ row_of (get_or ram i 0) q
  row-three-stays i q l = bits_stay 8 3 0 c (pair_of wanted c) i q ram (λ k h e f. absurd (omega (arith, f)))

  -- the spare bits: rows 0 and 1 of the column after the two, in whichever chip it is, become 0
  pub spare-bits : (q : ℕ) → q < 2 → c + 2 < length ram → row_of (get_or put (c + 2) 0) q ≡ 0
  spare-bits q lq l =
      let x : ℕ = bits_from 6 3 0 c wanted in
      ap₂ (λ (i q : ℕ). row_of (get_or put i 0) q) (omega arith) (omega arith)
      ∙ bits_land 8 3 0 c (pair_of wanted c) (6 + q) ram (omega arith) (omega arith)
      ∙ spare x q lq
    where
      spare : (x q : ℕ) → q < 2 → bit_of (4 * x) (6 + q) ≡ 0
      spare x zero h = omega arith
      spare x (suc zero) h = omega arith
      spare x (suc (suc q)) h = absurd (omega arith)

-- a byte and the next one: what the first left in the column where the second begins is overwritten, and its own two columns stay
pub overwritten : (c : ℕ) (wanted ram : List ℕ) (i q : ℕ) → c ≤ i → i < c + 4 → q < 3 → i < length ram
    → row_of (get_or (put_bits 8 3 0 (c + 2) (pair_of wanted (c + 2)) (put_bits 8 3 0 c (pair_of wanted c) ram)) i 0) q ≡ row_of (get_or wanted i 0) q
overwritten c wanted ram i q lo hi lq l =
    let first : List ℕ = put_bits 8 3 0 c (pair_of wanted c) ram in
    ⊎_elim
    (λ (h : i < c + 2). before-stays (c + 2) wanted first i q h ∙ pair_lands c wanted ram i q lo h lq l)
    (λ (h : c + 2 ≤ i). pair_lands (c + 2) wanted first i q h (omega arith) lq (rw (length-bits 8 3 0 c (pair_of wanted c) ram) l))
    (lt_or_le i (c + 2))

-- ---- one byte more

pub pairs_more : (K : Part) (n c : ℕ) (wanted : List ℕ) → pairs_from K (suc n) c wanted ≡ pairs_from K n c wanted ++ byte_at K (c + 2 * n) (pair_of wanted (c + 2 * n))
unfolding pairs_from
pairs_more K zero c wanted = let e : c ≡ c + 2 * 0 = omega arith in append-nil (byte_at K c (pair_of wanted c)) ∙ ap (λ (i : ℕ). byte_at K i (pair_of wanted i)) e
pairs_more K (suc n) c wanted =
    let e : c + 2 + 2 * n ≡ c + 2 * suc n = omega arith in
    ap (λ (l : List ℕ). byte_at K c (pair_of wanted c) ++ l) (pairs_more K n (c + 2) wanted ∙ ap (λ (i : ℕ). pairs_from K n (c + 2) wanted ++ byte_at K i (pair_of wanted i)) e)
    ∙ sym (append_assoc (byte_at K c (pair_of wanted c)) (pairs_from K n (c + 2) wanted) _)
