-- What is computed of all bytes, rows and banks, once: words of rows, words of columns, and that the one puts the other.
-- Assumes nothing.
use mathlib.Core.Path.{◌≡◌, ap₂, ◌∙◌}
use mathlib.Core.Bool.{Bool, ◌&&◌}
use Prim.Native.Nat.{ℕ, ◌-◌, ◌*◌, ◌^◌, ◌<◌}
use lib.Dec.{T, eqb, eqb→eq, ltb, ltb→lt}
use Rattle.lemmas.proofs.Tests.{all, all-at, and_left, and_right}
use Rattle.sheet.specs.Registers.{bank_row}
use Rattle.sheet.specs.Data.{width_of}
use Rattle.words.specs.Fields.{with_rows, field, mixed}
use Rattle.words.proofs.Fields.{field_lt}
use Rattle.packed_words.specs.Placed.{nibble_of, height, RowsWord, in_banks, Word}

-- ---- the rows of a bank

abbrev pub rows_test : ℕ → ℕ → ℕ → Bool
rows_test m bank r = ltb r (2 ^ (4 * width_of m)) && all (width_of m) (λ j. eqb (nibble_of r j) ((2 ^ height m j - 1) * 2 ^ bank_row m bank))

pub rows-tested : (m bank r : ℕ) → T (rows_test m bank r) → RowsWord m bank r
rows-tested m bank r t =
    let small = ltb r (2 ^ (4 * width_of m)) in
    let rest = all (width_of m) (λ j. eqb (nibble_of r j) ((2 ^ height m j - 1) * 2 ^ bank_row m bank)) in
    record {
      rows = λ j l. eqb→eq (nibble_of r j) _ (all-at (width_of m) (λ i. eqb (nibble_of r i) ((2 ^ height m i - 1) * 2 ^ bank_row m bank)) (and_right small rest t) j l);
      small = ltb→lt r (2 ^ (4 * width_of m)) (and_left small rest t);
    }

-- ---- the columns of a byte

abbrev columns_test : ℕ → ℕ → ℕ → Bool
columns_test m x t = all (width_of m) (λ j. eqb (nibble_of t j) (in_banks m * field x (m * j) (height m j)))

-- word gives those of each of the 256 bytes
abbrev pub word_test : ℕ → (ℕ → ℕ) → Bool
word_test m word = all 256 (λ x. ltb (word x) (2 ^ (4 * width_of m)) && columns_test m x (word x))

pub word-tested : (m : ℕ) (word : ℕ → ℕ) → T (word_test m word) → (x : ℕ) → x < 256 → Word m x (word x)
word-tested m word t x l =
    let here = all-at 256 (λ x. ltb (word x) (2 ^ (4 * width_of m)) && columns_test m x (word x)) t x l in
    record {
      columns = λ j h. eqb→eq (nibble_of (word x) j) _ (all-at (width_of m) (λ i. eqb (nibble_of (word x) i) (in_banks m * field x (m * i) (height m i))) (and_right (ltb (word x) (2 ^ (4 * width_of m))) (columns_test m x (word x)) here) j h);
      small = ltb→lt (word x) (2 ^ (4 * width_of m)) (and_left (ltb (word x) (2 ^ (4 * width_of m))) (columns_test m x (word x)) here);
    }

-- ---- the rows made those of a column

abbrev puts_test : ℕ → ℕ → ℕ → Bool
puts_test m bank h = all (2 ^ h) (λ f. all 16 (λ q. eqb (mixed ((2 ^ h - 1) * 2 ^ bank_row m bank) (in_banks m * f) q) (with_rows (bank_row m bank) h f q)))

pub puts : (m bank x r t : ℕ) → m < 5 → bank < 2 → RowsWord m bank r → Word m x t → (j q : ℕ) → j < width_of m → q < 16
    → mixed (nibble_of r j) (nibble_of t j) q ≡ with_rows (bank_row m bank) (height m j) (field x (m * j) (height m j)) q
unfolding mixed with_rows bank_row
puts m bank x r t lm lb er et j q lj lq =
    let h = height m j in
    let f = field x (m * j) h in
    let of-j = all-at (width_of m) (λ i. puts_test m bank (height m i)) (all-at 2 (λ b. all (width_of m) (λ i. puts_test m b (height m i))) (all-at 5 (λ n. all 2 (λ b. all (width_of n) (λ i. puts_test n b (height n i)))) tt m lm) bank lb) j lj in
    ap₂ (λ (a b : ℕ). mixed a b q) (er.rows j lj) (et.columns j lj)
    ∙ eqb→eq (mixed ((2 ^ h - 1) * 2 ^ bank_row m bank) (in_banks m * f) q) _
    (all-at 16 (λ p. eqb (mixed ((2 ^ h - 1) * 2 ^ bank_row m bank) (in_banks m * f) p) (with_rows (bank_row m bank) h f p))
    (all-at (2 ^ h) (λ g. all 16 (λ p. eqb (mixed ((2 ^ h - 1) * 2 ^ bank_row m bank) (in_banks m * g) p) (with_rows (bank_row m bank) h g p))) of-j f (field_lt x (m * j) h)) q lq)
