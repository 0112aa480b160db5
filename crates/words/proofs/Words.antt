-- Four columns as one word: its bit operations act column by column, and the rows of a bank put into four columns at once are the bits of a byte.
-- Assumes nothing.
use mathlib.Core.Path.{◌≡◌, refl, sym, ap, ap₂, ◌∙◌}
use mathlib.Core.Bool.{Bool}
use mathlib.Core.List.{List}
use Prim.Native.Nat.{ℕ, zero, suc, ◌+◌, ◌-◌, ◌*◌, ◌/◌, ◌%◌, ◌^◌, ◌≤◌, ◌<◌}
use native.Mathlib.Nat.{add-zero, add-suc, add_assoc, mul-zero, mul-suc, add_comm, div-one, le_refl, not-suc-le-zero, le_of_suc-le-suc}
use native.Mathlib.Omega.{arith}
use lib.Arith.{digits_div, digits_mod}
use lib.Bits.{bit_and, bit_or, bit_xor, and_shr, and_mod, or_shr, or_mod, xor_shr, xor_mod}
use lib.Dec.{T, eqb, eqb→eq}
use lib.ListN.{get_or, set}
use lib.Pow.{shr-shr}
use Rattle.lemmas.proofs.Tests.{all, all-at}
use Rattle.sheet.specs.Data.{changed, put_bits}
use Rattle.laws.proofs.Rows.{changed-other}
use Rattle.laws.proofs.Runs.{changed-alike}
use Rattle.laws.proofs.Nibbles.{Nibbles, bits-nibbles}
use Rattle.words.specs.Fields.{with_rows, field, column_of, joined, laid, mixed, merged, three_columns, three_rows, Spread, InBank}
use Rattle.words.proofs.Fields.{field_lt, column}

-- ---- column by column

-- what shifts and masks pass through acts on each column apart
column_op : (op : ℕ → ℕ → ℕ) → ((a b k : ℕ) → op a b / 2 ^ k ≡ op (a / 2 ^ k) (b / 2 ^ k)) → ((a b k : ℕ) → op a b % 2 ^ k ≡ op (a % 2 ^ k) (b % 2 ^ k))
    → (a b j : ℕ) → column_of (op a b) j ≡ op (column_of a j) (column_of b j)
unfolding column_of
column_op op shr low a b j = ap (λ (n : ℕ). n % 256) (shr a b (8 * j)) ∙ low (a / 2 ^ (8 * j)) (b / 2 ^ (8 * j)) 8

column-mixed : (r t w j : ℕ) → column_of (mixed r t w) j ≡ mixed (column_of r j) (column_of t j) (column_of w j)
unfolding mixed
column-mixed r t w j =
    column_op bit_or or_shr or_mod (bit_xor (bit_or w r) r) (bit_and t r) j
    ∙ ap₂ bit_or
    (column_op bit_xor xor_shr xor_mod (bit_or w r) r j ∙ ap (λ (n : ℕ). bit_xor n (column_of r j)) (column_op bit_or or_shr or_mod w r j))
    (column_op bit_and and_shr and_mod t r j)

pub column-joined : (n : ℕ) (q : ℕ → ℕ) → ((j : ℕ) → q j < 256) → (j : ℕ) → j < n → column_of (joined n q) j ≡ q j
unfolding column_of joined
column-joined zero q w j h = absurd (not-suc-le-zero h)
column-joined (suc n) q w zero h = rw (div-one (joined n (λ j. q (suc j)) * 256 + q 0)) (digits_mod (joined n (λ j. q (suc j))) (w 0))
column-joined (suc n) q w (suc j) h =
    let a : ℕ = joined n (λ i. q (suc i)) in
    let e : (a * 256 + q 0) / 2 ^ (8 * suc j) ≡ a / 2 ^ (8 * j) =
    ap (λ (k : ℕ). (a * 256 + q 0) / 2 ^ k) (mul-suc 8 j ∙ add_comm (8 * j) 8) ∙ sym (shr-shr (a * 256 + q 0) 8 (8 * j))
    ∙ ap (λ (k : ℕ). k / 2 ^ (8 * j)) (digits_div a (w 0)) in
    ap (λ (k : ℕ). k % 256) e ∙ column-joined n (λ i. q (suc i)) (λ i. w (suc i)) j (le_of_suc-le-suc h)

-- ---- the columns of a word stored

merged-after : (n r t v : ℕ) (ram : List ℕ) (c : ℕ) → v + n ≤ c → get_or (merged n r t v ram) c 0 ≡ get_or ram c 0
unfolding merged
merged-after zero r t v ram c h = refl
merged-after (suc n) r t v ram c h =
    changed-other (mixed (column_of r n) (column_of t n)) (v + n) c (merged n r t v ram) (omega arith) ∙ merged-after n r t v ram c (omega arith)

laid-merged : (n w r t v : ℕ) (ram : List ℕ) → ((j : ℕ) → j < n → column_of w j ≡ mixed (column_of r j) (column_of t j) (get_or ram (v + j) 0))
    → laid n w v ram ≡ merged n r t v ram
unfolding laid merged changed
laid-merged zero w r t v ram e = refl
laid-merged (suc n) w r t v ram e =
    ap₂ (λ (l : List ℕ) (q : ℕ). set l (v + n) q)
    (laid-merged n w r t v ram (λ j h. e j (omega arith)))
    (e n (omega arith) ∙ ap (mixed (column_of r n) (column_of t n)) (sym (merged-after n r t v ram (v + n) (le_refl (v + n)))))

-- the word of n columns mixed and stored
pub word-merged : (n r t v : ℕ) (ram : List ℕ) → ((c : ℕ) → get_or ram c 0 < 256)
    → laid n (mixed r t (joined n (λ j. get_or ram (v + j) 0))) v ram ≡ merged n r t v ram
word-merged n r t v ram w =
    laid-merged n (mixed r t (joined n (λ j. get_or ram (v + j) 0))) r t v ram
    (λ j h. column-mixed r t (joined n (λ i. get_or ram (v + i) 0)) j
    ∙ ap (mixed (column_of r j) (column_of t j)) (column-joined n (λ i. get_or ram (v + i) 0) (λ i. w (v + i)) j h))

-- a column by another name, at the same place
at_place : (r s t u p q : ℕ) {l k : List ℕ} → r ≡ s → t ≡ u → p ≡ q → l ≡ k → changed (mixed r t) p l ≡ changed (mixed s u) q k
at_place r s t u p q er et ep el = rw (er, et, ep, el)

-- eight columns are four and four
pub joined-eight : (q : ℕ → ℕ) → joined 4 q + 4294967296 * joined 4 (λ j. q (4 + j)) ≡ joined 8 q
unfolding joined
joined-eight q = omega arith

-- ---- the rows of a bank

-- the m rows of a bank, in each of four columns of a word r for bank 0 that is multiplied for bank 1
abbrev pub rows_there : ℕ → ℕ → ℕ → Bool
rows_there m r bank = all 4 (λ j. eqb (column_of (r * (1 + 3 * bank)) j) ((2 ^ m - 1) * (1 + 3 * bank)))

-- they become f, in a column of four rows
abbrev pub rows_put : ℕ → ℕ → Bool
rows_put m bank = all (2 ^ m) (λ f. all 16 (λ q. eqb (mixed ((2 ^ m - 1) * (1 + 3 * bank)) (5 * f) q) (with_rows (2 * bank) m f q)))

module _ (m r bank x v k t : ℕ) (ram before : List ℕ) (there : T (all 2 (rows_there m r))) (puts : T (all 2 (rows_put m))) (pm : 0 < m) (few : m ≤ 2) (pb : bank < 2) (w : Nibbles ram) (told : InBank m bank x k t)
    (eb : before ≡ put_bits (m * k) m (2 * bank) v x ram) where
  one-column : (j q : ℕ) → j < 4 → q < 16
      → mixed (column_of (r * (1 + 3 * bank)) j) (column_of t j) q ≡ with_rows (2 * bank) m (field x (m * (k + j)) m) q
  unfolding mixed
  one-column j q lj lq =
      let s : ℕ = (2 ^ m - 1) * (1 + 3 * bank) in
      let f : ℕ = field x (m * (k + j)) m in
      let er : column_of (r * (1 + 3 * bank)) j ≡ s =
      eqb→eq (column_of (r * (1 + 3 * bank)) j) s (all-at 4 (λ i. eqb (column_of (r * (1 + 3 * bank)) i) s) (all-at 2 (rows_there m r) there bank pb) j lj) in
      let of-f : T (all 16 (λ p. eqb (mixed s (5 * f) p) (with_rows (2 * bank) m f p))) =
      all-at (2 ^ m) (λ g. all 16 (λ p. eqb (mixed s (5 * g) p) (with_rows (2 * bank) m g p))) (all-at 2 (rows_put m) puts bank pb) f (field_lt x (m * (k + j)) m) in
      ap (λ (a : ℕ). mixed a (column_of t j) q) er
      ∙ ap (bit_or (bit_xor (bit_or q s) s)) (told j lj)
      ∙ eqb→eq (mixed s (5 * f) q) (with_rows (2 * bank) m f q) (all-at 16 (λ p. eqb (mixed s (5 * f) p) (with_rows (2 * bank) m f p)) of-f q lq)

  columns : (n : ℕ) → n ≤ 4 → merged n (r * (1 + 3 * bank)) t (v + k) before ≡ put_bits (m * (k + n)) m (2 * bank) v x ram
  unfolding merged
  columns zero h = rw (add-zero k) eb
  columns (suc n) h =
      let so_far : List ℕ = put_bits (m * (k + n)) m (2 * bank) v x ram in
      let f = mixed (column_of (r * (1 + 3 * bank)) n) (column_of t n) in
      let g = with_rows (2 * bank) m (field x (m * (k + n)) m) in
      ap (changed f (v + k + n)) (columns n (omega arith))
      ∙ changed-alike f g (v + k + n) so_far
      (one-column n (get_or so_far (v + k + n) 0) h (bits-nibbles (m * (k + n)) m (2 * bank) v x ram pm (omega arith) w (v + k + n)))
      ∙ ap (λ (c : ℕ). changed g c so_far) (add_assoc v k n)
      ∙ sym (column m (2 * bank) x v (k + n) ram m (le_refl m))
      ∙ ap (λ (c : ℕ). put_bits c m (2 * bank) v x ram) (sym (ap (λ (i : ℕ). m * i) (add-suc k n) ∙ mul-suc m (k + n)))

  -- four columns of a byte, from its column k on
  pub four-columns : (after : List ℕ) → after ≡ merged 4 (r * (1 + 3 * bank)) t (v + k) before → after ≡ put_bits (m * (k + 4)) m (2 * bank) v x ram
  four-columns after e = e ∙ columns 4 (le_refl 4)

-- the first four columns of a byte
pub first-four : (m r bank x v t : ℕ) (ram after : List ℕ) → T (all 2 (rows_there m r)) → T (all 2 (rows_put m)) → 0 < m → m ≤ 2 → bank < 2 → Nibbles ram → InBank m bank x 0 t
    → after ≡ merged 4 (r * (1 + 3 * bank)) t v ram → after ≡ put_bits (m * 4) m (2 * bank) v x ram
unfolding put_bits
first-four m r bank x v t ram after there puts pm few pb w told e =
    four-columns m r bank x v 0 t ram ram there puts pm few pb w told (rw (mul-zero m) refl) after (rw (add-zero v) e)

-- a word that has both banks has each
pub in_bank : (m bank x k t : ℕ) → Spread m x k t → InBank m bank x k t
in_bank m bank x k t told j h = ap (λ (n : ℕ). bit_and n ((2 ^ m - 1) * (1 + 3 * bank))) (told j h)

-- ---- 1:3, a byte and four of them

at-column : (r t u p q : ℕ) {l k : List ℕ} → t ≡ u → p ≡ q → l ≡ k → changed (mixed r t) p l ≡ changed (mixed r u) q k
at-column r t u p q et ep el = at_place r r t u p q refl et ep el

-- the first h rows become f, in a column of four rows
abbrev first_rows_put : ℕ → Bool
first_rows_put h = all (2 ^ h) (λ f. all 16 (λ q. eqb (mixed (2 ^ h - 1) f q) (with_rows 0 h f q)))

module _ (x v : ℕ) (ram : List ℕ) (w : Nibbles ram) where
  -- column j, of h rows
  rows-put : (j h : ℕ) → h ≤ 3 → T (first_rows_put h) → (before : List ℕ) → before ≡ put_bits (3 * j) 3 0 v x ram
      → changed (mixed (2 ^ h - 1) (field x (3 * j) h)) (v + j) before ≡ put_bits (3 * j + h) 3 0 v x ram
  rows-put j h few puts before e =
      let so_far : List ℕ = put_bits (3 * j) 3 0 v x ram in
      let f : ℕ = field x (3 * j) h in
      let q : ℕ = get_or so_far (v + j) 0 in
      let of-f : T (all 16 (λ p. eqb (mixed (2 ^ h - 1) f p) (with_rows 0 h f p))) =
      all-at (2 ^ h) (λ g. all 16 (λ p. eqb (mixed (2 ^ h - 1) g p) (with_rows 0 h g p))) puts f (field_lt x (3 * j) h) in
      ap (changed (mixed (2 ^ h - 1) f) (v + j)) e
      ∙ changed-alike (mixed (2 ^ h - 1) f) (with_rows 0 h f) (v + j) so_far
      (eqb→eq (mixed (2 ^ h - 1) f q) (with_rows 0 h f q) (all-at 16 (λ p. eqb (mixed (2 ^ h - 1) f p) (with_rows 0 h f p)) of-f q (bits-nibbles (3 * j) 3 0 v x ram (omega arith) (omega arith) w (v + j))))
      ∙ sym (column 3 0 x v j ram h few)

  pub three-put : merged 3 three_rows (three_columns x) v ram ≡ put_bits 8 3 0 v x ram
  unfolding merged column_of three_columns mixed with_rows put_bits
  three-put =
      let first = field_lt x 0 3 in
      let second = field_lt x 3 3 in
      let third = field_lt x 6 2 in
      let c0 : column_of (three_columns x) 0 ≡ field x 0 3 = omega arith in
      let q1 : three_columns x / 256 ≡ field x 3 3 + 256 * field x 6 2 = omega arith in
      let c1 : column_of (three_columns x) 1 ≡ field x 3 3 = ap (λ (n : ℕ). n % 256) q1 ∙ omega arith in
      let q2 : three_columns x / 65536 ≡ field x 6 2 = omega arith in
      let c2 : column_of (three_columns x) 2 ≡ field x 6 2 = ap (λ (n : ℕ). n % 256) q2 ∙ omega arith in
      at-column 3 (column_of (three_columns x) 2) (field x 6 2) (v + 2) (v + 2) c2 refl
      (at-column 7 (column_of (three_columns x) 1) (field x 3 3) (v + 1) (v + 1) c1 refl
      (at-column 7 (column_of (three_columns x) 0) (field x 0 3) (v + 0) (v + 0) {l = ram} c0 refl refl))
      ∙ rows-put 2 2 (omega arith) tt _ (rows-put 1 3 (omega arith) tt _ (rows-put 0 3 (omega arith) tt ram refl))

-- four bytes' words are three of four columns
pub twelve : (v a b c d : ℕ) (ram : List ℕ) → a < 16777216 → b < 16777216 → c < 16777216 → d < 16777216
    → merged 4 0x03070703 (c / 65536 + 256 * d) (v + 8) (merged 4 0x07070307 (b / 256 + 65536 * (c % 65536)) (v + 4) (merged 4 0x07030707 (a + 16777216 * (b % 256)) v ram))
    ≡ merged 3 three_rows d (v + 9) (merged 3 three_rows c (v + 6) (merged 3 three_rows b (v + 3) (merged 3 three_rows a v ram)))
unfolding merged column_of
twelve v a b c d ram la lb lc ld =
    at-column 3 _ _ _ _ (omega arith) (omega arith)
    (at-column 7 _ _ _ _ (omega arith) (omega arith)
    (at-column 7 _ _ _ _ (omega arith) (omega arith)
    (at-column 3 _ _ _ _ (omega arith) (omega arith)
    (at-column 7 _ _ _ _ (omega arith) (omega arith)
    (at-column 7 _ _ _ _ (omega arith) (omega arith)
    (at-column 3 _ _ _ _ (omega arith) (omega arith)
    (at-column 7 _ _ _ _ (omega arith) (omega arith)
    (at-column 7 _ _ _ _ (omega arith) (omega arith)
    (at-column 3 _ _ _ _ (omega arith) (omega arith)
    (at-column 7 _ _ _ _ (omega arith) (omega arith)
    (at-column 7 _ _ _ _ (omega arith) (omega arith) refl)))))))))))

-- ---- a byte spread over a word, as a test that computes

abbrev pub is_spread : ℕ → ℕ → ℕ → ℕ → Bool
is_spread m x k w = all 4 (λ j. eqb (column_of w j) (5 * field x (m * (k + j)) m))

pub tested : (m x k w : ℕ) → T (is_spread m x k w) → Spread m x k w
tested m x k w ok j h =
    eqb→eq (column_of w j) (5 * field x (m * (k + j)) m) (all-at 4 (λ i. eqb (column_of w i) (5 * field x (m * (k + i)) m)) ok j h)
