-- Bytes changed two columns at a time are columns changed one by one, from an even and from an odd column on; and a byte's columns so put are its bits.
-- Assumes nothing.
use mathlib.Core.Path.{◌≡◌, refl, sym, ap, ap₂, ◌∙◌}
use mathlib.Core.Logic.{◌≢◌}
use mathlib.Core.List.{List}
use Prim.Native.Nat.{ℕ, zero, suc, ◌+◌, ◌-◌, ◌*◌, ◌/◌, ◌%◌, ◌^◌, ◌≤◌, ◌<◌, min}
use native.Mathlib.Nat.{add-zero, add-suc, add_assoc, add_comm, mul-suc, mul_comm, mul-div_cancel, mul-mod_left, mod-lt, div-one, div-add-mod', div-mul-le_self, div-eq_of_lt, le_refl, le_trans, pow-le-pow_right, mul-zero, mul-add, mul_assoc, mul-le-mul_left, add-mul-div_right, add-mul-mod_self_right}
use native.Mathlib.Omega.{arith}
use lib.Bits.{bit_and, bit_or, bit_xor, and_shr, and_mod, and_lt, and_zero_r, or_shr, or_mod, or_lt, or_zero_r, xor_shr, xor_mod, xor_lt, xor_zero_r}
use lib.ListN.{length, get_or}
use lib.Arith.{digits_div}
use lib.Pow.{shr-shr, field, mod-mod-pow, pow-add, pow_pos}
use Rattle.sheet.specs.Data.{changed, put_bits, width_of}
use Rattle.packed_sheet.specs.Packed.{unpacked}
use Rattle.laws.proofs.Runs.{changed-alike, changed-past, unchanged, length-changed}
use Rattle.laws.proofs.Nibbles.{Nibbles, bits-nibbles}
use Rattle.laws.proofs.Packed.{columns-changed, length-unpacked}
use Rattle.words.specs.Fields.{with_rows, column_of, mixed, merged}
use Rattle.words.specs.Fields as fields
use Rattle.words.proofs.Fields.{column}
use Rattle.packed_words.specs.Placed.{nibble_of, placed, height}

-- ---- a byte is two columns

mixed-low : (r t q : ℕ) → mixed r t q % 16 ≡ mixed (r % 16) (t % 16) (q % 16)
unfolding mixed
mixed-low r t q =
    or_mod (bit_xor (bit_or q r) r) (bit_and t r) 4
    ∙ ap₂ bit_or (xor_mod (bit_or q r) r 4 ∙ ap (λ (n : ℕ). bit_xor n (r % 16)) (or_mod q r 4)) (and_mod t r 4)

mixed-high : (r t q : ℕ) → mixed r t q / 16 ≡ mixed (r / 16) (t / 16) (q / 16)
unfolding mixed
mixed-high r t q =
    or_shr (bit_xor (bit_or q r) r) (bit_and t r) 4
    ∙ ap₂ bit_or (xor_shr (bit_or q r) r 4 ∙ ap (λ (n : ℕ). bit_xor n (r / 16)) (or_shr q r 4)) (and_shr t r 4)

mixed-halves : (r t q : ℕ) → mixed r t q ≡ mixed (r % 16) (t % 16) (q % 16) + 16 * mixed (r / 16) (t / 16) (q / 16)
mixed-halves r t q =
    let n = mixed r t q in
    omega (arith, div-add-mod' n 16, mixed-low r t q, mixed-high r t q)

mixed-small : (r t q : ℕ) → r < 16 → t < 16 → q < 16 → mixed r t q < 16
unfolding mixed
mixed-small r t q lr lt lq = or_lt 4 (bit_xor (bit_or q r) r) (bit_and t r) (xor_lt 4 (bit_or q r) r (or_lt 4 q r lq lr) lr) (and_lt 4 t r lt lr)

-- no row is made another
mixed-none : (t q : ℕ) → mixed 0 t q ≡ q
unfolding mixed
mixed-none t q = rw (or_zero_r q, xor_zero_r q, and_zero_r t, or_zero_r q)

column-low : (w n : ℕ) → column_of w n % 16 ≡ nibble_of w (2 * n)
unfolding column_of nibble_of
column-low w n =
    let e : 8 * n ≡ 4 * (2 * n) = omega arith in
    mod-mod-pow (w / 2 ^ (8 * n)) 4 4 ∙ ap (λ (k : ℕ). w / 2 ^ k % 16) e

column-high : (w n : ℕ) → column_of w n / 16 ≡ nibble_of w (suc (2 * n))
unfolding column_of nibble_of
column-high w n =
    let e : 8 * n + 4 ≡ 4 * suc (2 * n) = omega arith in
    field (w / 2 ^ (8 * n)) 4 4 ∙ ap (λ (k : ℕ). k % 16) (shr-shr w (8 * n) 4) ∙ ap (λ (k : ℕ). w / 2 ^ k % 16) e

nibble_lt : (w j : ℕ) → nibble_of w j < 16
unfolding nibble_of
nibble_lt w j = mod-lt (w / 2 ^ (4 * j)) {m = 16} (omega arith)

-- n bytes are 2 n columns
pub merged-unpacked : (n r t i : ℕ) (xs : List ℕ) → unpacked (merged n r t i xs) ≡ placed (2 * n) r t (2 * i) (unpacked xs)
unfolding merged placed
merged-unpacked zero r t i xs = refl
merged-unpacked (suc n) r t i xs =
    let before = merged n r t i xs in
    let low = mixed (nibble_of r (2 * n)) (nibble_of t (2 * n)) in
    let high = mixed (nibble_of r (suc (2 * n))) (nibble_of t (suc (2 * n))) in
    let e : 2 * suc n ≡ suc (suc (2 * n)) = omega arith in
    let there : 2 * (i + n) ≡ 2 * i + 2 * n = omega arith in
    let next : 2 * i + 2 * n + 1 ≡ 2 * i + suc (2 * n) = omega arith in
    let both : (x : ℕ) → mixed (column_of r n) (column_of t n) x ≡ low (x % 16) + 16 * high (x / 16) =
    λ x. mixed-halves (column_of r n) (column_of t n) x
    ∙ ap₂ (λ (a b : ℕ). a + 16 * b)
    (ap₂ (λ (a b : ℕ). mixed a b (x % 16)) (column-low r n) (column-low t n))
    (ap₂ (λ (a b : ℕ). mixed a b (x / 16)) (column-high r n) (column-high t n)) in
    ap unpacked (changed-alike _ _ (i + n) before (both (get_or before (i + n) 0)))
    ∙ columns-changed low high (λ q l. mixed-small _ _ q (nibble_lt r (2 * n)) (nibble_lt t (2 * n)) l) (i + n) before
    ∙ ap (λ (c : ℕ). changed high (c + 1) (changed low c (unpacked before))) there
    ∙ ap₂ (λ (c : ℕ) (l : List ℕ). changed high c (changed low (2 * i + 2 * n) l)) next (merged-unpacked n r t i xs)
    ∙ ap (λ (k : ℕ). placed k r t (2 * i) (unpacked xs)) (sym e)

-- ---- columns that a word does not have, and columns that are not there

-- rows of a word that are none change nothing
changed-none : (r t c : ℕ) (ram : List ℕ) → r ≡ 0 → changed (mixed r t) c ram ≡ ram
changed-none r t c ram e =
    changed-alike (mixed r t) (λ q. q) c ram (ap (λ (n : ℕ). mixed n t (get_or ram c 0)) e ∙ mixed-none t (get_or ram c 0)) ∙ unchanged c ram

no_nibble : (w n j : ℕ) → w < 2 ^ (4 * n) → n ≤ j → nibble_of w j ≡ 0
unfolding nibble_of
no_nibble w n j l h = ap (λ (k : ℕ). k % 16) (div-eq_of_lt (le_trans l (pow-le-pow_right {n = 2} (omega arith) (omega (arith, h)))))

placed-none : (n d r t v : ℕ) (ram : List ℕ) → r < 2 ^ (4 * n) → placed (n + d) r t v ram ≡ placed n r t v ram
unfolding placed
placed-none n zero r t v ram l = rw (add-zero n)
placed-none n (suc d) r t v ram l =
    ap (λ (k : ℕ). placed k r t v ram) (add-suc n d)
    ∙ changed-none (nibble_of r (n + d)) (nibble_of t (n + d)) (v + (n + d)) _ (no_nibble r n (n + d) l (omega arith)) ∙ placed-none n d r t v ram l

length-placed : (n r t v : ℕ) (ram : List ℕ) → length (placed n r t v ram) ≡ length ram
unfolding placed
length-placed zero r t v ram = refl
length-placed (suc n) r t v ram = length-changed _ (v + n) (placed n r t v ram) ∙ length-placed n r t v ram

placed_past : (n d r t v : ℕ) (ram : List ℕ) → length ram ≤ v + n → placed (n + d) r t v ram ≡ placed n r t v ram
unfolding placed
placed_past n zero r t v ram h = rw (add-zero n)
placed_past n (suc d) r t v ram h =
    ap (λ (k : ℕ). placed k r t v ram) (add-suc n d)
    ∙ changed-past _ (v + (n + d)) (placed (n + d) r t v ram) (omega (arith, length-placed (n + d) r t v ram, h)) ∙ placed_past n d r t v ram h

-- ---- from an odd column on

later : (w j : ℕ) → nibble_of (16 * w) (suc j) ≡ nibble_of w j
unfolding nibble_of
later w j =
    let e : 4 * suc j ≡ 4 + 4 * j = omega arith in
    ap (λ (k : ℕ). 16 * w / 2 ^ k % 16) e ∙ ap (λ (k : ℕ). k % 16) (sym (shr-shr (16 * w) 4 (4 * j)) ∙ ap (λ (k : ℕ). k / 2 ^ (4 * j)) (ap (λ (k : ℕ). k / 16) (mul_comm 16 w) ∙ mul-div_cancel w {n = 16} (omega arith)))

first : (w : ℕ) → nibble_of (16 * w) 0 ≡ 0
unfolding nibble_of
first w = ap (λ (k : ℕ). k % 16) (div-one (16 * w) ∙ mul_comm 16 w) ∙ mul-mod_left w 16

placed-odd : (n r t v : ℕ) (ram : List ℕ) → placed (suc n) (16 * r) (16 * t) v ram ≡ placed n r t (v + 1) ram
unfolding placed
placed-odd zero r t v ram = changed-none (nibble_of (16 * r) 0) (nibble_of (16 * t) 0) (v + 0) ram (first r)
placed-odd (suc n) r t v ram =
    let e : v + suc n ≡ v + 1 + n = omega arith in
    ap₂ (λ (a b : ℕ). changed (mixed a b) (v + suc n) (placed (suc n) (16 * r) (16 * t) v ram)) (later r n) (later t n)
    ∙ ap₂ (λ (c : ℕ) (l : List ℕ). changed (mixed (nibble_of r n) (nibble_of t n)) c l) e (placed-odd n r t v ram)

-- ---- two words side by side

nibble_low : (n a b j : ℕ) → j < n → nibble_of (a + b * 2 ^ (4 * n)) j ≡ nibble_of a j
unfolding nibble_of
nibble_low n a b j l =
    let d = 4 * (n - suc j) in
    let e : 4 * n ≡ d + (4 + 4 * j) = omega arith in
    let parts : b * 2 ^ (4 * n) ≡ b * 2 ^ d * 16 * 2 ^ (4 * j) =
    ap (λ (k : ℕ). b * 2 ^ k) e ∙ ap (λ (k : ℕ). b * k) (pow-add 2 d (4 + 4 * j) ∙ ap (λ (k : ℕ). 2 ^ d * k) (pow-add 2 4 (4 * j)))
    ∙ sym (mul_assoc b (2 ^ d) (16 * 2 ^ (4 * j))) ∙ sym (mul_assoc (b * 2 ^ d) 16 (2 ^ (4 * j))) in
    ap (λ (k : ℕ). (a + k) / 2 ^ (4 * j) % 16) parts
    ∙ ap (λ (k : ℕ). k % 16) (add-mul-div_right a (b * 2 ^ d * 16) (pow_pos (4 * j)))
    ∙ add-mul-mod_self_right (a / 2 ^ (4 * j)) (b * 2 ^ d) 16

nibble_high : (n a b j : ℕ) → a < 2 ^ (4 * n) → nibble_of (a + b * 2 ^ (4 * n)) (n + j) ≡ nibble_of b j
unfolding nibble_of
nibble_high n a b j l =
    ap (λ (k : ℕ). (a + b * 2 ^ (4 * n)) / 2 ^ k % 16) (mul-add 4 n j)
    ∙ ap (λ (k : ℕ). k % 16) (sym (shr-shr (a + b * 2 ^ (4 * n)) (4 * n) (4 * j)))
    ∙ ap (λ (k : ℕ). k / 2 ^ (4 * n) / 2 ^ (4 * j) % 16) (add_comm a (b * 2 ^ (4 * n)))
    ∙ ap (λ (k : ℕ). k / 2 ^ (4 * j) % 16) (digits_div b l)

module _ (n r t r' t' v : ℕ) (ram : List ℕ) (lr : r < 2 ^ (4 * n)) (lt : t < 2 ^ (4 * n)) where
  rows : ℕ
  rows = r + r' * 2 ^ (4 * n)

  columns : ℕ
  columns = t + t' * 2 ^ (4 * n)

  placed-low : (k : ℕ) → k ≤ n → placed k rows columns v ram ≡ placed k r t v ram
  unfolding placed rows columns
  placed-low zero l = refl
  placed-low (suc k) l =
      ap₂ (λ (a b : ℕ). changed (mixed a b) (v + k) (placed k rows columns v ram)) (nibble_low n r r' k l) (nibble_low n t t' k l)
      ∙ ap (changed (mixed (nibble_of r k) (nibble_of t k)) (v + k)) (placed-low k (omega arith))

  -- the second word's columns come after the first one's
  pub placed-both : (k : ℕ) → placed (n + k) (r + r' * 2 ^ (4 * n)) (t + t' * 2 ^ (4 * n)) v ram ≡ placed k r' t' (v + n) (placed n r t v ram)
  unfolding placed rows columns
  placed-both zero = ap (λ (k : ℕ). placed k rows columns v ram) (add-zero n) ∙ placed-low n (le_refl n)
  placed-both (suc k) =
      ap (λ (i : ℕ). placed i rows columns v ram) (add-suc n k)
      ∙ ap₂ (λ (a b : ℕ). changed (mixed a b) (v + (n + k)) (placed (n + k) rows columns v ram)) (nibble_high n r r' k lr) (nibble_high n t t' k lt)
      ∙ ap₂ (λ (c : ℕ) (l : List ℕ). changed (mixed (nibble_of r' k) (nibble_of t' k)) c l) (sym (add_assoc v n k)) (placed-both k)

-- the rows of at most eight columns
pub rows_lt : (w r : ℕ) → w ≤ 8 → r < 2 ^ (4 * w) → r < 2 ^ 32
rows_lt w r few l = le_trans l (pow-le-pow_right {n = 2} (omega arith) {i = 4 * w} {j = 32} (omega arith))

-- ---- w columns from any column v on, in the bytes that have them

module _ (w r t v : ℕ) (xs : List ℕ) where
  even-there : v % 2 ≡ 0 → 2 * (v / 2) ≡ v
  even-there e = omega (arith, div-add-mod' v 2, e)

  odd-there : v % 2 ≢ 0 → 2 * (v / 2) + 1 ≡ v
  odd-there e = omega (arith, div-add-mod' v 2, mod-lt v {m = 2} (omega arith), e)

  -- from an even column on
  pub even-columns : (n d : ℕ) → 2 * n ≡ w + d → v % 2 ≡ 0 → r < 2 ^ (4 * w) → unpacked (merged n r t (v / 2) xs) ≡ placed w r t v (unpacked xs)
  even-columns n d e even l =
      merged-unpacked n r t (v / 2) xs
      ∙ ap₂ (λ (k c : ℕ). placed k r t c (unpacked xs)) e (even-there even)
      ∙ placed-none w d r t v (unpacked xs) l

  -- from an odd one on the word begins one column later
  pub odd-columns : (n d : ℕ) → 2 * n ≡ suc w + d → v % 2 ≢ 0 → r < 2 ^ (4 * w) → unpacked (merged n (16 * r) (16 * t) (v / 2) xs) ≡ placed w r t v (unpacked xs)
  odd-columns n d e odd l =
      let more : 16 * r < 2 ^ (4 * suc w) = rw (mul-suc 4 w, pow-add 2 (4 * w) 4) (omega (arith, l)) in
      merged-unpacked n (16 * r) (16 * t) (v / 2) xs
      ∙ ap (λ (k : ℕ). placed k (16 * r) (16 * t) (2 * (v / 2)) (unpacked xs)) e
      ∙ placed-none (suc w) d (16 * r) (16 * t) (2 * (v / 2)) (unpacked xs) more
      ∙ placed-odd w r t (2 * (v / 2)) (unpacked xs)
      ∙ ap (λ (c : ℕ). placed w r t c (unpacked xs)) (odd-there odd)

  -- at the end of the RAM the bytes that are left have all columns that are left
  pub even-edge : (n d : ℕ) → length xs ≡ v / 2 + n → w ≡ 2 * n + d → v % 2 ≡ 0 → unpacked (merged n r t (v / 2) xs) ≡ placed w r t v (unpacked xs)
  even-edge n d long e even =
      merged-unpacked n r t (v / 2) xs
      ∙ ap (λ (c : ℕ). placed (2 * n) r t c (unpacked xs)) (even-there even)
      ∙ sym (placed_past (2 * n) d r t v (unpacked xs) (omega (arith, length-unpacked xs, long, even-there even)))
      ∙ ap (λ (k : ℕ). placed k r t v (unpacked xs)) (sym e)

  pub odd-edge : (n d : ℕ) → 0 < n → length xs ≡ v / 2 + n → w + 1 ≡ 2 * n + d → v % 2 ≢ 0 → unpacked (merged n (16 * r) (16 * t) (v / 2) xs) ≡ placed w r t v (unpacked xs)
  odd-edge n d some long e odd =
      let k : ℕ = 2 * n - 1 in
      let twice : 2 * n ≡ suc k = omega arith in
      let whole : k + d ≡ w = omega arith in
      merged-unpacked n (16 * r) (16 * t) (v / 2) xs
      ∙ ap (λ (i : ℕ). placed i (16 * r) (16 * t) (2 * (v / 2)) (unpacked xs)) twice
      ∙ placed-odd k r t (2 * (v / 2)) (unpacked xs)
      ∙ ap (λ (c : ℕ). placed k r t c (unpacked xs)) (odd-there odd)
      ∙ sym (placed_past k d r t v (unpacked xs) (omega (arith, length-unpacked xs, long, odd-there odd)))
      ∙ ap (λ (i : ℕ). placed i r t v (unpacked xs)) whole

-- ---- a byte's columns are its bits

module _ (m b x v r t : ℕ) (ram : List ℕ) (pm : 0 < m) (rows : b + m ≤ 4) (w : Nibbles ram)
    (puts : (j q : ℕ) → j < width_of m → q < 16 → mixed (nibble_of r j) (nibble_of t j) q ≡ with_rows b (height m j) (fields.field x (m * j) (height m j)) q) where
  inside : (n : ℕ) → n < width_of m → m * n < 8
  inside n l = omega (arith, mul-le-mul_left {m = n} {n = 7 / m} m (omega arith), div-mul-le_self 7 m)

  bits-placed : (n : ℕ) → n ≤ width_of m → placed n r t v ram ≡ put_bits (min (m * n) 8) m b v x ram
  unfolding placed put_bits
  bits-placed zero l = rw (mul-zero m)
  bits-placed (suc n) l =
      let before = put_bits (m * n) m b v x ram in
      let few = inside n l in
      let e : min (m * n) 8 ≡ m * n = omega arith in
      let all : m * n + height m n ≡ min (m * suc n) 8 = omega (arith, mul-suc m n) in
      ap (changed (mixed (nibble_of r n) (nibble_of t n)) (v + n)) (bits-placed n (omega arith) ∙ ap (λ (k : ℕ). put_bits k m b v x ram) e)
      ∙ changed-alike _ _ (v + n) before (puts n (get_or before (v + n) 0) l (bits-nibbles (m * n) m b v x ram pm rows w (v + n)))
      ∙ sym (column m b x v n ram (height m n) (omega arith))
      ∙ ap (λ (k : ℕ). put_bits k m b v x ram) all

  pub byte-placed : placed (width_of m) r t v ram ≡ put_bits 8 m b v x ram
  byte-placed =
      let e : min (m * width_of m) 8 ≡ 8 = omega (arith, mul-add m (7 / m) 1, div-add-mod' 7 m, mod-lt 7 {m = m} pm) in
      bits-placed (width_of m) (le_refl (width_of m)) ∙ ap (λ (k : ℕ). put_bits k m b v x ram) e
