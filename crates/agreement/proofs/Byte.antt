-- A byte bit by bit is the same byte column by column.
-- Assumes nothing.
use mathlib.Core.Path.{◌≡◌, refl, sym, ap, ◌∙◌}
use mathlib.Core.Logic.{⊎_elim}
use mathlib.Core.List.{List}
use Prim.Native.Nat.{ℕ, zero, suc, ◌+◌, ◌-◌, ◌*◌, ◌/◌, ◌%◌, ◌≤◌, ◌<◌, min}
use native.Mathlib.Nat.{add-zero, add-suc, mul_comm, mul-zero, mul-suc, le_refl, le_of_lt, min-eq_left, min-eq_right, mod-lt, div-add-mod}
use native.Mathlib.Omega.{arith}
use lib.ListN.{length, get_or}
use lib.Arith.{digits_div, digits_mod}
use borrow.Author.Tests.{lt-ltb, le-ltb}
use Rattle.lemmas.proofs.Order.{lt_or_le}
use Rattle.sheet.specs.Data.{bit_of, with_row, changed, put_bits, width_of}
use Rattle.sheet.specs.Plain.{put_rows}
use Rattle.laws.proofs.Runs.{changed-twice, changed-alike, unchanged, length-changed}

-- the first k columns of a byte
unfoldable pub put_columns : ℕ → ℕ → ℕ → ℕ → ℕ → List ℕ → List ℕ
put_columns zero m b v x ram = ram
put_columns (suc k) m b v x ram = changed (put_rows m b (m * k) x) (v + k) (put_columns k m b v x ram)

pub length-columns : (k m b v x : ℕ) (ram : List ℕ) → length (put_columns k m b v x ram) ≡ length ram
unfolding put_columns
length-columns zero m b v x ram = refl
length-columns (suc k) m b v x ram = length-changed _ (v + k) (put_columns k m b v x ram) ∙ length-columns k m b v x ram

-- ---- the bits of one column

-- past bit 7 no row is put
short : (h e b k x q : ℕ) → 8 ≤ k + h → put_rows (h + e) b k x q ≡ put_rows h b k x q
unfolding put_rows
short h zero b k x q l = rw (add-zero h)
short h (suc e) b k x q l = rw (add-suc h e, le-ltb (k + (h + e)) 8 (omega arith)) (short h e b k x q l)

module _ (m b v x : ℕ) (ram : List ℕ) where
  -- the next h bits after j columns go to rows of one column
  rows : (j h : ℕ) → h ≤ m → m * j + h ≤ 8 → put_bits (m * j + h) m b v x ram ≡ changed (put_rows h b (m * j) x) (v + j) (put_bits (m * j) m b v x ram)
  unfolding put_bits put_rows changed
  rows j zero l e = rw (add-zero (m * j)) (sym (unchanged (v + j) (put_bits (m * j) m b v x ram)))
  rows j (suc h) l e =
      let d : (m * j + h) / m ≡ j = rw (mul_comm m j) (digits_div j l) in
      let t : (m * j + h) % m ≡ h = rw (mul_comm m j) (digits_mod j l) in
      rw (add-suc (m * j) h, d, t, rows j h (le_of_lt l) (omega arith), lt-ltb (m * j + h) 8 (omega arith))
      (changed-twice (put_rows h b (m * j) x) (with_row (b + h) (bit_of x (m * j + h))) (v + j) (put_bits (m * j) m b v x ram))

  -- a column's rows are its bits below 8
  next-column : (k : ℕ) → m * k < 8
      → changed (put_rows m b (m * k) x) (v + k) (put_bits (m * k) m b v x ram) ≡ put_bits (min 8 (m * k + m)) m b v x ram
  next-column k l =
      ⊎_elim
      (λ (f : m * k + m < 8). rw (min-eq_right (le_of_lt f)) (sym (rows k m (le_refl m) (le_of_lt f))))
      (λ (f : 8 ≤ m * k + m).
      let g : m ≡ 8 - m * k + (m * k + m - 8) = omega arith in
      let t : m * k + (8 - m * k) ≡ 8 = omega arith in
      let ram' = put_bits (m * k) m b v x ram in
      let q = get_or ram' (v + k) 0 in
      changed-alike _ _ (v + k) ram' (ap (λ (i : ℕ). put_rows i b (m * k) x q) g ∙ short (8 - m * k) (m * k + m - 8) b (m * k) x q (omega arith))
      ∙ sym (rows k (8 - m * k) (omega arith) (omega arith))
      ∙ ap (λ (i : ℕ). put_bits i m b v x ram) (t ∙ sym (min-eq_left f)))
      (lt_or_le (m * k + m) 8)

  -- the first k columns are the bits below m * k, and there are eight
  columns-bits : (k : ℕ) → m * k < 8 + m → put_columns k m b v x ram ≡ put_bits (min 8 (m * k)) m b v x ram
  unfolding put_columns put_bits
  columns-bits zero l = rw (mul-zero m)
  columns-bits (suc k) l =
      let f : m * k < 8 = omega (arith, mul-suc m k) in
      rw (columns-bits k (omega arith), min-eq_right (le_of_lt f), mul-suc m k) (next-column k f)

  pub by-columns : 0 < m → put_bits 8 m b v x ram ≡ put_columns (width_of m) m b v x ram
  by-columns pm =
      let d = div-add-mod 7 m in
      let l = mod-lt 7 pm in
      let f : m * width_of m < 8 + m = omega (arith, d, l) in
      let e : 8 ≤ m * width_of m = omega (arith, d, l) in
      sym (columns-bits (width_of m) f ∙ ap (λ (i : ℕ). put_bits i m b v x ram) (min-eq_left e))
