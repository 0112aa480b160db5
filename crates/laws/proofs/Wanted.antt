-- The data bytes of wanted rows: each bit is that of the row that it lands on, and the rows that bits land on are those that a plain run reaches.
-- Assumes nothing.
use mathlib.Core.Path.{◌≡◌, refl, sym, ap, ap₂, ◌∙◌}
use mathlib.Core.Logic.{⊎_elim, ◌≢◌}
use mathlib.Core.Bool.{true}
use mathlib.Core.List.{List, [], ◌∷◌, ◌++◌}
use Prim.Native.Nat.{ℕ, zero, suc, ◌+◌, ◌-◌, ◌*◌, ◌/◌, ◌%◌, ◌^◌, ◌≤◌, ◌<◌}
use native.Mathlib.Nat.{add_comm, mul_comm, pow-suc, div-one, mod-lt, div-add-mod, le-div_iff_mul-le, div-mul-le_self}
use native.Mathlib.Omega.{arith}
use lib.Arith.{digits_div, digits_mod}
use lib.Dec.{leb, ltb}
use lib.ListN.{length, get_or, length-append, get_or-append}
use lib.Pow.{shr-shr}
use lib.Seq.{get_or-append_seam}
use borrow.Author.Tests.{le-leb, lt-ltb, leb-true, ltb-true}
use Rattle.lemmas.proofs.Order.{equal_or_not}
use Rattle.lemmas.proofs.Tests.{both_true}
use Rattle.sheet.specs.Data.{bit_of, width_of}
use Rattle.writer_sheet.specs.Writer.{bit_from, bits_from, data_from, bytes_for}
use Rattle.writer_sheet.specs.Puts.{reaches, AlikeWhere}
use Rattle.laws.proofs.Rows.{within-width}

-- ---- the bits of a byte

pub bit_lt : (m b v : ℕ) (wanted : List ℕ) (k : ℕ) → bit_from m b v wanted k < 2
bit_lt m b v wanted k = mod-lt (get_or wanted (v + k / m) 0 / 2 ^ (b + k % m)) {m = 2} (omega arith)

pub bits_lt : (n m b v : ℕ) (wanted : List ℕ) → bits_from n m b v wanted < 2 ^ n
unfolding bits_from
bits_lt zero m b v wanted = omega arith
bits_lt (suc n) m b v wanted = rw (pow-suc 2 n) (omega (arith, bits_lt n m b v wanted, bit_lt m b v wanted n))

-- of n bits, the one with d behind it
pub bits_at : (n m b v : ℕ) (wanted : List ℕ) (d k : ℕ) → n ≡ suc k + d → bits_from n m b v wanted / 2 ^ d % 2 ≡ bit_from m b v wanted k
unfolding bits_from
bits_at zero m b v wanted d k e = absurd (omega arith)
bits_at (suc n) m b v wanted zero k e =
    let same : n ≡ k = omega arith in
    rw (div-one (2 * bits_from n m b v wanted + bit_from m b v wanted n), same) (omega (arith, bit_lt m b v wanted k))
bits_at (suc n) m b v wanted (suc d) k e =
    let x : ℕ = 2 * bits_from n m b v wanted + bit_from m b v wanted n in
    let half : x / 2 ≡ bits_from n m b v wanted = omega (arith, bit_lt m b v wanted n) in
    ap (λ (i : ℕ). i % 2) (ap (λ (i : ℕ). x / 2 ^ i) (sym (add_comm 1 d ∙ omega arith)) ∙ sym (shr-shr x 1 d) ∙ ap (λ (i : ℕ). i / 2 ^ d) half)
    ∙ bits_at n m b v wanted d k (omega arith)

pub bit_at : (m b v : ℕ) (wanted : List ℕ) (k : ℕ) → k < 8 → bit_of (bits_from 8 m b v wanted) k ≡ bit_from m b v wanted k
bit_at m b v wanted k h = bits_at 8 m b v wanted (7 - k) k (omega arith)

-- ---- the bytes

pub length_data : (n m b : ℕ) (wanted : List ℕ) → length (data_from n m b wanted) ≡ n
unfolding data_from
length_data zero m b wanted = refl
length_data (suc n) m b wanted = length-append (data_from n m b wanted) _ ∙ omega (arith, length_data n m b wanted)

pub data_at : (n m b : ℕ) (wanted : List ℕ) (j : ℕ) → j < n → get_or (data_from n m b wanted) j 0 ≡ bits_from 8 m b (width_of m * j) wanted
unfolding data_from
data_at zero m b wanted j h = absurd (omega arith)
data_at (suc n) m b wanted j h =
    let x : ℕ = bits_from 8 m b (width_of m * n) wanted in
    ⊎_elim
    (λ (e : j ≡ n).
    ap (λ (i : ℕ). get_or (data_from n m b wanted ++ (x ∷ [])) i 0) (e ∙ sym (length_data n m b wanted))
    ∙ get_or-append_seam (data_from n m b wanted) x [] 0 ∙ ap (λ (i : ℕ). bits_from 8 m b (width_of m * i) wanted) (sym e))
    (λ (ne : j ≢ n). get_or-append (data_from n m b wanted) (x ∷ []) 0 j (rw (length_data n m b wanted) (omega arith)) ∙ data_at n m b wanted j (omega arith))
    (equal_or_not j n)

-- ---- what a plain run reaches

-- row q of column c is where bit k of byte j lands
pub record Bit (m b c q : ℕ) : Type 0 where
  pub byte : ℕ
  pub bit : ℕ
  pub eight : bit < 8
  pub column : c ≡ width_of m * byte + bit / m
  pub row : q ≡ b + bit % m
  pub byte-is : byte ≡ c / width_of m

pub reached : (m b c q : ℕ) → 0 < m → reaches m b c q ≡ true → Bit m b c q
unfolding reaches
reached m b c q pm e =
    let t = both_true (leb b q) _ e in
    let u = both_true (ltb q (b + m)) _ t.1 in
    let above : b ≤ q = leb-true b q t.0 in
    let below : q < b + m = ltb-true q (b + m) u.0 in
    let i : ℕ = c % width_of m in
    let k : ℕ = m * i + (q - b) in
    let rest : q - b < m = omega arith in
    let d : k / m ≡ i = rw (mul_comm m i) (digits_div i rest) in
    let r : k % m ≡ q - b = rw (mul_comm m i) (digits_mod i rest) in
    record {
      byte = c / width_of m;
      bit = k;
      eight = ltb-true k 8 u.1;
      column = rw d (sym (div-add-mod c (width_of m)));
      row = rw r (omega arith);
      byte-is = refl;
    }

-- and back
pub reached-by : (m b j k : ℕ) → 0 < m → k < 8 → reaches m b (width_of m * j + k / m) (b + k % m) ≡ true
unfolding reaches
reached-by m b j k pm h =
    let w : ℕ = width_of m in
    let i : (w * j + k / m) % w ≡ k / m = rw (mul_comm w j) (digits_mod j (within-width m k pm h)) in
    let r : b + k % m - b ≡ k % m = omega arith in
    rw (i, r, div-add-mod k m, le-leb b (b + k % m) (omega arith), lt-ltb (b + k % m) (b + m) (omega (arith, mod-lt k pm)), lt-ltb k 8 h)

-- a column that is there has its byte
pub byte-there : (m c size : ℕ) → c < size → c / width_of m < bytes_for m size
byte-there m c size h = (le-div_iff_mul-le {k = width_of m} {x = suc (c / width_of m)} {y = size + (width_of m - 1)} (omega arith)).1 (omega (arith, div-mul-le_self c (width_of m)))

-- ---- what it does not reach is ignored

same_bits : (n m b v : ℕ) (one other : List ℕ) → ((k : ℕ) → k < n → bit_from m b v one k ≡ bit_from m b v other k) → bits_from n m b v one ≡ bits_from n m b v other
unfolding bits_from
same_bits zero m b v one other e = refl
same_bits (suc n) m b v one other e = ap₂ (λ (x t : ℕ). 2 * x + t) (same_bits n m b v one other (λ k h. e k (omega arith))) (e n (omega arith))

pub same_data : (n m b : ℕ) (one other : List ℕ) → 0 < m → AlikeWhere m b one other → data_from n m b one ≡ data_from n m b other
unfolding data_from
same_data zero m b one other pm alike = refl
same_data (suc n) m b one other pm alike =
    ap₂ (λ (xs : List ℕ) (x : ℕ). xs ++ (x ∷ [])) (same_data n m b one other pm alike)
    (same_bits 8 m b (width_of m * n) one other (λ k h. alike (width_of m * n + k / m) (b + k % m) (reached-by m b n k pm h)))
