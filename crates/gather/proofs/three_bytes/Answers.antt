-- `gather::three_bytes` meets its contract: twelve columns of three rows.
-- Assumes nothing.
use mathlib.Core.Path.{◌≡◌, ap, ap₂, ◌∙◌}
use Prim.Native.Nat.{ℕ, ◌+◌, ◌*◌, ◌<◌}
use native.Mathlib.Omega.{arith}
use lib.Bits.{bit_or, and_le_r}
use lib.ListN.{get_or}
use Rattle.words.specs.Fields.{joined, column_of}
use Rattle.gather.specs.Gathered.{side, turned_three}
use Rattle.gather.proofs.Sides.{columns_of}
use Rattle.gather.proofs.Exchanged.{laid_out, last_rows, three-words}
use Rattle.gather.proofs.three_bytes.Goals as goal

side-alike : (w x y z w₁ x₁ y₁ z₁ : ℕ) → w ≡ w₁ → x ≡ x₁ → y ≡ y₁ → z ≡ z₁ → side w x y z ≡ side w₁ x₁ y₁ z₁
side-alike w x y z w₁ x₁ y₁ z₁ ew ex ey ez = omega arith

-- the columns of each word
read : (g : ℕ → ℕ) (v w : ℕ) → w ≡ joined 4 (λ j. g (v + j)) → ((i : ℕ) → g i < 256) → (column_of w 0 ≡ g (v + 0)) × (column_of w 1 ≡ g (v + 1)) × (column_of w 2 ≡ g (v + 2)) × (column_of w 3 ≡ g (v + 3))
read g v w e h = let c = columns_of (λ j. g (v + j)) (λ j. h (v + j)) in
    (ap (λ (x : ℕ). column_of x 0) e ∙ c.0, ap (λ (x : ℕ). column_of x 1) e ∙ c.1, ap (λ (x : ℕ). column_of x 2) e ∙ c.2, ap (λ (x : ℕ). column_of x 3) e ∙ c.3)

-- every third
module _ (g : ℕ → ℕ) (v a b c : ℕ) (ea : a ≡ joined 4 (λ j. g (v + j))) (eb : b ≡ joined 4 (λ j. g (v + 4 + j))) (ec : c ≡ joined 4 (λ j. g (v + 8 + j))) (h : (i : ℕ) → g i < 256) where
  same : (i k : ℕ) → i ≡ k → g i ≡ g k
  same i k e = ap g e

  first : side (column_of a 0) (column_of a 3) (column_of b 2) (column_of c 1) ≡ joined 4 (λ i. g (v + 3 * i))
  unfolding joined
  first = side-alike _ _ _ _ _ _ _ _ (read g v a ea h).0 (read g v a ea h).3 ((read g (v + 4) b eb h).2 ∙ same (v + 4 + 2) (v + 6) (omega arith)) ((read g (v + 8) c ec h).1 ∙ same (v + 8 + 1) (v + 9) (omega arith))

  second : side (column_of a 1) (column_of b 0) (column_of b 3) (column_of c 2) ≡ joined 4 (λ i. g (v + 3 * i + 1))
  unfolding joined
  second = side-alike _ _ _ _ _ _ _ _ ((read g v a ea h).1 ∙ same (v + 1) (v + 0 + 1) (omega arith)) ((read g (v + 4) b eb h).0 ∙ same (v + 4 + 0) (v + 3 + 1) (omega arith)) ((read g (v + 4) b eb h).3 ∙ same (v + 4 + 3) (v + 6 + 1) (omega arith)) ((read g (v + 8) c ec h).2 ∙ same (v + 8 + 2) (v + 9 + 1) (omega arith))

  third : side (column_of a 2) (column_of b 1) (column_of c 0) (column_of c 3) ≡ joined 4 (λ i. g (v + 3 * i + 2))
  unfolding joined
  third = side-alike _ _ _ _ _ _ _ _ ((read g v a ea h).2 ∙ same (v + 2) (v + 0 + 2) (omega arith)) ((read g (v + 4) b eb h).1 ∙ same (v + 4 + 1) (v + 3 + 2) (omega arith)) ((read g (v + 8) c ec h).0 ∙ same (v + 8 + 0) (v + 6 + 2) (omega arith)) ((read g (v + 8) c ec h).3 ∙ same (v + 8 + 3) (v + 9 + 2) (omega arith))

pub returns : goal.returns
returns c = let a = c.args in
    let g : ℕ → ℕ = λ i. get_or a.columns.now i 0 in
    let h : (i : ℕ) → g i < 256 = λ i. (c.shared_slice_known-1.given i).fits in
    let ea = c.four_columns-a.ensures in
    let eb = c.four_columns-b.ensures in
    let ec = c.four_columns-c.ensures in
    ap₂ (λ (x y : ℕ). bit_or x (last_rows y)) c.turned_three.ensures (c.thirds-third.ensures ∙ third g a.at _ _ _ ea eb ec h)
    ∙ ap₂ (λ (x y : ℕ). bit_or (turned_three (laid_out x y)) (last_rows (joined 4 (λ i. g (a.at + 3 * i + 2))))) (c.firsts.ensures ∙ first g a.at _ _ _ ea eb ec h) (c.seconds.ensures ∙ second g a.at _ _ _ ea eb ec h)
    ∙ three-words a.at a.columns.now h

pub overflow_mul-both : goal.overflow_mul-both
overflow_mul-both c = omega (arith, and_le_r c.firsts.result 0x07070707)

pub overflow_mul-both-2 : goal.overflow_mul-both-2
overflow_mul-both-2 c = omega (arith, and_le_r c.seconds.result 0x07070707)

pub overflow_add-both : goal.overflow_add-both
overflow_add-both c = omega (arith, and_le_r c.seconds.result 0x07070707, and_le_r c.firsts.result 0x07070707)

pub overflow_mul-result : goal.overflow_mul-result
overflow_mul-result c = omega (arith, and_le_r c.thirds-third.result 0x01010101)
