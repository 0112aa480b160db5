-- The bytes of a word, and those of a data byte at a column of a chip of either part.
-- Assumes nothing.
use mathlib.Core.Path.{◌≡◌, ap₂}
use mathlib.Core.List.{List, [], ◌∷◌}
use Prim.Native.Nat.{ℕ, ◌+◌, ◌*◌, ◌/◌, ◌%◌, ◌<◌}
use native.Mathlib.Omega.{arith}
use Rattle.sheet.specs.Parts.{pcf8532, pca85133}
use Rattle.writer_sheet.specs.Three.{pair_of, byte_at}
use Rattle.laws.proofs.Wanted.{bits_lt}
use Rattle.words.specs.Fields.{joined, column_of}
use Rattle.gather.specs.Gathered.{side}
use Rattle.gather.proofs.Sides.{columns-side, column-at}

pub word_bytes : (w a b c d : ℕ) → w ≡ side a b c d → a < 256 → b < 256 → c < 256 → d < 256 → column_of w 0 ∷ column_of w 1 ∷ column_of w 2 ∷ column_of w 3 ∷ [] ≡ a ∷ b ∷ c ∷ d ∷ []
word_bytes w a b c d is la lb lc ld = let e = columns-side a b c d la lb lc ld in
    rw is (ap₂ (λ (x : ℕ) (l : List ℕ). x ∷ l) e.0 (ap₂ (λ (x : ℕ) (l : List ℕ). x ∷ l) e.1 (ap₂ (λ (x y : ℕ). x ∷ y ∷ []) e.2 e.3)))

pub pair_lt : (wanted : List ℕ) (c : ℕ) → pair_of wanted c < 256
pair_lt wanted c = omega (arith, bits_lt 6 3 0 c wanted)

-- the data byte i of four
pub pair-at : (wanted : List ℕ) (c w i : ℕ) → w ≡ joined 4 (λ k. pair_of wanted (c + 2 * k)) → i < 4 → column_of w i ≡ pair_of wanted (c + 2 * i)
pair-at wanted c w i e l = rw e (column-at (λ k. pair_of wanted (c + 2 * k)) (λ k. pair_lt wanted (c + 2 * k)) i l)

pub large_at : (c p x : ℕ) → c % 160 ≡ 0 → p < 160 → 0x80 ∷ (0xE0 + c / 160) ∷ 0x80 ∷ p / 16 ∷ 0x80 ∷ (0x40 + p % 16) ∷ 0xC0 ∷ x ∷ [] ≡ byte_at pcf8532 (c + p) x
large_at c p x e l =
    let chip : c / 160 ≡ (c + p) / 160 = omega (arith, e, l) in
    let column : p ≡ (c + p) % 160 = omega (arith, e, l) in
    ap₂ (λ (i q : ℕ). 0x80 ∷ (0xE0 + i) ∷ 0x80 ∷ q / 16 ∷ 0x80 ∷ (0x40 + q % 16) ∷ 0xC0 ∷ x ∷ []) chip column

pub small_at : (c p x : ℕ) → c % 80 ≡ 0 → p < 80 → 0x80 ∷ (0xE0 + c / 80) ∷ 0x80 ∷ p ∷ 0xC0 ∷ x ∷ [] ≡ byte_at pca85133 (c + p) x
small_at c p x e l =
    let chip : c / 80 ≡ (c + p) / 80 = omega (arith, e, l) in
    let column : p ≡ (c + p) % 80 = omega (arith, e, l) in
    ap₂ (λ (i q : ℕ). 0x80 ∷ (0xE0 + i) ∷ 0x80 ∷ q ∷ 0xC0 ∷ x ∷ []) chip column
