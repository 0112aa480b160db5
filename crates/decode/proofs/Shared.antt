-- The bytes that both parts tell alike: all but 00 to 4F and E0 to EF.
-- Assumes nothing.
use mathlib.Core.Path.{◌≡◌, refl, sym, ◌∙◌}
use mathlib.Core.Bool.{Bool, true, false, ◌&&◌, false≢true}
use Prim.Native.Nat.{ℕ, ◌≤◌, ◌<◌, ◌%◌}
use native.Mathlib.Omega.{arith}
use lib.Dec.{eqb, leb}
use borrow.Author.Tests.{eqb-true, eqb-false, leb-true, leb-false}
use Rattle.sheet.specs.declared.Command.TheVariants.{PointerHigh}
use Rattle.sheet.specs.Parts.{within, part_of, pcf8532, pca85133, pcf8532_ranges, pca85133_ranges, command_in}
use Rattle.laws.proofs.Named.{is-pca85133, is-pcf8532}
use Rattle.laws.proofs.Stretches.{stretch}

middle : (x : ℕ) → 80 ≤ x → x ≤ 223 → pcf8532.command x ≡ pca85133.command x
unfolding within
middle x l h = go (leb x 191) (leb x 207) refl refl
  where
    go : (p q : Bool) → leb x 191 ≡ p → leb x 207 ≡ q → command_in pcf8532_ranges x ≡ command_in pca85133_ranges x
    go true q ep eq = let k = leb-true x 191 ep in sym (stretch pcf8532_ranges 80 191 x l k refl) ∙ stretch pca85133_ranges 80 191 x l k refl
    go false true ep eq =
        let j = leb-false x 191 ep in
        let k = leb-true x 207 eq in
        sym (stretch pcf8532_ranges 192 207 x (omega arith) k refl) ∙ stretch pca85133_ranges 192 207 x (omega arith) k refl
    go false false ep eq = let k = leb-false x 207 eq in sym (stretch pcf8532_ranges 208 223 x (omega arith) h refl) ∙ stretch pca85133_ranges 208 223 x (omega arith) h refl

top : (x : ℕ) → 240 ≤ x → x < 256 → pcf8532.command x ≡ pca85133.command x
unfolding within
top x l h = go (leb x 247) (leb x 251) refl refl
  where
    go : (p q : Bool) → leb x 247 ≡ p → leb x 251 ≡ q → command_in pcf8532_ranges x ≡ command_in pca85133_ranges x
    go true q ep eq = let k = leb-true x 247 ep in sym (stretch pcf8532_ranges 240 247 x l k refl) ∙ stretch pca85133_ranges 240 247 x l k refl
    go false true ep eq =
        let j = leb-false x 247 ep in
        let k = leb-true x 251 eq in
        sym (stretch pcf8532_ranges 248 251 x (omega arith) k refl) ∙ stretch pca85133_ranges 248 251 x (omega arith) k refl
    go false false ep eq = let k = leb-false x 251 eq in sym (stretch pcf8532_ranges 252 255 x (omega arith) (omega arith) refl) ∙ stretch pca85133_ranges 252 255 x (omega arith) (omega arith) refl

pub shared : (part x : ℕ) → x < 256 → (eqb part 1 && leb x 79) ≡ false → ((eqb part 1 && leb 224 x) && leb x 239) ≡ false → pcf8532.command x ≡ (part_of part).command x
shared part x h p e = go (eqb part 1) (leb x 79) (leb 224 x) (leb x 239) refl refl refl refl p e
  where
    go : (o a b c : Bool) → eqb part 1 ≡ o → leb x 79 ≡ a → leb 224 x ≡ b → leb x 239 ≡ c → (o && a) ≡ false → ((o && b) && c) ≡ false → pcf8532.command x ≡ (part_of part).command x
    go false a b c eo ea eb ec p e = rw (is-pcf8532 part (eqb-false part 1 eo))
    go true true b c eo ea eb ec p e = absurd (false≢true (sym p))
    go true false true true eo ea eb ec p e = absurd (false≢true (sym e))
    go true false true false eo ea eb ec p e = let k = leb-false x 239 ec in rw (is-pca85133 part (eqb-true part 1 eo)) (top x (omega arith) h)
    go true false false c eo ea eb ec p e =
        let j = leb-false x 79 ea in
        let k = leb-false 224 x eb in
        rw (is-pca85133 part (eqb-true part 1 eo)) (middle x (omega arith) (omega arith))

-- 00 to 09 are pointer high, with the low four bits
pub high_command : (x : ℕ) → x ≤ 9 → command_in pcf8532_ranges x ≡ PointerHigh (x % 16)
unfolding within
high_command x h = sym (stretch pcf8532_ranges 0 9 x (omega arith) h refl)
