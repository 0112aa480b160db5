-- `checks::words_low` meets its contract: where the rows brought together have none over row 3, no column before i is over 15.
-- Assumes nothing.
use mathlib.Core.Path.{◌≡◌, sym, ap, ap₂, subst, ◌∙◌}
use mathlib.Core.Bool.{◌&&◌}
use mathlib.Core.List.{List}
use mathlib.Core.Logic.{⊎_elim}
use Prim.Native.Nat.{ℕ, ◌+◌, ◌-◌, ◌*◌, ◌%◌, ◌^◌, ◌≤◌, ◌<◌}
use native.Mathlib.Omega.{arith}
use lib.Bits.{bit_and, bit_or, and_zero_l}
use lib.ListN.{length, get_or, get_or-eq_default}
use borrow.Author.Tests.{eqb-true, eq-eqb}
use Rattle.lemmas.proofs.Order.{lt_or_le}
use Rattle.lemmas.proofs.Tests.{both_true}
use Rattle.words.specs.Fields.{joined}
use Rattle.checks.proofs.Low.{over, neither, together, word_fits, word_low, low_word}
use Rattle.checks.proofs.words_low.Goals as goal

-- eight columns more
module _ (columns : List ℕ) (bytes : (k : ℕ) → get_or columns k 0 < 256) (rows i w : ℕ) (fits : rows < 2 ^ 64) (told : w ≡ joined 8 (λ j. get_or columns (i + j) 0)) where
  small : w < 2 ^ 64
  small = subst (λ (n : ℕ). n < 2 ^ 64) (sym told) (word_fits (λ j. get_or columns (i + j) 0) (λ j. bytes (i + j)))

  turn : (bit_and rows over ≡ 0 → (j : ℕ) → j < i → get_or columns j 0 < 16) → bit_and (bit_or rows w) over ≡ 0 → (j : ℕ) → j < i + 8 → get_or columns j 0 < 16
  turn low none j h =
      let both = neither 64 rows w over fits small none in
      let next = word_low (λ k. get_or columns (i + k) 0) (λ k. bytes (i + k)) (ap (λ (n : ℕ). bit_and n over) (sym told) ∙ both.1) in
      ⊎_elim (λ (l : j < i). low both.0 j l)
      (λ (l : i ≤ j). let same : i + (j - i) ≡ j = omega arith in subst (λ (k : ℕ). get_or columns k 0 < 16) same (next (j - i) (omega arith)))
      (lt_or_le j i)

  turned : (((j : ℕ) → j < i → get_or columns j 0 < 16) → bit_and rows over ≡ 0) → ((j : ℕ) → j < i + 8 → get_or columns j 0 < 16) → bit_and (bit_or rows w) over ≡ 0
  turned none low = together 64 rows w over fits small (none (λ j h. low j (omega (arith, h))))
      (ap (λ (n : ℕ). bit_and n over) told ∙ low_word (λ k. get_or columns (i + k) 0) (λ k. bytes (i + k)) (λ k h. low (i + k) (omega (arith, h))))

pub loop-word-init : goal.loop-word-init
loop-word-init c = (λ e j h. absurd (omega (arith, h)), λ low. and_zero_l over)

pub loop-word-preserved : goal.loop-word-preserved
loop-word-preserved c = let columns = c.args.columns.now in
    let rows = c.loop-word.rows in
    let at = 8 * c.loop-word.word in
    let w = c.eight_columns-rows.result in
    let fits : rows < 2 ^ 64 = c.loop-word.auto.rows-fits.fits in
    let bytes : (k : ℕ) → get_or columns k 0 < 256 = λ i. (c.type_inv.columns i).fits in
    let told = c.eight_columns-rows.ensures in (
      λ none j h. turn columns bytes rows at w fits told c.loop-word.invariant.0 none j (omega (arith, h)),
      λ low. turned columns bytes rows at w fits told c.loop-word.invariant.1 (λ j h. low j (omega (arith, h))),
    )

pub returns : goal.returns
returns c = let columns = c.args.columns.now in record {
  nibbles = λ t. let both = both_true _ _ t in
      let all : 8 * c.loop-word.word ≡ length columns = omega (arith, eqb-true (length columns % 8) 0 both.0, c.loop-word-test.false, c.loop-word.auto.word-end) in
      λ j. ⊎_elim (λ (l : j < length columns). c.loop-word.invariant.0 (eqb-true _ 0 both.1) j (omega (arith, l, all))) (λ (l : length columns ≤ j). rw (get_or-eq_default columns 0 l) (omega arith)) (lt_or_le j (length columns));
  value = λ eight low. ap₂ ◌&&◌ (eq-eqb _ 0 eight) (eq-eqb _ 0 (c.loop-word.invariant.1 (λ j h. low j)));
}
