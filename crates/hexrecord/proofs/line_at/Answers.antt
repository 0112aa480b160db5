-- `hexrecord::line_at` meets its contract: a colon and a line's end first, then the digits between.
-- Assumes nothing.
use mathlib.Core.Path.{◌≡◌, sym, ap, ap₂, ◌∙◌}
use mathlib.Core.Bool.{Bool, true, false, ◌&&◌}
use mathlib.Core.List.{List}
use Prim.Native.Nat.{ℕ, ◌+◌}
use native.Mathlib.Omega.{arith}
use lib.Dec.{eqb, ltb}
use lib.ListN.{get_or}
use borrow.Author.Tests.{ltb-true}
use Rattle.lemmas.proofs.Tests.{both_true}
use Rattle.image_sheet.specs.Images.{pair_of}
use Rattle.hexrecord.proofs.Finding.{ends-inside, is-line, no_line}
use Rattle.hexrecord.proofs.line_at.Goals as goal

-- what the length's two digits say
counted : (file : List ℕ) (at : ℕ) {count x y : ℕ} → count ≡ pair_of x y → x ≡ get_or file (at + 1) 0 → y ≡ get_or file (at + 2) 0 → count ≡ pair_of (get_or file (at + 1) 0) (get_or file (at + 2) 0)
counted file at e f g = e ∙ ap₂ pair_of f g

-- the test of the colon and the line's end, by the byte that was read
tested : (file : List ℕ) (at x over : ℕ) {t : Bool} → x ≡ get_or file at 0 → (eqb x 58 && ltb 0 over) ≡ t → (eqb (get_or file at 0) 58 && ltb 0 over) ≡ t
tested file at x over e h = ap (λ (k : ℕ). eqb k 58 && ltb 0 over) (sym e) ∙ h

pub slice_bounds-are_digits-end : goal.slice_bounds-are_digits-end
slice_bounds-are_digits-end c = let over = ltb-true 0 c.line_end-over.result (both_true (eqb c.byte_at-3.result 58) (ltb 0 c.line_end-over.result) c.if-byte_at-over.true).1 in
    let inside = ends-inside _ c.args.file.now (rw c.line_end-over.ensures.0 at over) in
    omega (arith, inside)

pub returns-then-are_digits : goal.returns-then-are_digits
returns-then-are_digits c = sym (is-line c.args.file.now c.args.at _ _ _ (counted c.args.file.now c.args.at c.pair_of-count.ensures.0 c.byte_at.ensures c.byte_at-2.ensures) (omega arith) c.line_end-over.ensures.0 true (tested c.args.file.now c.args.at c.byte_at-3.result c.line_end-over.result c.byte_at-3.ensures c.if-byte_at-over.true) (sym c.are_digits.ensures ∙ c.if-are_digits.true))

pub returns-else-are_digits : goal.returns-else-are_digits
returns-else-are_digits c = sym (is-line c.args.file.now c.args.at _ _ _ (counted c.args.file.now c.args.at c.pair_of-count.ensures.0 c.byte_at.ensures c.byte_at-2.ensures) (omega arith) c.line_end-over.ensures.0 false (tested c.args.file.now c.args.at c.byte_at-3.result c.line_end-over.result c.byte_at-3.ensures c.if-byte_at-over.true) (sym c.are_digits.ensures ∙ c.if-are_digits.false))

pub returns-else-byte_at-over : goal.returns-else-byte_at-over
returns-else-byte_at-over c = sym (no_line c.args.file.now c.args.at _ _ _ (counted c.args.file.now c.args.at c.pair_of-count.ensures.0 c.byte_at.ensures c.byte_at-2.ensures) (omega arith) c.line_end-over.ensures.0 (tested c.args.file.now c.args.at c.byte_at-3.result c.line_end-over.result c.byte_at-3.ensures c.if-byte_at-over.false))
