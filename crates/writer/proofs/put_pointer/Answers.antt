-- `writer::put_pointer` meets its contract for either part: three bytes, or five, set whole.
-- Assumes nothing.
use mathlib.Core.Path.{◌≡◌, sym, ap, ◌∙◌}
use mathlib.Core.List.{[], ◌∷◌, ◌++◌}
use Prim.Native.Nat.{◌+◌, ◌*◌, ◌<◌}
use native.Mathlib.Omega.{arith}
use lib.ListN.{length, length-set}
use Rattle.lemmas.proofs.Lists.{filled}
use Rattle.sheet.specs.Parts.{Part}
use Rattle.writer_sheet.specs.Writer.{each_after80}
use Rattle.laws.proofs.Named.{is-pca85133, is-pcf8532, pointer-bytes}
use Rattle.writer.proofs.put_pointer.Goals as goal

some : (c : goal.Start) → 2 < length c.args.out.now
some c = omega (arith, c.requires, (pointer-bytes c.args.part).0)

three : (c : goal.Then-part-eq-PCA85133) → length c.args.out.now ≡ 3
three c = c.requires ∙ ap (λ (K : Part). 2 * length (K.pointer 0) + 1) (is-pca85133 _ c.if-part-eq-PCA85133.true)

five : (c : goal.Else-part-eq-PCA85133) → length c.args.out.now ≡ 5
five c = c.requires ∙ ap (λ (K : Part). 2 * length (K.pointer 0) + 1) (is-pcf8532 _ c.if-part-eq-PCA85133.false)

pub returns-then-part-eq-PCA85133 : goal.returns-then-part-eq-PCA85133
returns-then-part-eq-PCA85133 c = filled (0x80 ∷ 0x00 ∷ 0x40 ∷ []) c.args.out.now (three c) ∙ sym (ap (λ (K : Part). each_after80 (K.pointer 0) ++ (0x40 ∷ [])) (is-pca85133 _ c.if-part-eq-PCA85133.true))

pub returns-else-part-eq-PCA85133 : goal.returns-else-part-eq-PCA85133
returns-else-part-eq-PCA85133 c = filled (0x80 ∷ 0x00 ∷ 0x80 ∷ 0x40 ∷ 0x40 ∷ []) c.args.out.now (five c) ∙ sym (ap (λ (K : Part). each_after80 (K.pointer 0) ++ (0x40 ∷ [])) (is-pcf8532 _ c.if-part-eq-PCA85133.false))

pub bounds-out-0 : goal.bounds-out-0
bounds-out-0 c = omega (arith, some c)

pub bounds-out-1 : goal.bounds-out-1
bounds-out-1 c = simp length-set (omega (arith, some c))

pub bounds-out-2 : goal.bounds-out-2
bounds-out-2 c = simp length-set (omega (arith, three c))

pub bounds-out-2-else-part-eq-PCA85133 : goal.bounds-out-2-else-part-eq-PCA85133
bounds-out-2-else-part-eq-PCA85133 c = simp length-set (omega (arith, five c))

pub bounds-out-3 : goal.bounds-out-3
bounds-out-3 c = simp length-set (omega (arith, five c))

pub bounds-out-4 : goal.bounds-out-4
bounds-out-4 c = simp length-set (omega (arith, five c))
