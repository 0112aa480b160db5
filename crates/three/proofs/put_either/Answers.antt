-- `three::put_either` meets its contract for either part.
-- Assumes nothing.
use mathlib.Core.Path.{sym, ap, subst, ◌∙◌}
use Prim.Native.Nat.{◌/◌}
use Rattle.sheet.specs.Parts.{Part, part_of}
use Rattle.writer_sheet.specs.Three.{pairs_from}
use Rattle.laws.proofs.Named.{is-pca85133, is-pcf8532}
use Rattle.three.specs.Room.{Chip}
use Rattle.three.proofs.put_either.Goals as goal

pub put_chip-requires : goal.put_chip-requires
unfolding part_of
put_chip-requires c = subst (λ (K : Part). Chip K c.args.c c.args.wanted.now c.args.out.now) (is-pca85133 _ c.if-part-eq-PCA85133.true) c.requires

pub put_chip-requires-else-part-eq-PCA85133 : goal.put_chip-requires-else-part-eq-PCA85133
unfolding part_of
put_chip-requires-else-part-eq-PCA85133 c = subst (λ (K : Part). Chip K c.args.c c.args.wanted.now c.args.out.now) (is-pcf8532 _ c.if-part-eq-PCA85133.false) c.requires

pub returns-then-part-eq-PCA85133 : goal.returns-then-part-eq-PCA85133
unfolding part_of pairs_from
returns-then-part-eq-PCA85133 c = let a = c.args in
    c.put_chip.ensures ∙ ap (λ (K : Part). pairs_from K (K.columns / 2) a.c a.wanted.now) (sym (is-pca85133 _ c.if-part-eq-PCA85133.true))

pub returns-else-part-eq-PCA85133 : goal.returns-else-part-eq-PCA85133
unfolding part_of pairs_from
returns-else-part-eq-PCA85133 c = let a = c.args in
    c.put_chip-else-part-eq-PCA85133.ensures ∙ ap (λ (K : Part). pairs_from K (K.columns / 2) a.c a.wanted.now) (sym (is-pcf8532 _ c.if-part-eq-PCA85133.false))
