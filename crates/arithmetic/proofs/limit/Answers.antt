-- `arithmetic::limit` meets its contract for either part.
-- Assumes nothing.
use Rattle.laws.proofs.Named.{is-pca85133, is-pcf8532}
use Rattle.arithmetic.proofs.limit.Goals as goal

pub returns-then-part-eq-PCA85133 : goal.returns-then-part-eq-PCA85133
returns-then-part-eq-PCA85133 c = rw (is-pca85133 _ c.if-part-eq-PCA85133.true)

pub returns-else-part-eq-PCA85133 : goal.returns-else-part-eq-PCA85133
returns-else-part-eq-PCA85133 c = rw (is-pcf8532 _ c.if-part-eq-PCA85133.false)
