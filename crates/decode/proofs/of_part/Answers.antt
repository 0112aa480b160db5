-- `decode::of_part` meets its contract.
-- Assumes nothing.
use mathlib.Core.Path.{refl}
use borrow.Author.Tests.{eq-eqb, ne_eqb}
use Rattle.decode.proofs.of_part.Goals as goal

pub returns-then-part-eq-PCA85133 : goal.returns-then-part-eq-PCA85133
returns-then-part-eq-PCA85133 c = rw (eq-eqb _ 1 c.if-part-eq-PCA85133.true) refl

pub returns-else-part-eq-PCA85133 : goal.returns-else-part-eq-PCA85133
returns-else-part-eq-PCA85133 c = rw (ne_eqb _ 1 c.if-part-eq-PCA85133.false) refl
