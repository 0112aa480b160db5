-- backplanes: by its one test.
-- Assumes nothing.
use borrow.Author.Tests.{eq-eqb, ne_eqb}
use Rattle.sheet.specs.Registers.{backplanes}
use Rattle.arithmetic.proofs.backplanes.Goals as goal

pub returns-then-registers-eq0 : goal.returns-then-registers-eq0
unfolding backplanes
returns-then-registers-eq0 c = rw (eq-eqb _ _ c.if-registers-eq0.true)

pub returns-else-registers-eq0 : goal.returns-else-registers-eq0
unfolding backplanes
returns-else-registers-eq0 c = rw (ne_eqb _ _ c.if-registers-eq0.false)
