-- in_range: the code's tests are the definition's, grouped from the left.
-- Assumes nothing.
use mathlib.Core.Bool.{and_assoc}
use Rattle.sheet.specs.Registers.{in_range}
use Rattle.registers.proofs.in_range.Goals as goal

pub returns : goal.returns
unfolding in_range
returns c = rw (c.marks_fit.ensures, c.limit.ensures, c.columns.ensures) (simp (and_assoc))
