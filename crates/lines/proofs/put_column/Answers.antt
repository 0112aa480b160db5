-- `lines::put_column` meets its contract: a line, or nothing.
-- Assumes nothing.
use native.Mathlib.Omega.{arith}
use borrow.Author.Tests.{eq-eqb, ne_eqb}
use Rattle.text.proofs.Writing.{puts-nothing}
use Rattle.lines.proofs.put_column.Goals as goal

pub put_line-requires : goal.put_line-requires
put_line-requires c = rw (ne_eqb c.args.value 0 (omega arith)) at c.requires

pub returns-then-value-eq0 : goal.returns-then-value-eq0
returns-then-value-eq0 c = rw (eq-eqb _ 0 c.if-value-eq0.true) (puts-nothing _ _)

pub returns-else-value-eq0 : goal.returns-else-value-eq0
returns-else-value-eq0 c = rw (ne_eqb _ 0 c.if-value-eq0.false) c.put_line.ensures
