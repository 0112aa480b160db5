-- `lines::put_seen` meets its contract: a line, or nothing.
-- Assumes nothing.
use borrow.Author.Tests.{eq-eqb, ne_eqb}
use Rattle.text.proofs.Writing.{puts-nothing}
use Rattle.lines.proofs.put_seen.Goals as goal

pub put_line-requires : goal.put_line-requires
put_line-requires c = rw (ne_eqb _ _ c.if-seen-modelled.false) at c.requires

pub returns-then-seen-modelled : goal.returns-then-seen-modelled
returns-then-seen-modelled c = rw (eq-eqb _ _ c.if-seen-modelled.true) (puts-nothing _ _)

pub returns-else-seen-modelled : goal.returns-else-seen-modelled
returns-else-seen-modelled c = rw (ne_eqb _ _ c.if-seen-modelled.false) c.put_line.ensures
