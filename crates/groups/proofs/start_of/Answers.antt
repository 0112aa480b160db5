-- `groups::start_of` meets its contract for either group.
-- Assumes nothing.
use borrow.Author.Tests.{eq-eqb, ne_eqb}
use Rattle.groups.proofs.start_of.Goals as goal

pub returns-then-group-eq0 : goal.returns-then-group-eq0
returns-then-group-eq0 c = rw (eq-eqb _ _ c.if-group-eq0.true)

pub returns-else-group-eq0 : goal.returns-else-group-eq0
returns-else-group-eq0 c = rw (ne_eqb _ _ c.if-group-eq0.false) c.columns_in.ensures
