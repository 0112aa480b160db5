-- `listener::acknowledger` meets its contract.
-- Assumes nothing.
use mathlib.Core.Path.{ap}
use borrow.Author.Tests.{lt-ltb, le-ltb}
use Rattle.std.specs.Prelude.{Some}
use Rattle.sheet.specs.Data.{acknowledger}
use Rattle.listener.proofs.acknowledger.Goals as goal

pub returns-then-column-size : goal.returns-then-column-size
unfolding acknowledger
returns-then-column-size c = rw (lt-ltb _ _ c.if-column-size.true) (ap Some c.chip_of.ensures)

pub returns-else-column-size : goal.returns-else-column-size
unfolding acknowledger
returns-else-column-size c = rw (le-ltb _ _ c.if-column-size.false)
