-- `protocol::after_control` meets its contract, by Co.
-- Assumes nothing.
use mathlib.Core.Path.{ap}
use borrow.Author.Tests.{eq-eqb, ne_eqb}
use Rattle.sheet.specs.declared.Expect.TheVariants.{One, All}
use Rattle.sheet.specs.Protocol.{control_of}
use Rattle.protocol.proofs.after_control.Goals as goal

pub returns-then-byte-eq1 : goal.returns-then-byte-eq1
unfolding control_of
returns-then-byte-eq1 c = rw (eq-eqb _ _ c.if-byte-eq1.true) (ap One c.kind_of-kind.ensures)

pub returns-else-byte-eq1 : goal.returns-else-byte-eq1
unfolding control_of
returns-else-byte-eq1 c = rw (ne_eqb _ _ c.if-byte-eq1.false) (ap All c.kind_of-kind.ensures)
