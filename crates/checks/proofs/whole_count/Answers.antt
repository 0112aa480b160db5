-- `checks::whole_count` meets its contract.
-- Assumes nothing.
use native.Mathlib.Omega.{arith}
use borrow.Author.Tests.{lt-ltb, le-ltb}
use Rattle.checks.proofs.whole_count.Goals as goal

pub returns-then-bits-ge8 : goal.returns-then-bits-ge8
returns-then-bits-ge8 c = rw (le-ltb c.args.bits 8 c.if-bits-ge8.true)

pub returns-then-size-eq0 : goal.returns-then-size-eq0
returns-then-size-eq0 c = rw (lt-ltb c.args.bits 8 c.if-bits-ge8.false) (omega (arith, c.if-size-eq0.true))

pub returns-else-size-eq0 : goal.returns-else-size-eq0
returns-else-size-eq0 c = rw (lt-ltb c.args.bits 8 c.if-bits-ge8.false)
