-- bank_shown: by its tests.
-- Assumes nothing.
use native.Mathlib.Omega.{arith}
use Rattle.shown.proofs.bank_shown.Goals as goal

pub returns-then-o-eq0 : goal.returns-then-o-eq0
returns-then-o-eq0 c = rw c.if-other.true (omega arith)

pub returns-else-o-eq0 : goal.returns-else-o-eq0
returns-else-o-eq0 c = rw c.if-other.true (omega arith)
