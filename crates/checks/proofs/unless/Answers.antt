-- `checks::unless` meets its contract.
-- Assumes nothing.
use Rattle.checks.proofs.unless.Goals as goal

pub returns-else-holds : goal.returns-else-holds
returns-else-holds c = rw c.if-holds.false

pub returns-then-holds : goal.returns-then-holds
returns-then-holds c = rw c.if-holds.true
