-- lose: all marks, or none.
-- Assumes nothing.
use Rattle.registers.proofs.lose.Goals as goal

pub returns-then-lost : goal.returns-then-lost
returns-then-lost c = rw c.if-lost.true

pub returns-else-lost : goal.returns-else-lost
returns-else-lost c = rw c.if-lost.false
