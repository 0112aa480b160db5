-- `records::seen_bytes` meets its contract, by the version.
-- Assumes nothing.
use borrow.Author.Tests.{eq-eqb, ne_eqb}
use Rattle.records.proofs.seen_bytes.Goals as goal

pub returns-then-byte_at-eq2 : goal.returns-then-byte_at-eq2
returns-then-byte_at-eq2 c = rw (← c.byte_at.ensures, eq-eqb _ 2 c.if-byte_at-eq2.true)

pub returns-else-byte_at-eq2 : goal.returns-else-byte_at-eq2
returns-else-byte_at-eq2 c = rw (← c.byte_at.ensures, ne_eqb _ 2 c.if-byte_at-eq2.false)
