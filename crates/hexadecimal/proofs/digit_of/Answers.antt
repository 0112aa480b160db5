-- `hexadecimal::digit_of` meets its contract.
-- Assumes nothing.
use native.Mathlib.Omega.{arith}
use borrow.Author.Tests.{lt-ltb, le-ltb}
use Rattle.hexadecimal.proofs.digit_of.Goals as goal

pub returns-then-value-lt10 : goal.returns-then-value-lt10
returns-then-value-lt10 c = rw (lt-ltb _ _ c.if-value-lt10.true)

pub returns-else-value-lt10 : goal.returns-else-value-lt10
returns-else-value-lt10 c = rw (le-ltb _ _ c.if-value-lt10.false) (omega arith)
