-- `text::put_decimal` meets its contract: a number below ten is its one digit.
-- Assumes nothing.
use mathlib.Core.Path.{ap}
use native.Mathlib.Omega.{arith}
use lib.ListN.{length}
use Rattle.text.proofs.Decimals.{one-digit}
use Rattle.text.proofs.put_decimal.Goals as goal

pub put_digit-requires : goal.put_digit-requires
put_digit-requires c = (c.if-n-ge10.false, omega (arith, c.requires, ap length (one-digit c.args.n c.if-n-ge10.false)))

pub returns-else-n-ge10 : goal.returns-else-n-ge10
returns-else-n-ge10 c = rw (one-digit _ c.if-n-ge10.false) c.put_digit.ensures
