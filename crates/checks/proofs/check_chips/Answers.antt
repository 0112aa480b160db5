-- `checks::check_chips` meets its contract.
-- Assumes nothing.
use Rattle.sheet.specs.Checks.{check_chips}
use Rattle.checks.proofs.check_chips.Goals as goal

pub returns : goal.returns
unfolding check_chips
returns c = rw c.limit-limit.ensures at c.unless.ensures
