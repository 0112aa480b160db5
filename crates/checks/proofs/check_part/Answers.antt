-- `checks::check_part` meets its contract.
-- Assumes nothing.
use Rattle.sheet.specs.Checks.{check_part}
use Rattle.checks.proofs.check_part.Goals as goal

pub returns : goal.returns
unfolding check_part
returns c = c.unless.ensures
