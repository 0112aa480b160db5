-- `checks::check_sent` meets its contract.
-- Assumes nothing.
use Rattle.std.proofs.Common.{◌∙◌, sym, ap}
use Rattle.sheet.specs.Parts.{within}
use Rattle.sheet.specs.Checks.{check_bits}
use Rattle.checks.proofs.check_sent.Goals as goal

pub returns : goal.returns
unfolding check_bits within
returns c = rw (sym c.check_length.ensures ∙ c.in_ok-check_length.was) c.unless.ensures
