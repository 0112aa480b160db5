-- `cases::buffer` meets its contract.
-- Assumes nothing.
use Rattle.lemmas.proofs.Lists.{zeros}
use Rattle.cases.proofs.buffer.Goals as goal

pub returns : goal.returns
returns c = zeros 700000
