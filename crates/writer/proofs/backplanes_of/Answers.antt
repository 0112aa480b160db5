-- `writer::backplanes_of` meets its contract: they go by M alone.
-- Assumes nothing.
use Rattle.sheet.specs.Registers.{backplanes}
use Rattle.writer.proofs.backplanes_of.Goals as goal

pub returns : goal.returns
unfolding backplanes
returns c = c.backplanes.ensures
