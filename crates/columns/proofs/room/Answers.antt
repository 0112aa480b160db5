-- room: by what is called.
-- Assumes nothing.
use Rattle.laws.proofs.Ranges.{planes_pos}
use Rattle.columns.proofs.room.Goals as goal

pub width-width-requires : goal.width-width-requires
width-width-requires c = rw c.backplanes.ensures (planes_pos _)
