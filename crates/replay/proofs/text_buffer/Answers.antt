-- `replay::text_buffer` meets its contract.
-- Assumes nothing.
use Rattle.buslog.specs.Replays.{room}
use Rattle.lemmas.proofs.Lists.{zeros}
use Rattle.replay.proofs.text_buffer.Goals as goal

pub returns : goal.returns
returns c = zeros room
