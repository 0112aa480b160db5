-- follow: from the chips and the turn that it began with, the transfer has come to these.
-- Assumes nothing.
use Rattle.std.proofs.Common.{length, ◌-◌}
use Rattle.turns.proofs.Following.{Following}
use Rattle.plain.proofs.follow.Given as goal

abbrev pub invariant-loop-turn : goal.invariant-loop-turn
invariant-loop-turn l = Following l.initial.chips l.bytes l.fn.start l.turn l.chips

abbrev pub decreases-loop-turn : goal.decreases-loop-turn
decreases-loop-turn l = length l.bytes - l.turn.at
