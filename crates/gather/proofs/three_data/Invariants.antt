use Rattle.gather.proofs.Gathering.{Gathering}
use Rattle.gather.proofs.three_data.Given as goal

abbrev pub invariant-loop-j : goal.invariant-loop-j
invariant-loop-j l = Gathering 3 0 l.columns l.initial.out l.out l.j
