use Prim.Native.Nat.{◌*◌}
use Rattle.gather.proofs.Gathering.{Gathering}
use Rattle.gather.proofs.word_data.Given as goal

abbrev pub invariant-loop-four : goal.invariant-loop-four
invariant-loop-four l = Gathering 3 0 l.columns l.initial.out l.out (4 * l.four)
