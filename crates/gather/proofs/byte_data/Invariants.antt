use Prim.Native.Nat.{◌*◌}
use Rattle.gather.proofs.Gathering.{Gathering}
use Rattle.gather.proofs.byte_data.Given as goal

abbrev pub invariant-loop-j : goal.invariant-loop-j
invariant-loop-j l = Gathering l.m (2 * l.bank) l.columns l.initial.out l.out l.j
