use Prim.Native.Nat.{◌*◌}
use Rattle.ram.proofs.Runs.{Running}
use Rattle.ram.proofs.three_fours.Given as goal

abbrev pub invariant-loop-four : goal.invariant-loop-four
invariant-loop-four l = Running 3 0 l.v l.bytes l.initial.ram l.ram (4 * l.four)
