use Rattle.ram.proofs.Runs.{Running}
use Rattle.ram.proofs.three_bytes.Given as goal

abbrev pub invariant-loop-i : goal.invariant-loop-i
invariant-loop-i l = Running 3 0 l.v l.bytes l.initial.ram l.ram l.i
