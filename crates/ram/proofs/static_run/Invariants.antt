use Prim.Native.Nat.{◌*◌}
use Rattle.ram.proofs.Runs.{Running}
use Rattle.ram.proofs.static_run.Given as goal

abbrev pub invariant-loop-i : goal.invariant-loop-i
invariant-loop-i l = Running 1 (2 * l.bank) l.v l.bytes l.initial.ram l.ram l.i
