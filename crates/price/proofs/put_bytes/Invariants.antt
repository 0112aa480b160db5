use Prim.Native.Nat.{◌-◌}
use lib.ListN.{length}
use Rattle.price.proofs.Fronting.{Spelling}
use Rattle.price.proofs.put_bytes.Given as goal

abbrev pub invariant-loop-i : goal.invariant-loop-i
invariant-loop-i l = Spelling l.mode l.text l.initial.out l.place l.i l.out

abbrev pub decreases-loop-i : goal.decreases-loop-i
decreases-loop-i l = length l.text - l.i
