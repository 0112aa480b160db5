use Rattle.price.proofs.Fronting.{Reading}
use Rattle.price.proofs.put_texts.Given as goal

abbrev pub invariant-loop-i : goal.invariant-loop-i
invariant-loop-i l = Reading l.mode l.segments l.initial.out l.place l.i l.out
