use Rattle.lemmas.proofs.Mapped.{Mapped}
use Rattle.copies.proofs.copy.Given as goal

abbrev pub invariant-loop-i : goal.invariant-loop-i
invariant-loop-i l = Mapped (λ q. q) l.from l.to l.i
