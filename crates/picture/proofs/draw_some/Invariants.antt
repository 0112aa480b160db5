use Rattle.picture.proofs.Drawing.{Drawing}
use Rattle.picture.proofs.draw_some.Given as goal

abbrev pub invariant-loop-i : goal.invariant-loop-i
invariant-loop-i l = Drawing l.first l.height l.columns l.out l.ones l.i
