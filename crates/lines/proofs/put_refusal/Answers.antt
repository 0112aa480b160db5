-- `lines::put_refusal` meets its contract: one line of the refusal's number and place.
-- Assumes nothing.
use native.Mathlib.Omega.{arith}
use Rattle.lines.proofs.put_refusal.Goals as goal

pub put_line-requires : goal.put_line-requires
put_line-requires c = rw (c.number_of.ensures, c.place_of.ensures) (omega (arith, c.requires))

pub returns : goal.returns
returns c = rw (← c.number_of.ensures, ← c.place_of.ensures) c.put_line.ensures
