-- `copies::copy` meets its contract: after i turns the first i bytes are copied.
-- Assumes nothing.
use mathlib.Core.Path.{refl, sym, ◌∙◌}
use native.Mathlib.Omega.{arith}
use Rattle.lemmas.proofs.Mapped.{mapped-one, mapped-all, copied}
use Rattle.copies.proofs.copy.Goals as goal

pub loop-i-init : goal.loop-i-init
loop-i-init c = record { size = c.requires; so_far = refl }

pub bounds-to-i : goal.bounds-to-i
bounds-to-i c = omega (arith, c.loop-i.invariant.size)

pub loop-i-preserved : goal.loop-i-preserved
loop-i-preserved c = mapped-one _ _ _ _ _ c.loop-i-test.true refl c.loop-i.invariant

pub shape_of-to : goal.shape_of-to
shape_of-to c = c.loop-i.invariant.size ∙ sym c.requires

pub returns : goal.returns
returns c = mapped-all _ _ _ _ c.loop-i-test.false c.loop-i.invariant ∙ copied _
