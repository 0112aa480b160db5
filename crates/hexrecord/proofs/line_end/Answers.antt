-- `hexrecord::line_end` meets its contract: LF, CR LF, or neither.
-- Assumes nothing.
use mathlib.Core.Path.{refl}
use native.Mathlib.Omega.{arith}
use borrow.Author.Tests.{eq-eqb, ne_eqb}
use Rattle.image_sheet.specs.Images.{line_end}
use Rattle.hexrecord.proofs.line_end.Goals as goal

pub returns-then-first-eq10 : goal.returns-then-first-eq10
unfolding line_end
returns-then-first-eq10 c = (rw (← c.byte_at-first.ensures, eq-eqb _ _ c.if-first-eq10.true) refl, omega arith)

pub returns-then-first-byte_at : goal.returns-then-first-byte_at
unfolding line_end
returns-then-first-byte_at c = (rw (← c.byte_at-first.ensures, ← c.byte_at.ensures, ne_eqb _ _ c.if-first-eq10.false, c.if-first-byte_at.true) refl, omega arith)

pub returns-else-first-byte_at : goal.returns-else-first-byte_at
unfolding line_end
returns-else-first-byte_at c = (rw (← c.byte_at-first.ensures, ← c.byte_at.ensures, ne_eqb _ _ c.if-first-eq10.false, c.if-first-byte_at.false) refl, omega arith)
