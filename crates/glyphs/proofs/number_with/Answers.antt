-- `glyphs::number_with` meets its contract, for either number.
-- Assumes nothing.
use mathlib.Core.Path.{refl}
use borrow.Author.Tests.{lt-ltb, le-ltb}
use Rattle.glyphs.proofs.number_with.Goals as goal

pub returns-then-k-lt8 : goal.returns-then-k-lt8
returns-then-k-lt8 c = rw (lt-ltb _ 8 c.if-k-lt8.true) refl

pub returns-else-k-lt8 : goal.returns-else-k-lt8
returns-else-k-lt8 c = rw (le-ltb _ 8 c.if-k-lt8.false) refl
