-- `picture::draw_in` meets its contract, in either form.
-- Assumes nothing.
use mathlib.Core.Path.{subst}
use mathlib.Core.Bool.{Bool}
use Rattle.packed_sheet.specs.Packed.{columns_in}
use Rattle.picture.specs.Drawn.{Drawable}
use Rattle.picture.proofs.draw_in.Goals as goal

pub draw_packed-requires : goal.draw_packed-requires
draw_packed-requires c = let a = c.args in
    subst (λ (b : Bool). Drawable (columns_in b a.ram.now) a.first a.height a.out.now) c.if-packed.true c.requires

pub draw-requires : goal.draw-requires
draw-requires c = let a = c.args in
    subst (λ (b : Bool). Drawable (columns_in b a.ram.now) a.first a.height a.out.now) c.if-packed.false c.requires

pub returns-then-packed : goal.returns-then-packed
returns-then-packed c = rw c.if-packed.true c.draw_packed.ensures

pub returns-else-packed : goal.returns-else-packed
returns-else-packed c = rw c.if-packed.false c.draw.ensures
