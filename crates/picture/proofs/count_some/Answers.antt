-- `picture::count_some` meets its contract: after i turns the first i columns are counted.
-- Assumes nothing.
use mathlib.Core.Path.{refl}
use mathlib.Core.List.{List}
use Prim.Native.Nat.{ℕ, ◌≤◌, ◌<◌}
use native.Mathlib.Omega.{arith}
use lib.Count.{ones, ones-le}
use lib.ListN.{get_or}
use Rattle.sheet.specs.Pictures.{lit_in}
use Rattle.picture.proofs.Drawing.{one-lit}
use Rattle.picture.proofs.count_some.Goals as goal

-- a column has at most four ones
ones-few : (columns : List ℕ) (i : ℕ) → ((i : ℕ) → get_or columns i 0 < 16) → ones (get_or columns i 0) ≤ 4
ones-few columns i low = ones-le 4 _ (low i)

pub loop-column-init : goal.loop-column-init
unfolding lit_in
loop-column-init c = (refl, omega arith)

pub loop-column-preserved : goal.loop-column-preserved
unfolding lit_in
loop-column-preserved c = (one-lit c.loop-column.column-index c.args.columns.now c.loop-column-test.true c.loop-column.invariant.0, omega (arith, ones-few c.args.columns.now c.loop-column.column-index c.requires.1, c.loop-column.invariant.1))
