-- `picture::draw_some` meets its contract: after i turns the first i columns are written and counted.
-- Assumes nothing.
use mathlib.Core.Path.{◌≡◌}
use Prim.Native.Nat.{ℕ, ◌≤◌, ◌<◌}
use native.Mathlib.Omega.{arith}
use lib.Count.{ones}
use lib.ListN.{get_or}
use Rattle.std.specs.Prelude.{Some}
use Rattle.sheet.specs.Pictures.{lit}
use Rattle.laws.proofs.Lit.{rows-lit}
use Rattle.picture.proofs.Drawing.{begun, few, one-turn}
use Rattle.picture.proofs.draw_some.Goals as goal

-- a column has no more ones than rows, and there are few columns
ones-few : (height first q value : ℕ) → value ≡ lit height (Some first) q → height < 5 → ones value ≤ 4
ones-few height first q value e rows = rw e (omega (arith, rows-lit height first q, rows))

pub overflow_add-ones : goal.overflow_add-ones
overflow_add-ones c = let pre = c.requires in
    omega (arith, ones-few c.args.height c.args.first (get_or c.args.columns.now c.loop-i.i 0) c.lit_rows-value.result c.lit_rows-value.ensures pre.rows, few c.loop-i.invariant pre.rows, c.loop-i-test.true, pre.most)

pub loop-i-init : goal.loop-i-init
loop-i-init c = begun c.requires.size

pub loop-i-preserved : goal.loop-i-preserved
loop-i-preserved c = one-turn c.loop-i.invariant c.loop-i-test.true c.lit_rows-value.ensures
