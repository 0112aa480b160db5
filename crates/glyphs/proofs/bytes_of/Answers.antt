-- `glyphs::bytes_of` meets its contract, M by M.
-- Assumes nothing.
use mathlib.Core.Path.{◌≡◌}
use native.Mathlib.Omega.{arith}
use Rattle.glyphs.proofs.bytes_of.Goals as goal

pub returns-in-0 : goal.returns-in-0
returns-in-0 c = let is : c.args.mode ≡ 0 = omega arith in rw is c.arranged.ensures

pub returns-in-1 : goal.returns-in-1
returns-in-1 c = let is : c.args.mode ≡ 1 = omega arith in rw is c.arranged-in-1.ensures

pub returns-in-2 : goal.returns-in-2
returns-in-2 c = let is : c.args.mode ≡ 2 = omega arith in rw is c.arranged-in-2.ensures

pub returns-in_default : goal.returns-in_default
returns-in_default c = let is : c.args.mode ≡ 3 = omega arith in rw is c.arranged-in_default.ensures
