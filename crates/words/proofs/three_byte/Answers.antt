-- `words::three_byte` meets its contract: two columns of three rows and one of two.
-- Assumes nothing.
use mathlib.Core.Path.{refl}
use native.Mathlib.Omega.{arith}
use Rattle.words.specs.Fields.{with_rows}
use Rattle.words.proofs.Bytes.{first, later}
use Rattle.words.proofs.three_byte.Goals as goal

pub returns : goal.returns
unfolding with_rows
returns c = let a = c.args in
    let y = c.reversed-y in
    let e0 = first 3 0 a.x a.at y.result a.ram.now y.ensures 3 5 _ (omega arith) refl c.put.ensures in
    let e1 = later 3 0 a.x a.at y.result a.ram.now y.ensures 1 3 2 _ _ (omega arith) refl e0 c.put-2.ensures in
    later 3 0 a.x a.at y.result a.ram.now y.ensures 2 2 0 _ _ (omega arith) refl e1 c.put-3.ensures
