-- `arithmetic::position` meets its contract: registers in range are small.
-- Assumes nothing.
use native.Mathlib.Omega.{arith}
use Rattle.sheet.specs.Parts.{part_of}
use Rattle.sheet.specs.Places.{position}
use Rattle.laws.proofs.Ranges.{range-of}
use Rattle.laws.proofs.Named.{ram-small, columns-small}
use Rattle.arithmetic.proofs.position.Goals as goal

pub overflow_mul-result : goal.overflow_mul-result
overflow_mul-result c = let p = c in
    rw c.columns.ensures (omega (arith, ram-small p.args.part p.args.registers.a (range-of (part_of p.args.part) _ p.requires).a_in))

pub overflow_add-result : goal.overflow_add-result
overflow_add-result c = let p = c in
    let r = range-of (part_of p.args.part) _ p.requires in
    rw c.columns.ensures (omega (arith, ram-small p.args.part p.args.registers.a r.a_in, r.p-in, columns-small p.args.part))

pub returns : goal.returns
unfolding position
returns c = rw c.columns.ensures
