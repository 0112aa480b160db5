-- `wire::put_registers` meets its contract: twelve bytes are set whole.
-- Assumes nothing.
use mathlib.Core.Path.{refl}
use native.Mathlib.Omega.{arith}
use lib.ListN.{length-set}
use Rattle.lemmas.proofs.Lists.{filled}
use Rattle.wire.specs.Bytes.{bytes_of}
use Rattle.wire.proofs.put_registers.Goals as goal

pub returns : goal.returns
returns c = filled (bytes_of c.args.registers) c.args.out.now c.requires

pub bounds-out-4 : goal.bounds-out-4
bounds-out-4 c = simp length-set (omega arith)

pub bounds-out-5 : goal.bounds-out-5
bounds-out-5 c = simp length-set (omega arith)

pub bounds-out-6 : goal.bounds-out-6
bounds-out-6 c = simp length-set (omega arith)

pub bounds-out-7 : goal.bounds-out-7
bounds-out-7 c = simp length-set (omega arith)

pub bounds-out-8 : goal.bounds-out-8
bounds-out-8 c = simp length-set (omega arith)

pub bounds-out-9 : goal.bounds-out-9
bounds-out-9 c = simp length-set (omega arith)

pub bounds-out-10 : goal.bounds-out-10
bounds-out-10 c = simp length-set (omega arith)

pub bounds-out-11 : goal.bounds-out-11
bounds-out-11 c = simp length-set (omega arith)

pub shape_of-out : goal.shape_of-out
shape_of-out c = simp length-set refl
