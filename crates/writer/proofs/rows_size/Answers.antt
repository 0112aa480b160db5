-- `writer::rows_size` meets its contract.
-- Assumes nothing.
use mathlib.Core.Path.{ap₂}
use Prim.Native.Nat.{◌+◌, ◌-◌}
use native.Mathlib.Nat.{div-le_self}
use native.Mathlib.Omega.{arith}
use Rattle.sheet.specs.Data.{width_of}
use Rattle.laws.proofs.Named.{pointer-bytes}
use Rattle.writer.proofs.rows_size.Goals as goal

pub overflow_add-result : goal.overflow_add-result
overflow_add-result c = omega (arith, c.head_size.ensures, (pointer-bytes c.args.part).1, c.count.ensures, c.requires.2, div-le_self (c.args.columns + (width_of c.args.m - 1)) (width_of c.args.m), div-le_self 7 c.args.m)

pub returns : goal.returns
returns c = ap₂ ◌+◌ c.head_size.ensures c.count.ensures
