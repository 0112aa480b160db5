-- `wire::put_both` meets its contract: the first twelve bytes, then the others.
-- Assumes nothing.
use mathlib.Core.Path.{ap, ap₂, ◌∙◌}
use mathlib.Core.List.{List, ◌++◌}
use Prim.Native.Nat.{ℕ}
use native.Mathlib.Omega.{arith}
use lib.ListN.{length, drop, length-take}
use Rattle.lemmas.proofs.Lists.{after_first}
use Rattle.wire.proofs.put_both.Goals as goal

pub returns : goal.returns
returns c = after_first c.put_registers.new.out (drop 12 c.args.out.now) c.put_registers-2.new.out 12 (ap length c.put_registers.ensures)
    ∙ ap₂ (λ (x y : List ℕ). x ++ y) c.put_registers.ensures c.put_registers-2.ensures

pub slice_bounds-put_registers-end-2 : goal.slice_bounds-put_registers-end-2
slice_bounds-put_registers-end-2 c = simp length-take (omega arith)

pub put_registers-requires : goal.put_registers-requires
put_registers-requires c = simp length-take (omega arith)
