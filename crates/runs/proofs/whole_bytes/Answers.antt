-- `runs::whole_bytes` meets its contract, in either form.
-- Assumes nothing.
use mathlib.Core.Path.{subst}
use mathlib.Core.Bool.{Bool}
use Rattle.packed_sheet.specs.Packed.{columns_in}
use Rattle.ram.specs.Writes.{Whole}
use Rattle.runs.proofs.whole_bytes.Goals as goal

pub whole_bytes-requires : goal.whole_bytes-requires
whole_bytes-requires c = let a = c.args in
    (subst (λ (b : Bool). Whole (columns_in b a.ram.now) a.v a.m a.bank a.bytes.now) c.if-packed.true c.requires.0, c.requires.1)

pub whole_bytes-requires-else-packed : goal.whole_bytes-requires-else-packed
whole_bytes-requires-else-packed c = let a = c.args in
    subst (λ (b : Bool). Whole (columns_in b a.ram.now) a.v a.m a.bank a.bytes.now) c.if-packed.false c.requires.0

pub returns-then-packed : goal.returns-then-packed
returns-then-packed c = rw c.if-packed.true c.whole_bytes.ensures

pub returns-else-packed : goal.returns-else-packed
returns-else-packed c = rw c.if-packed.false c.whole_bytes-else-packed.ensures
