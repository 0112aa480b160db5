-- `runs::cut_byte` meets its contract, in either form.
-- Assumes nothing.
use mathlib.Core.Path.{subst}
use mathlib.Core.Bool.{Bool}
use Rattle.packed_sheet.specs.Packed.{columns_in}
use Rattle.ram.specs.Writes.{Cut}
use Rattle.runs.proofs.cut_byte.Goals as goal

pub cut_byte-requires : goal.cut_byte-requires
cut_byte-requires c = let a = c.args in
    subst (λ (b : Bool). Cut (columns_in b a.ram.now) a.at a.m a.bank a.rest.now) c.if-packed.true c.requires

pub cut_byte-requires-else-packed : goal.cut_byte-requires-else-packed
cut_byte-requires-else-packed c = let a = c.args in
    subst (λ (b : Bool). Cut (columns_in b a.ram.now) a.at a.m a.bank a.rest.now) c.if-packed.false c.requires

pub returns-then-packed : goal.returns-then-packed
returns-then-packed c = rw c.if-packed.true c.cut_byte.ensures

pub returns-else-packed : goal.returns-else-packed
returns-else-packed c = rw c.if-packed.false c.cut_byte-else-packed.ensures
