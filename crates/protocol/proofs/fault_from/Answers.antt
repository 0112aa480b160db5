-- `protocol::fault_from` meets its contract: after 40 all that is left is data; a control byte that strays is the fault itself.
-- Assumes nothing.
use mathlib.Core.Path.{refl, sym, ◌∙◌}
use borrow.Author.Tests.{ne_eqb}
use Rattle.sheet.specs.declared.Expect.TheVariants.{Control}
use Rattle.sheet.specs.declared.Refusal.TheVariants.{StrayBits}
use Rattle.sheet.specs.Parts.{part_of}
use Rattle.protocol.proofs.Faults.{found, of-run}
use Rattle.protocol.proofs.fault_from.Goals as goal

pub returns-then-control-eq64 : goal.returns-then-control-eq64
returns-then-control-eq64 c = let a = c.args in
    c.run_fault.ensures ∙ sym (of-run (part_of a.part) a.cut a.marks a.bytes.now a.from c.requires c.if-control-eq64.true)

pub returns-else-control-eq0 : goal.returns-else-control-eq0
returns-else-control-eq0 c = let a = c.args in
    sym (found (part_of a.part) a.cut a.marks Control a.bytes.now a.from c.requires (StrayBits a.from) (rw (ne_eqb _ 0 c.if-control-eq0.false) refl))
