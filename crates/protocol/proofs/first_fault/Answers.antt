-- `protocol::first_fault` meets its contract: the whole bytes are the first so many.
-- Assumes nothing.
use mathlib.Core.Path.{ap, ◌∙◌}
use mathlib.Core.List.{List}
use Prim.Native.Nat.{ℕ}
use lib.Dec.{ltb}
use lib.ListN.{take, drop}
use Rattle.sheet.specs.declared.Expect.{Expect}
use Rattle.sheet.specs.Parts.{part_of}
use Rattle.sheet.specs.Checks.{fault_in}
use Rattle.laws.proofs.Wholes.{whole-taken}
use Rattle.protocol.proofs.first_fault.Goals as goal

pub returns : goal.returns
returns c = let a = c.args in
    let bytes = a.bytes.now in
    c.fault_in.ensures
    ∙ ap (λ (l : List ℕ). fault_in (part_of a.part) (ltb a.bits 8) a.marks Expect.Control 1 (drop 1 l)) (ap (λ (k : ℕ). take k bytes) c.whole_count-whole.ensures ∙ whole-taken bytes a.bits)
