-- `protocol::undefined_from` meets its contract: what is left has the first that is no command.
-- Assumes nothing.
use mathlib.Core.Path.{sym, ◌∙◌}
use Rattle.sheet.specs.Parts.{part_of}
use Rattle.protocol.proofs.Commands.{one-defined, one-undefined, none-undefined}
use Rattle.protocol.proofs.undefined_from.Goals as goal

pub loop-i-preserved : goal.loop-i-preserved
loop-i-preserved c = let a = c.args in
    sym (one-defined (part_of a.part) a.bytes.now c.loop-i.i c.loop-i-test.true (sym c.is_defined.ensures ∙ c.if-not-is_defined.false)) ∙ c.loop-i.invariant

pub returns-then-not-is_defined : goal.returns-then-not-is_defined
returns-then-not-is_defined c = let a = c.args in
    sym (one-undefined (part_of a.part) a.bytes.now c.loop-i.i c.loop-i-test.true (sym c.is_defined.ensures ∙ c.if-not-is_defined.true)) ∙ c.loop-i.invariant

pub returns : goal.returns
returns c = let a = c.args in
    sym (none-undefined (part_of a.part) a.bytes.now c.loop-i.i c.loop-i-test.false) ∙ c.loop-i.invariant
