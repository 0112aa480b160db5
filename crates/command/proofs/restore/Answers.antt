-- restore: where every mark is known, a command changes none.
-- Assumes nothing.
use mathlib.Core.Path.{sym, ◌∙◌}
use Rattle.sheet.specs.Parts.{part_of}
use Rattle.command.proofs.Cases.{known-stays}
use Rattle.command.proofs.restore.Goals as goal

pub returns-then-all_known : goal.returns-then-all_known
returns-then-all_known c = let a = c.args in
    known-stays ((part_of a.part).command a.byte) a.marks (sym c.all_known.ensures ∙ c.if-all_known.true)
