use mathlib.Core.Path.{◌≡◌}
use lib.ListN.{drop}
use Rattle.sheet.specs.Parts.{part_of}
use Rattle.protocol.specs.Left.{undefined_in}
use Rattle.protocol.proofs.undefined_from.Given as goal

abbrev pub invariant-loop-i : goal.invariant-loop-i
invariant-loop-i l = undefined_in (part_of l.part) l.i (drop l.i l.bytes) ≡ undefined_in (part_of l.part) l.from (drop l.from l.bytes)
