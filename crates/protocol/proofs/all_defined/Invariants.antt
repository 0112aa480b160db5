use mathlib.Core.Path.{◌≡◌}
use mathlib.Core.Bool.{◌&&◌}
use lib.ListN.{drop}
use Rattle.sheet.specs.Parts.{part_of}
use Rattle.protocol.specs.Left.{all_defined}
use Rattle.protocol.proofs.all_defined.Given as goal

abbrev pub invariant-loop-command : goal.invariant-loop-command
invariant-loop-command l = (l.found && all_defined (part_of l.part) (drop l.command-index l.commands)) ≡ all_defined (part_of l.part) l.commands
