use mathlib.Core.Path.{◌≡◌}
use Prim.Native.Nat.{◌-◌}
use lib.ListN.{length}
use Rattle.sheet.specs.Long.{state_of}
use Rattle.log_sheet.specs.Logs.{seen_bytes}
use Rattle.outcome.proofs.Carrying.{Carrying}
use Rattle.outcome.proofs.carry_out.Given as goal

-- the invariant, and that the cursor knows the version
abbrev pub invariant-loop-start : goal.invariant-loop-start
invariant-loop-start l = Carrying l.log l.chips (state_of l.initial.registers l.initial.ram) (state_of l.registers l.ram) l.cursor.at × (l.cursor.seen ≡ seen_bytes l.log)

abbrev pub decreases-loop-start : goal.decreases-loop-start
decreases-loop-start l = length l.log - l.cursor.at
