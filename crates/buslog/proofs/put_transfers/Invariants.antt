use mathlib.Core.Path.{◌≡◌}
use Prim.Native.Nat.{◌-◌}
use lib.ListN.{length}
use Rattle.sheet.specs.Parts.{pcf8532}
use Rattle.sheet.specs.Long.{state_of}
use Rattle.log_sheet.specs.Logs.{seen_bytes}
use Rattle.wire.specs.Bytes.{both_of}
use Rattle.lent_long.specs.LongCalls.{Sendable}
use Rattle.buslog.proofs.Playing.{Playing}
use Rattle.buslog.proofs.put_transfers.Given as goal

-- the invariant, that the cursor knows the version, and that no call refuses the state
abbrev pub invariant-loop-start : goal.invariant-loop-start
invariant-loop-start l =
    Playing l.log l.chips (state_of (both_of l.initial.registers) l.initial.ram) l.initial.out (state_of (both_of l.registers) l.ram) l.out l.index l.at l.cursor.at × (l.cursor.seen ≡ seen_bytes l.log) × Sendable pcf8532 l.chips l.registers l.ram

abbrev pub decreases-loop-start : goal.decreases-loop-start
decreases-loop-start l = length l.log - l.cursor.at
