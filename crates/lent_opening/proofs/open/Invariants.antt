use mathlib.Core.Path.{◌≡◌}
use Prim.Native.Nat.{◌-◌, ◌≤◌}
use lib.ListN.{length, drop}
use Rattle.sheet.specs.Parts.{part_of}
use Rattle.opening.specs.Opened.{opened}
use Rattle.wire.specs.Bytes.{registers_in}
use Rattle.lent_opening.proofs.open.Given as goal

abbrev pub invariant-loop-at : goal.invariant-loop-at
invariant-loop-at l =
    (opened (part_of l.part) (registers_in l.set) l.at (drop l.at l.bytes) ≡ opened (part_of l.part) (registers_in l.initial.set) 1 (drop 1 l.bytes)) × (l.at ≤ length l.bytes) × (length l.set ≡ 12)

abbrev pub decreases-loop-at : goal.decreases-loop-at
decreases-loop-at l = length l.bytes - l.at
