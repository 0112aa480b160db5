use mathlib.Core.Path.{◌≡◌}
use Prim.Native.Nat.{◌-◌}
use lib.ListN.{length, drop}
use Rattle.image_sheet.specs.Images.{image_from}
use Rattle.image.proofs.read_records.Given as goal

abbrev pub invariant-loop-at : goal.invariant-loop-at
invariant-loop-at l = (image_from l.at l.given (drop l.at l.file) ≡ image_from 0 l.initial.given l.file) × (length l.given ≡ length l.initial.given)

abbrev pub decreases-loop-at : goal.decreases-loop-at
decreases-loop-at l = length l.file - l.at
