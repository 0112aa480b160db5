-- `lent_long::fits` meets its contract: group 0's bytes and then group 1's.
-- Assumes nothing.
use mathlib.Core.Path.{ap, ap₂, ◌∙◌}
use mathlib.Core.Bool.{◌&&◌}
use mathlib.Core.List.{List}
use Prim.Native.Nat.{ℕ}
use native.Mathlib.Omega.{arith}
use lib.ListN.{length-take}
use Rattle.sheet.specs.Parts.{part_of}
use Rattle.sheet.specs.Registers.{in_range}
use Rattle.lemmas.proofs.Lists.{part-rest}
use Rattle.wire.specs.Bytes.{registers_in}
use Rattle.lent_long.proofs.fits.Goals as goal

pub returns : goal.returns
returns c = let a = c.args in
    ap₂ ◌&&◌ c.in_range.ensures (c.in_range-2.ensures ∙ ap (λ (l : List ℕ). in_range (part_of a.part) (registers_in l)) (part-rest a.registers.now 12))

pub slice_bounds-in_range-end : goal.slice_bounds-in_range-end
slice_bounds-in_range-end c = simp length-take (omega arith)

pub in_range-requires : goal.in_range-requires
in_range-requires c = simp length-take (omega arith)
