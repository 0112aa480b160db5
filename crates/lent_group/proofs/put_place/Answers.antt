-- `lent_group::put_place` meets its contract: of the twelve bytes, P and A are set.
-- Assumes nothing.
use mathlib.Core.Path.{◌≡◌, refl, ap₂, ◌∙◌}
use mathlib.Core.List.{List}
use Prim.Native.Nat.{ℕ, ◌/◌, ◌%◌, min}
use lib.ListN.{length, set}
use Rattle.sheet.specs.Parts.{Part, part_of}
use Rattle.sheet.specs.Places.{at_position}
use Rattle.wire.specs.Bytes.{registers_in, bytes_of}
use Rattle.lent_opening.proofs.Twelve.{by-twelve}
use Rattle.lent_group.proofs.put_place.Goals as goal

placed : (K : Part) (v : ℕ) (l : List ℕ) → length l ≡ 12 → set (set l 3 (v % K.columns % 256)) 4 (min K.limit (v / K.columns) % 256) ≡ bytes_of (at_position K (registers_in l) v)
unfolding at_position
placed K v l e = by-twelve (λ l. set (set l 3 (v % K.columns % 256)) 4 (min K.limit (v / K.columns) % 256) ≡ bytes_of (at_position K (registers_in l) v)) l e refl

pub returns : goal.returns
returns c = let a = c.args in
    let K = part_of a.part in
    ap₂ (λ (p c : ℕ). set (set a.set.now 3 (p % 256)) 4 (c % 256)) c.column_of.ensures (c.least-chip.ensures ∙ ap₂ min c.limit.ensures c.chip_of.ensures) ∙ placed K a.v a.set.now c.requires
