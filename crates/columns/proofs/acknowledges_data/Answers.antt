-- acknowledges_data: the position of the last column says where A is then.
-- Assumes nothing.
use mathlib.Core.Path.{◌≡◌, sym, ap, ap₂, ◌∙◌}
use Prim.Native.Nat.{ℕ, ◌+◌, ◌-◌, ◌/◌, min}
use native.Mathlib.Nat.{div-le_self}
use native.Mathlib.Omega.{arith}
use lib.Dec.{eqb}
use Rattle.sheet.specs.declared.Registers.{Registers}
use Rattle.sheet.specs.Parts.{part_of}
use Rattle.sheet.specs.Registers.{backplanes}
use Rattle.sheet.specs.Plain.{acknowledges_data}
use Rattle.sheet.specs.Places.{position, at_position}
use Rattle.sheet.specs.Data.{width_of}
use Rattle.laws.proofs.Ranges.{range-of, planes_pos}
use Rattle.laws.proofs.Named.{position-small}
use Rattle.laws.proofs.Moves.{placed}
use Rattle.columns.proofs.acknowledges_data.Goals as goal

-- the last column
last : (v k : ℕ) → v + (k + 1) - 1 ≡ v + k
last v k = omega arith

pub width-width-requires : goal.width-width-requires
width-width-requires c = rw c.backplanes.ensures (planes_pos _)

pub overflow_add-last : goal.overflow_add-last
overflow_add-last c = let h = position-small c.args.part _ (range-of (part_of c.args.part) c.args.chip.registers c.requires) in
    omega (arith, c.position.ensures, h, c.width-width.ensures, div-le_self 7 c.backplanes.result)

pub returns : goal.returns
unfolding acknowledges_data at_position
returns c = let K = part_of c.args.part in
    let chip = c.args.chip in
    let r = chip.registers in
    ap (λ (a : ℕ). eqb a chip.subaddress)
    (c.min-a.ensures
    ∙ ap₂ min c.limit.ensures c.chip_of.ensures
    ∙ ap₂ (λ (v w : ℕ). min K.limit ((v + w - 1) / K.columns)) c.position.ensures (c.width-width.ensures ∙ ap width_of c.backplanes.ensures)
    ∙ ap (λ (k : ℕ). min K.limit (k / K.columns)) (last (position K r) (7 / backplanes r))
    ∙ sym (ap (λ (q : Registers). q.a) (placed K c.args.byte (7 / backplanes r) chip (range-of K r c.requires))))
