-- pass: the columns of all the bytes are one step to a position.
-- Assumes nothing.
use mathlib.Core.Path.{sym, ap, ap₂, ◌∙◌}
use Prim.Native.Nat.{ℕ, ◌+◌, ◌*◌, ◌≤◌}
use native.Mathlib.Nat.{div-le_self, mul-le-mul_right}
use native.Mathlib.Omega.{arith}
use Rattle.sheet.specs.Parts.{part_of}
use Rattle.sheet.specs.Registers.{backplanes}
use Rattle.sheet.specs.Places.{at_position}
use Rattle.sheet.specs.Data.{width_of}
use Rattle.laws.proofs.Ranges.{range-of, planes_pos}
use Rattle.laws.proofs.Named.{position-small}
use Rattle.laws.proofs.Steps.{many}
use Rattle.columns.proofs.pass.Goals as goal

pub width-width-requires : goal.width-width-requires
width-width-requires c = rw c.backplanes.ensures (planes_pos _)

-- a byte covers at most eight columns
few : (c : goal.After-position) → c.width-width.result * c.args.count ≤ 8 * 65536
few c = let s = c in
    let w : c.width-width.result ≤ 8 = omega (arith, c.width-width.ensures, div-le_self 7 c.backplanes.result) in
    omega (arith, s.requires.1, mul-le-mul_right s.args.count w)

pub overflow_add-v : goal.overflow_add-v
overflow_add-v c = omega (arith, few c, c.position.ensures, position-small c.args.part c.args.registers (range-of (part_of c.args.part) c.args.registers c.requires.0))

pub returns : goal.returns
returns c = let K = part_of c.args.part in
    let r = c.args.registers in
    let h = range-of K r c.requires.0 in
    c.at_position.ensures
    ∙ ap₂ (λ (v w : ℕ). at_position K r (v + w * c.args.count)) c.position.ensures (c.width-width.ensures ∙ ap width_of c.backplanes.ensures)
    ∙ sym (many K (width_of (backplanes r) * c.args.count) r h.p-in h.a_in)
