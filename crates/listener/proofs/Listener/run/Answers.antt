-- `listener::Listener::run` meets its contract.
-- Assumes nothing.
use Prim.Native.Nat.{◌*◌, ◌≤◌}
use native.Mathlib.Omega.{arith}
use native.Mathlib.Nat.{div-le_self, mul-le-mul_right}
use Rattle.sheet.specs.Parts.{part_of}
use Rattle.laws.proofs.Ranges.{range-of, rows_fit, planes_pos}
use Rattle.laws.proofs.Named.{position-small}
use Rattle.listener.proofs.Listener.run.Goals as goal

-- a byte has at most eight columns
steps-le : (c : goal.After-width) → c.width.result * c.args.n ≤ 8 * c.args.n
steps-le c = rw c.width.ensures (mul-le-mul_right c.args.n (omega (arith, div-le_self 7 c.backplanes-m.result)))

pub width-requires : goal.width-requires
width-requires c = rw c.backplanes-m.ensures (planes_pos c.args.self.registers)

pub overflow_add-after : goal.overflow_add-after
overflow_add-after c = let r = c.args.self.registers in
    omega (arith, steps-le c, c.requires.short, c.position-v.ensures, position-small c.args.part r (range-of (part_of c.args.part) r c.requires.range))

pub counted-requires : goal.counted-requires
counted-requires c = let r = c.args.self.registers in
    let h = range-of (part_of c.args.part) r c.requires.range in
    let fit = rows_fit r r.i h.m-in h.i-in in
    let m = c.backplanes-m.ensures in
    record { some = rw m fit.0; four = rw m (omega (arith, fit.1)); short = c.requires.short; acknowledged = c.requires.acknowledged; stored = c.requires.stored; discarded = c.requires.discarded }

pub last_of-requires : goal.last_of-requires
last_of-requires c = let r = c.args.self.registers in
    let h = range-of (part_of c.args.part) r c.requires.range in
    record { some = rw c.backplanes-m.ensures (planes_pos r); position = omega (arith, c.position-v.ensures, position-small c.args.part r h); short = c.requires.short }
