-- `lent_group::is_fitting` meets its contract.
-- Assumes nothing.
use mathlib.Core.Path.{◌≡◌, sym, ap, subst, ◌∙◌}
use mathlib.Core.Bool.{Bool, ◌&&◌}
use Prim.Native.Nat.{ℕ, ◌+◌, ◌-◌, ◌*◌, ◌≤◌, ◌<◌}
use native.Mathlib.Nat.{div-le_self, mul-le-mul_right}
use native.Mathlib.Omega.{arith}
use mathlib.Core.List.{List}
use lib.Dec.{eqb, ltb, leb}
use lib.ListN.{length}
use borrow.Author.Tests.{ltb-true}
use Rattle.lemmas.proofs.Tests.{both_true}
use Rattle.sheet.specs.Parts.{part_of}
use Rattle.sheet.specs.Data.{width_of}
use Rattle.laws.proofs.Named.{position-small}
use Rattle.laws.proofs.Ranges.{range-of, planes_pos}
use Rattle.lent_group.specs.Sets.{run_end}
use Rattle.lent_group.proofs.is_fitting.Goals as goal

-- what is looked at before the columns
abbrev looked : ℕ → ℕ → List ℕ → ℕ → Bool
looked bits from bytes byte = eqb bits 8 && (ltb (from + 1) (length bytes) && eqb byte 64)

-- a byte has at most eight columns
most : (w m n : ℕ) → w ≡ width_of m → w * n ≤ 8 * n
most w m n e = rw e (mul-le-mul_right n (omega (arith, div-le_self 7 m)))

pub overflow_sub-n : goal.overflow_sub-n
overflow_sub-n c = let a = c.args in
    let h : a.from + 1 < length a.bytes.now =
    ltb-true (a.from + 1) (length a.bytes.now) (both_true (ltb (a.from + 1) (length a.bytes.now)) (eqb c.byte_at.result 64) (both_true (eqb a.bits 8) _ c.if-bits-from.true).1).0 in
    omega (arith, h)

pub width-w-requires : goal.width-w-requires
width-w-requires c = subst (λ (m : ℕ). 0 < m) (sym c.backplanes.ensures) (planes_pos c.args.registers)

pub overflow_mul-result : goal.overflow_mul-result
overflow_mul-result c = omega (arith, most c.width-w.result c.backplanes.result (length c.args.bytes.now - (c.args.from + 1)) c.width-w.ensures, c.requires.1)

pub overflow_add-result : goal.overflow_add-result
overflow_add-result c = omega (arith, most c.width-w.result c.backplanes.result (length c.args.bytes.now - (c.args.from + 1)) c.width-w.ensures, c.requires.1, c.position.ensures, position-small c.args.part c.args.registers (range-of (part_of c.args.part) c.args.registers c.requires.0))

pub returns-then-bits-from : goal.returns-then-bits-from
returns-then-bits-from c = let a = c.args in
    (λ i. leb (c.position.ensures i + (c.width-w.ensures ∙ ap width_of c.backplanes.ensures) i * (length a.bytes.now - (a.from + 1))) a.size)
    ∙ sym (ap (λ (t : Bool). t && leb (run_end (part_of a.part) a.registers a.bytes.now a.from) a.size) (ap (looked a.bits a.from a.bytes.now) (sym c.byte_at.ensures) ∙ c.if-bits-from.true))

pub returns-else-bits-from : goal.returns-else-bits-from
returns-else-bits-from c = let a = c.args in
    sym (ap (λ (t : Bool). t && leb (run_end (part_of a.part) a.registers a.bytes.now a.from) a.size) (ap (looked a.bits a.from a.bytes.now) (sym c.byte_at.ensures) ∙ c.if-bits-from.false))
