-- advance: by its test.
-- Assumes nothing.
use mathlib.Core.Path.{sym, ap, ◌∙◌}
use Prim.Native.Nat.{ℕ}
use native.Mathlib.Omega.{arith}
use borrow.Author.Tests.{eq-eqb, ne_eqb}
use Rattle.sheet.specs.Registers.{at_place}
use Rattle.sheet.specs.Places.{advanced}
use Rattle.laws.proofs.Named.{columns-small, limit-small}
use Rattle.columns.proofs.advance.Goals as goal

pub overflow_add-registers : goal.overflow_add-registers
overflow_add-registers c = omega (arith, c.requires.0, columns-small c.args.part)

pub overflow_add-registers-then-registers-columns : goal.overflow_add-registers-then-registers-columns
overflow_add-registers-then-registers-columns c = omega (arith, c.requires.1, limit-small c.args.part)

pub returns-then-registers-columns : goal.returns-then-registers-columns
unfolding advanced
returns-then-registers-columns c = rw (eq-eqb _ _ (c.if-registers-columns.true ∙ c.columns.ensures))
    (ap (λ (a : ℕ). at_place c.args.registers 0 a) (omega (arith, limit-small c.args.part)))

pub returns-else-registers-columns : goal.returns-else-registers-columns
unfolding advanced
returns-else-registers-columns c = rw (ne_eqb _ _ (λ e. c.if-registers-columns.false (e ∙ sym c.columns.ensures)))
