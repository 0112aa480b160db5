-- `cabi::humtrellis_chip_power_on` meets its contract: the call of one chip between bytes and chip.
-- Assumes nothing.
use mathlib.Core.Path.{refl}
use Rattle.answers.proofs.Small.{check-small}
use Rattle.cabi.specs.Calls.{chip_power_on_c}
use Rattle.lent_long.proofs.Sizes.{first-sized, second-sized}
use borrow.Author.Rules.{rules}
use Rattle.cabi.proofs.humtrellis_chip_power_on.Goals as goal

pub returns-then-chip-answer : goal.returns-then-chip-answer
unfolding chip_power_on_c
returns-then-chip-answer c = rw (c.if-chip-answer.true, c.put_numbers.ensures.value, c.put_numbers.ensures.out_after, c.check_numbers.ensures, c.put_chip.ensures, c.power_on-done.ensures.value, c.chip_of-before.ensures)

pub chip_of-before-requires : goal.chip_of-before-requires
unfolding chip_power_on_c
chip_of-before-requires c = search (rules, first-sized)

pub put_chip-requires : goal.put_chip-requires
unfolding chip_power_on_c
put_chip-requires c = search (rules, first-sized)

pub put_numbers-requires : goal.put_numbers-requires
unfolding chip_power_on_c
put_numbers-requires c = search (rules, second-sized, check-small)

pub returns-else-chip-answer : goal.returns-else-chip-answer
unfolding chip_power_on_c
returns-else-chip-answer c = rw c.if-chip-answer.false refl
