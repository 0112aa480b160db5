-- `lent_long::power_on` meets its contract: the call of the long account, registers written as bytes.
-- Assumes nothing.
use mathlib.Core.Path.{refl}
use Rattle.answers.proofs.Small.{check-small}
use Rattle.lent_long.specs.LongCalls.{power_on_c}
use Rattle.lent_long.proofs.Sizes.{first-sized, second-sized}
use borrow.Author.Rules.{rules}
use Rattle.lent_long.proofs.power_on.Goals as goal

pub returns-then-registers-answer : goal.returns-then-registers-answer
unfolding power_on_c
returns-then-registers-answer c = rw (c.if-registers-answer.true, c.put_numbers.ensures.value, c.put_numbers.ensures.out_after, c.check_numbers.ensures, c.put_both.ensures, c.power_on-done.ensures.value)

pub put_both-requires : goal.put_both-requires
unfolding power_on_c
put_both-requires c = search (rules, first-sized)

pub put_numbers-requires : goal.put_numbers-requires
unfolding power_on_c
put_numbers-requires c = search (rules, second-sized, check-small)

pub returns-else-registers-answer : goal.returns-else-registers-answer
unfolding power_on_c
returns-else-registers-answer c = rw c.if-registers-answer.false refl
