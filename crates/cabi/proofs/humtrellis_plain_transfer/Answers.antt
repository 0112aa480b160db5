-- `cabi::humtrellis_plain_transfer` meets its contract: the call of the plain account over lent chips.
-- Assumes nothing.
use mathlib.Core.Path.{refl}
use Rattle.answers.proofs.Small.{plain-small}
use Rattle.cabi.specs.Calls.{plain_c}
use Rattle.lent_long.proofs.Sizes.{first-sized, second-sized}
use borrow.Author.Rules.{rules}
use Rattle.cabi.proofs.humtrellis_plain_transfer.Goals as goal

pub returns-then-chips-answer : goal.returns-then-chips-answer
unfolding plain_c
returns-then-chips-answer c = rw (c.if-chips-answer.true, c.put_numbers.ensures.value, c.put_numbers.ensures.out_after, c.plain_numbers.ensures, c.transfer-said.ensures)

pub transfer-said-requires : goal.transfer-said-requires
unfolding plain_c
transfer-said-requires c = search (rules, first-sized)

pub put_numbers-requires : goal.put_numbers-requires
unfolding plain_c
put_numbers-requires c = search (rules, second-sized, plain-small)

pub returns-else-chips-answer : goal.returns-else-chips-answer
unfolding plain_c
returns-else-chips-answer c = rw c.if-chips-answer.false refl
