-- `cabi::humtrellis_rescue` meets its contract: the rescue and its numbers.
-- Assumes nothing.
use mathlib.Core.Path.{refl, ap}
use borrow.Author.Tests.{eq-eqb, ne_eqb}
use Rattle.log_sheet.specs.Rescue.{RescuedAfter}
use Rattle.answers.proofs.Small.{rescued-small}
use Rattle.cabi.specs.Calls.{rescue_c}
use borrow.Author.Rules.{rules}
use Rattle.cabi.proofs.humtrellis_rescue.Goals as goal

pub returns-then-answer-eq6 : goal.returns-then-answer-eq6
unfolding rescue_c
returns-then-answer-eq6 c = rw (eq-eqb _ 6 c.if-answer-eq6.true, c.put_numbers.ensures.value, c.put_numbers.ensures.out_after, c.rescued_numbers.ensures, ap (λ (s : RescuedAfter). s.result) c.rescue-rescued.ensures.out_after, ap (λ (s : RescuedAfter). s.out) c.rescue-rescued.ensures.out_after)

pub put_numbers-requires : goal.put_numbers-requires
unfolding rescue_c
put_numbers-requires c = search (rules, rescued-small)

pub returns-else-answer-eq6 : goal.returns-else-answer-eq6
unfolding rescue_c
returns-else-answer-eq6 c = rw (ne_eqb _ 6 c.if-answer-eq6.false) refl
