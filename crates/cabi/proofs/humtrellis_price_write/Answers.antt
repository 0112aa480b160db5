-- `cabi::humtrellis_price_write` meets its contract: the price written on the glass and its numbers.
-- Assumes nothing.
use mathlib.Core.Path.{refl, ap}
use borrow.Author.Tests.{eq-eqb, ne_eqb}
use Rattle.sheet.specs.Written.{WrittenAfter}
use Rattle.answers.proofs.Small.{written_small}
use Rattle.cabi.specs.Calls.{price_write_c}
use borrow.Author.Rules.{rules}
use Rattle.cabi.proofs.humtrellis_price_write.Goals as goal

pub returns-then-answer-eq6 : goal.returns-then-answer-eq6
unfolding price_write_c
returns-then-answer-eq6 c = rw (eq-eqb _ 6 c.if-answer-eq6.true, c.put_numbers.ensures.value, c.put_numbers.ensures.out_after, c.written_numbers.ensures, ap (λ (s : WrittenAfter). s.result) c.write-written.ensures.out_after, ap (λ (s : WrittenAfter). s.out) c.write-written.ensures.out_after)

pub put_numbers-requires : goal.put_numbers-requires
unfolding price_write_c
put_numbers-requires c = search (rules, written_small)

pub returns-else-answer-eq6 : goal.returns-else-answer-eq6
unfolding price_write_c
returns-else-answer-eq6 c = rw (ne_eqb _ 6 c.if-answer-eq6.false) refl
