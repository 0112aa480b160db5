-- `cabi::humtrellis_write_rows` meets its contract: the writer between bytes and registers.
-- Assumes nothing.
use mathlib.Core.Path.{refl, ap, ◌∙◌}
use lib.Dec.{eqb}
use lib.ListN.{length}
use Rattle.sheet.specs.declared.Both.{Both}
use Rattle.sheet.specs.Refusals.{written_numbers}
use Rattle.sheet.specs.Written.{WrittenAfter}
use Rattle.writer_sheet.specs.Writer.{write_rows_part}
use Rattle.answers.proofs.Small.{written_small}
use Rattle.cabi.specs.Calls.{chips_of, write_rows_c}
use Rattle.lent_long.proofs.Said.{said}
use Rattle.lent_long.proofs.Sizes.{first-sized, second-sized}
use borrow.Author.Rules.{rules}
use Rattle.cabi.proofs.humtrellis_write_rows.Goals as goal

pub returns-then-registers-answer : goal.returns-then-registers-answer
unfolding write_rows_c
returns-then-registers-answer c = let a = c.args in
    let same = c.write_rows-written.ensures.out_after ∙ ap (λ (r : Both). write_rows_part a.part (chips_of a.zero a.one) r a.group a.mode a.bank a.wanted.now a.out.now) c.both_of-before.ensures in
    said (eqb (length a.registers.now) 24) a.out.now a.answer.now c.if-registers-answer.true
    (c.written_numbers.ensures ∙ ap (λ (s : WrittenAfter). written_numbers s.result) same) (ap (λ (s : WrittenAfter). s.out) same) (c.put_numbers.ensures.value, c.put_numbers.ensures.out_after)

pub both_of-before-requires : goal.both_of-before-requires
unfolding write_rows_c
both_of-before-requires c = search (rules, first-sized)

pub put_numbers-requires : goal.put_numbers-requires
unfolding write_rows_c
put_numbers-requires c = search (rules, second-sized, written_small)

pub returns-else-registers-answer : goal.returns-else-registers-answer
unfolding write_rows_c
returns-else-registers-answer c = rw c.if-registers-answer.false refl
