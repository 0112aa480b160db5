-- `lent_long::picture` meets its contract: what is answered, as numbers.
-- Assumes nothing.
use mathlib.Core.Path.{refl, ap, ◌∙◌}
use lib.Dec.{eqb}
use lib.ListN.{length}
use Rattle.sheet.specs.Pictures.{Seen}
use Rattle.sheet.specs.Refusals.{picture_numbers}
use Rattle.answers.proofs.Small.{picture-small}
use Rattle.lent_long.specs.LongCalls.{picture_c}
use Rattle.lent_long.proofs.Said.{said}
use Rattle.lent_long.proofs.Sizes.{first-sized, second-sized}
use borrow.Author.Rules.{rules}
use Rattle.lent_long.proofs.picture.Goals as goal

pub returns-then-registers-answer : goal.returns-then-registers-answer
unfolding picture_c
returns-then-registers-answer c = let a = c.args in
    said (eqb (length a.registers.now) 24) a.out.now a.answer.now c.if-registers-answer.true
    (c.picture_numbers.ensures ∙ ap (λ (s : Seen). picture_numbers s.result) c.pictured-shown.ensures) (ap (λ (s : Seen). s.out) c.pictured-shown.ensures) (c.put_numbers.ensures.value, c.put_numbers.ensures.out_after)

pub pictured-shown-requires : goal.pictured-shown-requires
unfolding picture_c
pictured-shown-requires c = search (rules, first-sized)

pub put_numbers-requires : goal.put_numbers-requires
unfolding picture_c
put_numbers-requires c = search (rules, second-sized, picture-small)

pub returns-else-registers-answer : goal.returns-else-registers-answer
unfolding picture_c
returns-else-registers-answer c = rw c.if-registers-answer.false refl
