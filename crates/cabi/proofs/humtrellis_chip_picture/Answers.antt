-- `cabi::humtrellis_chip_picture` meets its contract: the call of one chip between bytes and chip.
-- Assumes nothing.
use mathlib.Core.Path.{refl, ap, ◌∙◌}
use lib.Dec.{eqb}
use lib.ListN.{length}
use Rattle.sheet.specs.declared.Chip.{Chip}
use Rattle.sheet.specs.Plain.{chip_picture_part}
use Rattle.sheet.specs.Pictures.{Seen}
use Rattle.sheet.specs.Refusals.{picture_numbers}
use Rattle.answers.proofs.Small.{picture-small}
use Rattle.cabi.specs.Calls.{chip_picture_c}
use Rattle.lent_long.proofs.Said.{said}
use Rattle.lent_long.proofs.Sizes.{first-sized, second-sized}
use borrow.Author.Rules.{rules}
use Rattle.cabi.proofs.humtrellis_chip_picture.Goals as goal

pub returns-then-chip-answer : goal.returns-then-chip-answer
unfolding chip_picture_c
returns-then-chip-answer c = let a = c.args in
    let same = c.picture-shown.ensures.out_after ∙ ap (λ (c : Chip). chip_picture_part a.part c a.phase a.out.now) c.chip_of-before.ensures in
    said (eqb (length a.chip.now) 174) a.out.now a.answer.now c.if-chip-answer.true
    (c.picture_numbers.ensures ∙ ap (λ (s : Seen). picture_numbers s.result) same) (ap (λ (s : Seen). s.out) same) (c.put_numbers.ensures.value, c.put_numbers.ensures.out_after)

pub chip_of-before-requires : goal.chip_of-before-requires
unfolding chip_picture_c
chip_of-before-requires c = search (rules, first-sized)

pub put_numbers-requires : goal.put_numbers-requires
unfolding chip_picture_c
put_numbers-requires c = search (rules, second-sized, picture-small)

pub returns-else-chip-answer : goal.returns-else-chip-answer
unfolding chip_picture_c
returns-else-chip-answer c = rw c.if-chip-answer.false refl
