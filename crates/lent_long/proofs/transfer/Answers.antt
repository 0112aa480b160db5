-- `lent_long::transfer` meets its contract: what is answered.
-- Assumes nothing.
use mathlib.Core.Path.{refl, sym}
use lib.Dec.{eqb}
use lib.ListN.{length}
use Rattle.lent_long.specs.LongCalls.{transfer_c}
use Rattle.lent_long.proofs.Sizes.{first-sized, second-sized}
use Rattle.lent_long.proofs.transfer.Goals as goal

pub answered-requires : goal.answered-requires
answered-requires c = let a = c.args in
    let t = c.if-registers-answer.true in (first-sized (eqb (length a.answer.now) 6) t, second-sized (eqb (length a.registers.now) 24) t)

pub returns-then-registers-answer : goal.returns-then-registers-answer
unfolding transfer_c
returns-then-registers-answer c = rw c.if-registers-answer.true (sym c.answered.ensures)

pub returns-else-registers-answer : goal.returns-else-registers-answer
unfolding transfer_c
returns-else-registers-answer c = rw c.if-registers-answer.false refl
