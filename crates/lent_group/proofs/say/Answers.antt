-- `lent_group::say` meets its contract: the numbers of what is said.
-- Assumes nothing.
use mathlib.Core.Path.{ap, ◌∙◌}
use mathlib.Core.List.{List}
use Prim.Native.Nat.{ℕ}
use lib.ListN.{get_or}
use Rattle.answers.proofs.Small.{answer-small}
use borrow.Author.Rules.{rules}
use Rattle.lent_group.proofs.say.Goals as goal

pub returns : goal.returns
returns c = let told = c.numbers.ensures in
    record { value = c.put_numbers.ensures.value ∙ ap (λ (l : List ℕ). get_or l 0 0) told; answer_after = c.put_numbers.ensures.out_after ∙ told }

pub put_numbers-requires : goal.put_numbers-requires
put_numbers-requires c = search (rules, answer-small)
