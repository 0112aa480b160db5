-- `packed_words::put` meets its contract.
-- Assumes nothing.
use Rattle.sheet.specs.Data.{changed}
use Rattle.words.specs.Fields.{mixed}
use borrow.Author.Rules.{rules}
use Rattle.packed_words.proofs.put.Goals as goal

pub returns : goal.returns
unfolding changed mixed
returns c = search rules
