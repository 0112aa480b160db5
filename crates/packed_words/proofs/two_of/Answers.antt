-- `packed_words::two_of` meets its contract.
-- Assumes nothing.
use Rattle.words.specs.Fields.{column_of}
use borrow.Author.Rules.{rules}
use Rattle.packed_words.proofs.two_of.Goals as goal

pub returns : goal.returns
unfolding column_of
returns c = search rules
