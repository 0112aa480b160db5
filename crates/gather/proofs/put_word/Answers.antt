-- `gather::put_word` meets its contract: the four bytes of the number.
-- Assumes nothing.
use mathlib.Core.Path.{refl, ◌∙◌}
use native.Mathlib.Nat.{div-one}
use Rattle.words.specs.Fields.{column_of}
use Rattle.gather.proofs.put_word.Goals as goal

pub returns : goal.returns
unfolding column_of
returns c = c.copy_from_slice.ensures.after ∙ c.to_le_bytes.ensures ∙ rw (div-one c.args.word) refl
