-- `words::store_four` meets its contract.
-- Assumes nothing.
use mathlib.Core.Path.{◌∙◌}
use Rattle.words.proofs.Stored.{stored-four}
use Rattle.words.proofs.store_four.Goals as goal

pub returns : goal.returns
returns c = stored-four c.args.w c.args.at c.args.ram.now _ c.requires (c.copy_from_slice.ensures.after ∙ c.to_le_bytes.ensures)
