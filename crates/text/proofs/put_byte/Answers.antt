-- `text::put_byte` meets its contract: one store.
-- Assumes nothing.
use Rattle.text.proofs.Writing.{puts-byte}
use Rattle.text.proofs.put_byte.Goals as goal

pub returns : goal.returns
returns c = puts-byte c.args.at c.args.byte c.args.out.now
