-- `gather::three_byte` meets its contract: columns of three, three and two rows.
-- Assumes nothing.
use Rattle.gather.proofs.Exchanged.{three-read}
use Rattle.gather.proofs.three_byte.Goals as goal

pub returns : goal.returns
returns c = cc (three-read c.args.at c.args.columns.now)
