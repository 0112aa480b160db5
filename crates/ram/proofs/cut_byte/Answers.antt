-- `ram::cut_byte` meets its contract: the bytes after the first have no column.
-- Assumes nothing.
use Rattle.laws.proofs.Ranges.{bank-rows-fit}
use Rattle.ram.proofs.cut_byte.Goals as goal

pub put_bits-requires : goal.put_bits-requires
put_bits-requires c = (c.requires.some, rw c.bank_row-b.ensures (bank-rows-fit c.args.m c.args.bank c.requires.four c.requires.two), c.requires.near)
