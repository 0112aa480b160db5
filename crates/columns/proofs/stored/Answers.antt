-- stored: by its test; the rows of the bank are rows of a column.
-- Assumes nothing.
use Rattle.laws.proofs.Ranges.{rows_fit}
use Rattle.columns.proofs.stored.Goals as goal

pub put_rows-requires : goal.put_rows-requires
put_rows-requires c = let r = c.args.registers in
    rw (c.bank_row-b.ensures, c.backplanes-m.ensures) ((rows_fit r r.i c.requires.0 c.requires.1).1, c.requires.2)
