-- `image::finish` meets its contract: bytes after the end record, or none.
-- Assumes nothing.
use lib.ListN.{drop_of_length-le}
use Rattle.lemmas.proofs.Lists.{next}
use Rattle.image.proofs.finish.Goals as goal

pub returns-then-end-file : goal.returns-then-end-file
returns-then-end-file c = let a = c.args in rw (next a.file.now a.end c.if-end-file.true)

pub returns-else-end-file : goal.returns-else-end-file
returns-else-end-file c = let a = c.args in rw (drop_of_length-le a.file.now c.if-end-file.false) c.first_missing.ensures
