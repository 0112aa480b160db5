-- shown: by its one test, which is the definition's.
-- Assumes nothing.
use Rattle.sheet.specs.Pictures.{shown}
use Rattle.shown.proofs.shown.Goals as goal

pub returns-then-registers-blinked : goal.returns-then-registers-blinked
unfolding shown
returns-then-registers-blinked c = rw (← c.backplanes-m.ensures, c.if-registers-blinked.true)

pub returns : goal.returns
unfolding shown
returns c = rw (← c.backplanes-m.ensures, c.if-registers-blinked.false, c.bank_row.ensures, c.bank_shown.ensures)
