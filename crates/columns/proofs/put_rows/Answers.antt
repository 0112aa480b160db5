-- put_rows: after n turns the first n rows are put.
-- Assumes nothing.
use mathlib.Core.Path.{refl}
use native.Mathlib.Numerals.{add-one}
use Rattle.sheet.specs.Plain.{put_rows}
use Rattle.columns.proofs.put_rows.Goals as goal

pub loop-n-init : goal.loop-n-init
unfolding put_rows
loop-n-init c = refl

pub loop-n-preserved : goal.loop-n-preserved
unfolding put_rows
loop-n-preserved c = rw (add-one c.loop-n.n, c.put_row-put.ensures, c.loop-n.invariant) refl
