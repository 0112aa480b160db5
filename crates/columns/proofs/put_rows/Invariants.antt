use mathlib.Core.Path.{◌≡◌}
use Rattle.sheet.specs.Plain.{put_rows}
use Rattle.columns.proofs.put_rows.Given as goal

-- the first n of m rows are put
abbrev pub invariant-loop-n : goal.invariant-loop-n
invariant-loop-n l = l.put ≡ put_rows l.n l.b l.k l.byte l.column
