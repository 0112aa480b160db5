use lib.ListN.{drop}
use Rattle.log_sheet.specs.Logs.{column_lines}
use Rattle.text.proofs.Writing.{Writing}
use Rattle.lines.proofs.put_columns.Given as goal

abbrev pub invariant-loop-i : goal.invariant-loop-i
invariant-loop-i l = Writing l.at (column_lines l.group 0 l.picture) l.initial.out l.place (column_lines l.group l.i (drop l.i l.picture)) l.out
