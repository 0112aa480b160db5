use lib.ListN.{drop}
use Rattle.log_sheet.specs.Logs.{spaced}
use Rattle.text.proofs.Writing.{Writing}
use Rattle.text.proofs.put_numbers.Given as goal

abbrev pub invariant-loop-number : goal.invariant-loop-number
invariant-loop-number l = Writing l.at (spaced l.numbers) l.initial.out l.place (spaced (drop l.number-index l.numbers)) l.out
