-- `text::put_line` meets its contract: the letter, the numbers and LF.
-- Assumes nothing.
use Rattle.std.proofs.Common.{List, ℕ, ◌+◌, ◌≤◌, length}
use Rattle.log_sheet.specs.Logs.{spaced, line}
use Rattle.text.proofs.Writing.{Writing, begin, turn, last, room_for}
use Rattle.text.proofs.put_line.Goals as goal

-- the whole line is left
opened : (at letter : ℕ) (numbers out : List ℕ) → at + length (line letter numbers) ≤ length out → Writing at (line letter numbers) out at (line letter numbers) out
opened at letter numbers out room = begin at (line letter numbers) out room

pub put_numbers-end-requires : goal.put_numbers-end-requires
put_numbers-end-requires c = room_for (spaced c.args.numbers.now) _ (turn (opened c.args.at c.args.letter c.args.numbers.now c.args.out.now c.requires) c.put_byte-start.ensures)

pub put_byte-requires : goal.put_byte-requires
put_byte-requires c = (turn (turn (opened c.args.at c.args.letter c.args.numbers.now c.args.out.now c.requires) c.put_byte-start.ensures) c.put_numbers-end.ensures).room

pub returns : goal.returns
returns c = last (turn (turn (opened c.args.at c.args.letter c.args.numbers.now c.args.out.now c.requires) c.put_byte-start.ensures) c.put_numbers-end.ensures) c.put_byte.ensures
